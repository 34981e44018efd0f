use mathlib.Core.Path.{sym, subst, ◌∙◌}
use Rattle.noting.specs.Formed.{DeclIn}
use Rattle.declaring.proofs.Declaring.{is_cell, is_pad, is_metadata_lem}
use Rattle.declaring.proofs.Freshness.{meta_freshens, pad_freshens, cell_freshens}
use Rattle.declaring.proofs.fresh.is_fresh.Goals as goal

pub mark_cell-requires : goal.mark_cell-requires
mark_cell-requires c = (subst (DeclIn c.args.text.now) (is_cell c.args.d.decl _ (sym c.sort_of.ensures ∙ c.in-Cell.is)) c.requires.decl).name

pub mark_name-requires : goal.mark_name-requires
mark_name-requires c = subst (DeclIn c.args.text.now) (is_pad c.args.d.decl _ _ (sym c.sort_of.ensures ∙ c.in-Pad.is)) c.requires.decl

pub returns-in-Cell : goal.returns-in-Cell
returns-in-Cell c = let a = c.args in cell_freshens a.text.now a.d a.seen.now _ (is_cell c.args.d.decl _ (sym c.sort_of.ensures ∙ c.in-Cell.is)) c.mark_cell.ensures

pub returns-in-Pad : goal.returns-in-Pad
returns-in-Pad c = let a = c.args in pad_freshens a.text.now a.d a.seen.now _ _ (is_pad c.args.d.decl _ _ (sym c.sort_of.ensures ∙ c.in-Pad.is)) c.mark_name.ensures

pub returns-in-Metadata : goal.returns-in-Metadata
returns-in-Metadata c = let a = c.args in meta_freshens a.text.now a.d a.seen.now (is_metadata_lem a.d.decl (sym c.sort_of.ensures ∙ c.in-Metadata.is))
