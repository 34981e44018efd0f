use Rattle.declaring.proofs.Declaring.{is_cell, is_pad, is_metadata_lem, pad_noted}
use Rattle.noting.specs.Formed.{DeclIn}
use mathlib.Core.Path.{sym, ◌∙◌, subst}
use Rattle.declaring.proofs.notes.note.Goals as goal

pub note_cell-requires : goal.note_cell-requires
note_cell-requires c = let p = c in let e = is_cell p.args.d.decl _ (sym c.sort_of.ensures ∙ c.in-Cell.is) in (p.requires.0, p.requires.1, p.requires.2, e, p.requires.3.cell _ e)

pub note_io-requires : goal.note_io-requires
note_io-requires c = let p = c in
    let e = is_pad p.args.d.decl _ _ (sym c.sort_of.ensures ∙ c.in-Pad.is) in
    let n = p.requires.1 in
    (p.requires.0, record { bits = p.args.bits.now; work = p.args.work.now; so = n.so; noted = n.noted }, subst (DeclIn p.args.text.now) e p.requires.2.decl, p.requires.3.io _ _ e)

pub note_meta-requires : goal.note_meta-requires
note_meta-requires c = let p = c in (p.requires.0, p.requires.1, p.requires.2, is_metadata_lem p.args.d.decl (sym c.sort_of.ensures ∙ c.in-Metadata.is))

pub returns-in-Pad : goal.returns-in-Pad
returns-in-Pad c = pad_noted _ _ (is_pad c.args.d.decl _ _ (sym c.sort_of.ensures ∙ c.in-Pad.is)) c.note_io.ensures
