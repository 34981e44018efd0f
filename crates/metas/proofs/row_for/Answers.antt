use Rattle.noting.specs.Formed.{DeclIn}
use mathlib.Core.Path.{subst}
use Rattle.metas.proofs.row_for.Goals as goal

pub spot_of-requires : goal.spot_of-requires
spot_of-requires c = let s = c in (s.requires.0, subst (DeclIn s.args.text.now) c.in-Source.is s.requires.1)

pub scope_row-requires : goal.scope_row-requires
scope_row-requires c = let s = c in (s.requires.0, (subst (DeclIn s.args.text.now) c.in-Scope.is s.requires.1).0)

pub spot_of-requires-in-Ident : goal.spot_of-requires-in-Ident
spot_of-requires-in-Ident c = let s = c in (s.requires.0, (subst (DeclIn s.args.text.now) c.in-Ident.is s.requires.1).0)

pub attr_row-requires : goal.attr_row-requires
attr_row-requires c = let s = c in let d = subst (DeclIn s.args.text.now) c.in-Attr.is s.requires.1 in (s.requires.0, d.0, d.1)

pub returns-in-Set : goal.returns-in-Set
returns-in-Set c = λ ns m. rw (c.set_row.ensures, c.in-Set.is)

pub returns-in-Source : goal.returns-in-Source
returns-in-Source c = λ ns m. rw (c.source_row.ensures, c.spot_of.ensures, c.in-Source.is)

pub returns-in-Scope : goal.returns-in-Scope
returns-in-Scope c = let s = c in let d = subst (DeclIn s.args.text.now) c.in-Scope.is s.requires.1 in λ ns m. rw (c.scope_row.ensures, c.ref_row-in-Scope.ensures.1 ns m d.2.small, c.ref_row.ensures.1 ns m d.1.small, c.in-Scope.is)

pub returns-in-Ident : goal.returns-in-Ident
returns-in-Ident c = let s = c in let d = subst (DeclIn s.args.text.now) c.in-Ident.is s.requires.1 in λ ns m. rw (c.plain_row.ensures, c.ref_row-in-Ident.ensures.1 ns m d.1.small, c.spot_of-in-Ident.ensures, c.in-Ident.is)

pub returns-in-Attr : goal.returns-in-Attr
returns-in-Attr c = λ ns m. rw (c.attr_row.ensures, c.in-Attr.is)

pub returns-in-Io : goal.returns-in-Io
returns-in-Io c = λ ns m. rw (c.plain_row-in-Io.ensures, c.no_spot.ensures, c.in-Io.is)

pub returns-in-Cell : goal.returns-in-Cell
returns-in-Cell c = λ ns m. rw (c.plain_row-in-Cell.ensures, c.no_spot-in-Cell.ensures, c.in-Cell.is)
