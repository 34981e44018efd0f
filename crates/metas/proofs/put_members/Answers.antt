use Rattle.metas.proofs.MetaLaws.{set_room}
use lib.ListN.{length}
use mathlib.Core.List.{[]}
use Rattle.metas.proofs.put_members.Goals as goal

pub put_set-requires : goal.put_set-requires
put_set-requires c = let s = c in let a = s.args in (s.requires.0, set_room a.text.now a.at (length a.pool.now) a.decl _ c.in-Set.is s.requires.1)

pub returns-in-Set : goal.returns-in-Set
returns-in-Set c = λ ns m. rw c.in-Set.is (c.put_set.ensures ns m)

pub returns-in-Source : goal.returns-in-Source
returns-in-Source c = λ ns m. rw c.in-Source.is

pub returns-in-Scope : goal.returns-in-Scope
returns-in-Scope c = λ ns m. rw c.in-Scope.is

pub returns-in-Ident : goal.returns-in-Ident
returns-in-Ident c = λ ns m. rw c.in-Ident.is

pub returns-in-Attr : goal.returns-in-Attr
returns-in-Attr c = λ ns m. rw c.in-Attr.is

pub returns-in-Io : goal.returns-in-Io
returns-in-Io c = λ ns m. rw c.in-Io.is

pub returns-in-Cell : goal.returns-in-Cell
returns-in-Cell c = λ ns m. rw c.in-Cell.is
