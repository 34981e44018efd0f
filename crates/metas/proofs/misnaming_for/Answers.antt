use Rattle.noting.specs.Formed.{DeclIn}
use mathlib.Core.Path.{subst}
use Rattle.metas.proofs.misnaming_for.Goals as goal

pub returns-in-Set : goal.returns-in-Set
returns-in-Set c = λ ns numbers m l t. rw c.in-Set.is (c.first_misnamed_member.ensures.1 ns numbers m l t)

pub returns-in-Source : goal.returns-in-Source
returns-in-Source c = λ ns numbers m l t. rw c.in-Source.is

pub returns-in-Scope : goal.returns-in-Scope
returns-in-Scope c = let s = c in let e = c.in-Scope.is in let d = subst (DeclIn s.args.text.now) e s.requires.1 in λ ns numbers m l t. rw e (c.scope_misnaming.ensures ns numbers m l t d.1.small d.2.small)

pub returns-in-Ident : goal.returns-in-Ident
returns-in-Ident c = let s = c in let e = c.in-Ident.is in let d = subst (DeclIn s.args.text.now) e s.requires.1 in λ ns numbers m l t. rw e (c.misnaming_of.ensures ns numbers m l t d.1.small)

pub returns-in-Attr : goal.returns-in-Attr
returns-in-Attr c = λ ns numbers m l t. rw c.in-Attr.is

pub returns-in-Io : goal.returns-in-Io
returns-in-Io c = λ ns numbers m l t. rw c.in-Io.is

pub returns-in-Cell : goal.returns-in-Cell
returns-in-Cell c = λ ns numbers m l t. rw c.in-Cell.is
