use Rattle.std.specs.Prelude.{Ok}
use Rattle.std.proofs.lemmas.Result.{err_from_is_err_and}
use mathlib.Core.Path.{sym, ap, ◌∙◌}
use Rattle.noting.proofs.Forming.{formed}
use Rattle.declaring.proofs.Declaring.{next_refused, next_ended, next_took}
use Rattle.declaring.proofs.Freshness.{fresh_decl}
use Rattle.declaring.proofs.declarations.take_next.Goals as goal

pub is_fresh-fresh-requires : goal.is_fresh-fresh-requires
is_fresh-fresh-requires c = formed c.args.text.now c.args.reader.next.at _ _ (sym c.declaration_with.ensures ∙ c.in_ok-d.was ∙ ap Ok c.in-Some.is)

pub take_one-requires : goal.take_one-requires
take_one-requires c = let s = c in let a = s.args in let p = s.requires.1 in let f = formed c.args.text.now c.args.reader.next.at _ _ (sym c.declaration_with.ensures ∙ c.in_ok-d.was ∙ ap Ok c.in-Some.is) in (s.requires.0, record { so = p.so; noted = p.noted }, f, fresh_decl a.text.now p.so a.n a.rows.now a.bits.now a.work.now p.noted _ _ f (c.is_fresh-fresh.ensures.after p.so p.marked).0)

pub returns-in_err-d : goal.returns-in_err-d
returns-in_err-d c = let q = err_from_is_err_and c.from_residual.result c.from_residual.ensures.1 in rw (q.1, q.2) (next_refused _ (sym c.declaration_with.ensures ∙ c.in_err-d.was))

pub returns-in_default : goal.returns-in_default
returns-in_default c = next_ended (sym c.declaration_with.ensures ∙ c.in_ok-d.was ∙ ap Ok c.in_default.is)

pub returns : goal.returns
returns c = next_took (sym c.declaration_with.ensures ∙ c.in_ok-d.was ∙ ap Ok c.in-Some.is) c.is_fresh-fresh.ensures c.take_one.ensures
