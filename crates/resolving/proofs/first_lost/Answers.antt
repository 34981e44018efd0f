use Rattle.brackets.specs.Parts.{parts_at}
use Rattle.resolving.specs.Resolving.{lost_from}
use Rattle.resolving.proofs.Finding.{words_on, words_stop, word_none}
use mathlib.Core.Path.{◌≡◌, sym, ap, ◌∙◌}
use Prim.Native.Nat.{◌-◌, ◌≤◌}
use native.Mathlib.Omega.{arith}
use lib.ListN.{drop}
use Rattle.resolving.proofs.first_lost.Goals as goal

pub loop-i-init : goal.loop-i-init
loop-i-init c = (omega arith, let z : c.args.n - 0 ≡ c.args.n = omega arith in rw z)

pub bounds-places-i : goal.bounds-places-i
bounds-places-i c = let h = c.requires in omega (arith, h)

pub returns-in-Some : goal.returns-in-Some
returns-in-Some c = let a = c.args in let l = c.loop-i in words_stop a.text.now a.map.now a.cells.now a.places.now a.n l.i c.loop-i-test.true _ (sym (ap (λ (o : _). lost_from a.map.now a.cells.now (parts_at a.text.now o)) c.operand_of.ensures) ∙ sym c.lost_in.ensures ∙ c.in-Some.is) ∙ l.invariant.1

pub loop-i-preserved : goal.loop-i-preserved
loop-i-preserved c = let a = c.args in let l = c.loop-i in (omega arith, words_on a.text.now a.map.now a.cells.now a.places.now a.n l.i c.loop-i-test.true (sym (ap (λ (o : _). lost_from a.map.now a.cells.now (parts_at a.text.now o)) c.operand_of.ensures) ∙ sym c.lost_in.ensures ∙ c.in_default.is) ∙ l.invariant.1)

pub returns : goal.returns
returns c = let a = c.args in let l = c.loop-i in let z : a.n - l.i ≤ 0 = (let h = c.loop-i-test.false in omega arith) in sym (word_none a.text.now a.map.now a.cells.now (drop l.i a.places.now) (a.n - l.i) z) ∙ l.invariant.1
