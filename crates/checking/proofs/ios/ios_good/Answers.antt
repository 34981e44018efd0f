use Prim.Native.Nat.{◌-◌, ◌*◌}
use native.Mathlib.Omega.{arith}
use mathlib.Core.Path.{◌≡◌, sym, ◌∙◌}
use lib.ListN.{length-drop}
use Rattle.checkmeta.proofs.Laws.{rest_all}
use Rattle.checking.proofs.Laws.{walking_on, ios_off, ios_end}
use Rattle.checking.proofs.ios.ios_good.Goals as goal

pub loop-i-init : goal.loop-i-init
loop-i-init c = let a = c.args in record { row = omega arith; s_room = c.requires.1; is = let e : a.n - 0 ≡ a.n = omega arith in rw e }

pub io_good-requires : goal.io_good-requires
io_good-requires c = let a = c.args in (rw (rest_all a.ios.now (c.loop-i.i * 3), length-drop) (omega (arith, c.requires, c.loop-i-test.true)), c.loop-i.invariant.s_room)

pub loop-i-preserved : goal.loop-i-preserved
loop-i-preserved c = let a = c.args in walking_on c.loop-i.invariant c.loop-i-test.true (rw (rest_all a.ios.now (c.loop-i.i * 3)) at (sym c.io_good.ensures ∙ c.if-not-io_good.false)) _ c.word_of-s.ensures.0

pub returns-then-not-io_good : goal.returns-then-not-io_good
returns-then-not-io_good c = let a = c.args in let p = c.loop-i in (ios_off a.ios.now p.i p.s a.n c.loop-i-test.true (rw (rest_all a.ios.now (p.i * 3)) at (sym c.io_good.ensures ∙ c.if-not-io_good.true)) ∙ p.invariant.is, omega arith)

pub returns-then-blank_words : goal.returns-then-blank_words
returns-then-blank_words c = let a = c.args in let p = c.loop-i in let e : p.i ≡ a.n = omega arith in ((rw (sym (rw (← e) at c.blank_words.ensures) ∙ c.if-blank_words.true) at (ios_end a.ios.now p.i p.s a.n c.loop-i-test.false)) ∙ p.invariant.is, p.invariant.s_room)

pub returns : goal.returns
returns c = let a = c.args in let p = c.loop-i in let e : p.i ≡ a.n = omega arith in ((rw (sym (rw (← e) at c.blank_words.ensures) ∙ c.if-blank_words.false) at (ios_end a.ios.now p.i p.s a.n c.loop-i-test.false)) ∙ p.invariant.is, omega arith)
