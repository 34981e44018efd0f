use Prim.Native.Nat.{◌-◌, ◌*◌, ◌≤◌, ◌<◌}
use native.Mathlib.Omega.{arith}
use mathlib.Core.Path.{◌≡◌, sym, ◌∙◌}
use lib.ListN.{length-drop}
use Rattle.checkmeta.proofs.Laws.{rest_all}
use Rattle.checkcells.specs.Runs.{widths_in}
use Rattle.checkcells.specs.Walk.{out_of, trits_of}
use Rattle.checkcells.proofs.Laws.{telling_on, cells_off, cells_end}
use Rattle.checkcells.proofs.cells.cells_good.Goals as goal

pub loop-i-init : goal.loop-i-init
loop-i-init c = let a = c.args in record { row = omega arith; s_room = c.requires.4; r_room = omega arith; b_room = omega arith; d_room = omega arith; o_room = omega arith; is = let e : a.n - 0 ≡ a.n = omega arith in rw e }

pub cell_good-requires : goal.cell_good-requires
cell_good-requires c = let a = c.args in let v = c.loop-i.invariant in (c.requires.0, rw (rest_all a.cells.now (c.loop-i.i * 9), length-drop) (omega (arith, c.requires, c.loop-i-test.true)), c.requires.2, c.requires.3, v.s_room, v.r_room, v.b_room)

pub returns-in_err-out : goal.returns-in_err-out
returns-in_err-out c = let a = c.args in let p = c.loop-i in let u = rw (rest_all a.cells.now (p.i * 9)) at (sym c.cell_good.ensures.0) in (rw c.from_residual.ensures (cells_off (widths_in a.n a.cells.now) a.bits.now a.runs.now a.metas a.cells.now p.i p.s p.r p.b p.d p.o a.n c.loop-i-test.true (u ∙ c.in_err-out.was) ∙ p.invariant.is), rw c.from_residual.ensures (omega arith))

pub overflow_add-o : goal.overflow_add-o
overflow_add-o c = let l : out_of c.cell_good.result < 17592186044417 = c.cell_good.ensures.1 in let k = rw c.in_ok-out.was at l in omega (arith, k, c.loop-i.invariant.o_room, c.loop-i-test.true, c.requires)

pub loop-i-preserved : goal.loop-i-preserved
loop-i-preserved c = let a = c.args in let p = c.loop-i in let u = rw (rest_all a.cells.now (p.i * 9)) at (sym c.cell_good.ensures.0) in let l : out_of c.cell_good.result < 17592186044417 = c.cell_good.ensures.1 in let k : trits_of c.cell_good.result ≤ 262656 = c.cell_good.ensures.2 in telling_on p.invariant c.loop-i-test.true _ _ (rw c.in_ok-out.was at l) (rw c.in_ok-out.was at k) (u ∙ c.in_ok-out.was) _ _ _ _ _ c.word_of-s.ensures.0 c.word_of.ensures.0 c.word_of-in-loop-i.ensures.0 c.word_of-in-loop-i-2.ensures.0 c.word_of-d.ensures.0 c.word_of-d.ensures.1

pub returns-then-blank_words : goal.returns-then-blank_words
returns-then-blank_words c = let a = c.args in let p = c.loop-i in let e : p.i ≡ a.n = omega arith in ((rw (sym (rw (← e) at c.blank_words.ensures) ∙ c.if-blank_words.true) at (cells_end (widths_in a.n a.cells.now) a.bits.now a.runs.now a.metas a.cells.now p.i p.s p.r p.b p.d p.o a.n c.loop-i-test.false)) ∙ p.invariant.is, p.invariant.r_room)

pub returns : goal.returns
returns c = let a = c.args in let p = c.loop-i in let e : p.i ≡ a.n = omega arith in ((rw (sym (rw (← e) at c.blank_words.ensures) ∙ c.if-blank_words.false) at (cells_end (widths_in a.n a.cells.now) a.bits.now a.runs.now a.metas a.cells.now p.i p.s p.r p.b p.d p.o a.n c.loop-i-test.false)) ∙ p.invariant.is, omega arith)
