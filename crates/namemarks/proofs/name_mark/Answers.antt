use mathlib.Core.Path.{sym, ap, ◌∙◌}
use Prim.Native.Nat.{ℕ, ◌<◌}
use native.Mathlib.Omega.{arith}
use lib.ListN.{length}
use Rattle.signs.specs.Pieces.{decoded}
use Rattle.signs.proofs.Strings.{meant_inside, next_meant}
use Rattle.marking.specs.Marks.{mark_from, mark_of}
use Rattle.asking.proofs.NameLaws.{raw_behind, mark_first, mark_none}
use borrow.Author.Rules.{rules}
use Rattle.namemarks.proofs.name_mark.Goals as goal

pub loop-done-init : goal.loop-done-init
unfolding mark_of
loop-done-init c = (omega arith, ap (λ (m : ℕ). mark_from m (decoded c.args.text.now c.args.from)) c.mark_kind-mark.ensures)

pub bounds-text-i : goal.bounds-text-i
bounds-text-i c = meant_inside c.args.text.now c.loop-done.i (omega arith)

pub overflow_add-i : goal.overflow_add-i
overflow_add-i c = let h = meant_inside c.args.text.now c.loop-done.i (omega arith) in search (rules, h)

pub loop-done-preserved-then-b-ne92 : goal.loop-done-preserved-then-b-ne92
loop-done-preserved-then-b-ne92 c =
    let f = raw_behind c.args.text.now c.loop-done.i (omega arith) c.if-b-ne92.true in
    (omega (arith, ap length f), mark_first _ _ c.loop-done.mark _ _ f c.mark_more-mark.ensures ∙ c.loop-done.invariant.1)

pub next_byte-x-requires : goal.next_byte-x-requires
next_byte-x-requires c = omega arith

pub loop-done-preserved : goal.loop-done-preserved
loop-done-preserved c =
    let f = next_meant c.args.text.now c.loop-done.i (omega arith) _ c.next_byte-x.ensures in
    (omega (arith, ap length f), mark_first _ _ c.loop-done.mark _ _ f c.mark_more-mark-in-loop-done.ensures ∙ c.loop-done.invariant.1)

pub returns : goal.returns
returns c = mark_none _ _ (omega arith) ∙ c.loop-done.invariant.1
