use mathlib.Core.Path.{refl, sym, ap, ◌∙◌}
use native.Mathlib.Omega.{arith}
use lib.ListN.{length}
use Rattle.signs.proofs.Strings.{meant_inside, next_meant}
use Rattle.asking.proofs.NameLaws.{same_raw_lem, same_on, same_off, same_none}
use borrow.Author.Rules.{rules}
use Rattle.taken.proofs.same_string.Goals as goal

pub loop-done-init : goal.loop-done-init
loop-done-init c = (omega arith, omega arith, refl)

pub same_raw-requires : goal.same_raw-requires
same_raw-requires c = (meant_inside c.args.text.now c.loop-done.i (omega arith), meant_inside c.args.text.now c.loop-done.j (omega arith))

pub overflow_add-i : goal.overflow_add-i
overflow_add-i c = let h = meant_inside c.args.text.now c.loop-done.i (omega arith) in search (rules, h)

pub overflow_add-j : goal.overflow_add-j
overflow_add-j c = let h = meant_inside c.args.text.now c.loop-done.j (omega arith) in search (rules, h)

pub loop-done-preserved-then-same_raw : goal.loop-done-preserved-then-same_raw
loop-done-preserved-then-same_raw c =
    let w = same_raw_lem c.args.text.now c.loop-done.i c.loop-done.j (omega arith) (omega arith) (sym c.same_raw.ensures ∙ c.if-same_raw.true) in
    (omega (arith, ap length w.first), omega (arith, ap length w.second), same_on _ _ _ _ _ _ w.first w.second w.alike ∙ c.loop-done.invariant.2)

pub next_byte-x-requires : goal.next_byte-x-requires
next_byte-x-requires c = omega arith

pub next_byte-y-requires : goal.next_byte-y-requires
next_byte-y-requires c = omega arith

pub returns-then-x-y : goal.returns-then-x-y
returns-then-x-y c =
    let x = next_meant _ c.loop-done.i (omega arith) _ c.next_byte-x.ensures in
    let y = next_meant _ c.loop-done.j (omega arith) _ c.next_byte-y.ensures in
    same_off _ _ _ _ _ _ x y c.if-x-y.true ∙ c.loop-done.invariant.2

pub loop-done-preserved : goal.loop-done-preserved
loop-done-preserved c =
    let x = next_meant _ c.loop-done.i (omega arith) _ c.next_byte-x.ensures in
    let y = next_meant _ c.loop-done.j (omega arith) _ c.next_byte-y.ensures in
    (omega (arith, ap length x), omega (arith, ap length y), same_on _ _ _ _ _ _ x y c.if-x-y.false ∙ c.loop-done.invariant.2)

pub returns : goal.returns
returns c = same_none _ _ (omega arith) (omega arith) ∙ c.loop-done.invariant.2
