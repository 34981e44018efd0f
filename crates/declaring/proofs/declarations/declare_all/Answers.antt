use Rattle.std.specs.Prelude.{Ok}
use Rattle.std.proofs.lemmas.Result.{err_from_is_err_and}
use mathlib.Core.Path.{◌≡◌, refl, ap, ◌∙◌}
use Rattle.declaring.proofs.Declaring.{go_start, go_some, go_out, go_stopped, go_ended, go_more}
use Prim.Native.Nat.{◌+◌, ◌-◌}
use lib.ListN.{length}
use native.Mathlib.Omega.{arith}
use borrow.Author.Rules.{rules}
use Rattle.declaring.proofs.declarations.declare_all.Goals as goal

pub loop-done-init : goal.loop-done-init
loop-done-init c = let p = c in let a = p.args in let all : length a.text.now + 1 - 0 ≡ length a.text.now + 1 = omega arith in (refl, refl, refl, refl, rw all (go_start a.text.now a.rows.now a.bits.now a.work.now a.seen.now _ c.no_tally-n.ensures p.requires.1 p.requires.2))

pub take_next-requires : goal.take_next-requires
take_next-requires c = let p = c in (p.requires.0, go_some c.loop-done.invariant.4)

pub returns-in_err-m : goal.returns-in_err-m
returns-in_err-m c = let q = err_from_is_err_and c.from_residual.result c.from_residual.ensures.1 in rw (q.1, q.2) (go_stopped c.loop-done.invariant.4 (omega (arith, c.loop-done-test.true)) c.take_next.ensures _ c.in_err-m.was)

pub returns-in_default : goal.returns-in_default
returns-in_default c = go_ended c.loop-done.invariant.4 (omega (arith, c.loop-done-test.true)) c.take_next.ensures (c.in_ok-m.was ∙ ap Ok c.in_default.is)

pub loop-done-preserved : goal.loop-done-preserved
loop-done-preserved c = let l = c.loop-done in let one_less : length c.args.text.now + 1 - (l._done + 1) ≡ length c.args.text.now + 1 - l._done - 1 = omega arith in (search (rules, l.invariant.0), search (rules, l.invariant.1), search (rules, l.invariant.2), search (rules, l.invariant.3), rw one_less (go_more l.invariant.4 (omega (arith, c.loop-done-test.true)) c.take_next.ensures _ _ (c.in_ok-m.was ∙ ap Ok c.in-Some.is)))

pub shape_of-rows : goal.shape_of-rows
shape_of-rows c = c.loop-done.invariant.0

pub shape_of-bits : goal.shape_of-bits
shape_of-bits c = c.loop-done.invariant.1

pub shape_of-work : goal.shape_of-work
shape_of-work c = c.loop-done.invariant.2

pub shape_of-seen : goal.shape_of-seen
shape_of-seen c = c.loop-done.invariant.3

pub returns : goal.returns
returns c = go_out c.loop-done.invariant.4 (omega (arith, c.loop-done-test.false))
