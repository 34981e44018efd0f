use Rattle.placing.proofs.Seeking.{seek_start, seek_word, seek_found, seek_on, seek_end}
use native.Mathlib.Omega.{arith}
use Prim.Native.Nat.{◌*◌, ◌+◌}
use Rattle.placing.proofs.search.open_read.Goals as goal

pub overflow_cast-a : goal.overflow_cast-a
overflow_cast-a c = omega (arith, c.shared_slice_known-4-1.given (c.args.row * 9 + 6))

pub overflow_cast-b : goal.overflow_cast-b
overflow_cast-b c = omega (arith, c.shared_slice_known-5-1.given (c.args.row * 9 + 7))

pub overflow_cast-c : goal.overflow_cast-c
overflow_cast-c c = omega (arith, c.shared_slice_known-6-1.given (c.args.row * 9 + 8))

pub overflow_cast-from : goal.overflow_cast-from
overflow_cast-from c = omega (arith, c.shared_slice_known-7-1.given (c.args.row * 9 + 5))

pub overflow_add-end : goal.overflow_add-end
overflow_add-end c = let s = c in omega (arith, s.requires.0.runs_there s.args.row s.requires.2)

pub overflow_add-end-2 : goal.overflow_add-end-2
overflow_add-end-2 c = let s = c in omega (arith, s.requires.0.runs_there s.args.row s.requires.2)

pub overflow_add-end-3 : goal.overflow_add-end-3
overflow_add-end-3 c = let s = c in omega (arith, s.requires.0.runs_there s.args.row s.requires.2)

pub loop-k-init : goal.loop-k-init
loop-k-init c = let s = c in seek_start _ s.args.row s.requires.0 s.requires.2

pub open_run-x-requires : goal.open_run-x-requires
open_run-x-requires c = let s = c in let l = c.loop-k in (s.requires.0.runs_long, omega (arith, l.invariant.top, c.loop-k-test.true), omega (arith, s.requires.0.few, s.requires.1), seek_word l.invariant c.loop-k-test.true)

pub returns-then-x-n : goal.returns-then-x-n
returns-then-x-n c = seek_found c.loop-k.invariant c.loop-k-test.true _ c.open_run-x.ensures c.if-x-n.true

pub loop-k-preserved : goal.loop-k-preserved
loop-k-preserved c = seek_on c.loop-k.invariant c.loop-k-test.true _ c.open_run-x.ensures c.if-x-n.false

pub returns : goal.returns
returns c = seek_end c.loop-k.invariant c.loop-k-test.false
