use native.Mathlib.Omega.{arith}
use borrow.Author.Tests.{eq-eqb, ne_eqb}
use Rattle.recording.specs.ByKind.{low_bits}
use Rattle.recording.proofs.compare.low_bits.Goals as goal

pub returns-then-kind-eq11 : goal.returns-then-kind-eq11
unfolding low_bits
returns-then-kind-eq11 c = (rw (eq-eqb c.args.kind 11 c.if-kind-eq11.true) (omega arith), omega arith)

pub returns-then-bits-a : goal.returns-then-bits-a
unfolding low_bits
returns-then-bits-a c = (rw (ne_eqb c.args.kind 11 c.if-kind-eq11.false) (omega arith), omega arith)

pub returns-then-bits-gt0 : goal.returns-then-bits-gt0
unfolding low_bits
returns-then-bits-gt0 c = (rw (ne_eqb c.args.kind 11 c.if-kind-eq11.false) (omega arith), omega arith)

pub returns : goal.returns
unfolding low_bits
returns c = (rw (ne_eqb c.args.kind 11 c.if-kind-eq11.false) (omega arith), omega arith)
