use mathlib.Core.Path.{◌≡◌, ◌∙◌}
use native.Mathlib.Omega.{arith}
use Rattle.kinds.specs.Kinds.{kind_at}
use Rattle.kinds.proofs.Numbers.{no_kind_lem}
use Rattle.kinds.proofs.Widths.{alike_at, gate_at, compared_at}
use Rattle.kinds.proofs.fits.Goals as goal

pub returns-in-1 : goal.returns-in-1
unfolding kind_at
returns-in-1 c = let k : c.args.kind ≡ 1 = omega arith in rw k c.wide.ensures

pub returns-in-2 : goal.returns-in-2
unfolding kind_at
returns-in-2 c = let k : c.args.kind ≡ 2 = omega arith in rw k c.fits_output.ensures

pub returns-in-3-to-4 : goal.returns-in-3-to-4
returns-in-3-to-4 c = let a = c.args in c.fits_alike.ensures ∙ alike_at a.width a.a a.b a.c a.kind (omega arith) (omega arith)

pub returns-in-5-to-7 : goal.returns-in-5-to-7
returns-in-5-to-7 c = let a = c.args in c.fits_gate.ensures ∙ gate_at a.width a.a a.b a.c a.kind (omega arith) (omega arith)

pub returns-in-8 : goal.returns-in-8
unfolding kind_at
returns-in-8 c = let k : c.args.kind ≡ 8 = omega arith in rw k c.fits_mux.ensures

pub returns-in-9 : goal.returns-in-9
unfolding kind_at
returns-in-9 c = let k : c.args.kind ≡ 9 = omega arith in rw k c.fits_adc.ensures

pub returns-in-10-to-12 : goal.returns-in-10-to-12
returns-in-10-to-12 c = let a = c.args in c.fits_compared.ensures ∙ compared_at a.width a.a a.b a.c a.kind (omega arith) (omega arith)

pub returns-in_default : goal.returns-in_default
unfolding kind_at
returns-in_default c = let k : c.args.kind ≡ 0 = omega arith in rw k

pub returns-in_default-2 : goal.returns-in_default-2
returns-in_default-2 c = rw (no_kind_lem c.args.kind (omega arith))
