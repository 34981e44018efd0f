use mathlib.Core.Path.{sym}
use native.Mathlib.Omega.{arith}
use Rattle.signs.proofs.Strings.{hex_low, hex_high}
use Rattle.decoding.proofs.hex_value.Goals as goal

pub overflow_sub-result : goal.overflow_sub-result
overflow_sub-result c = let e = hex_low c.args.b c.ranges.b.fits c.requires c.if-b-lt58.true in omega (arith, e.0)

pub overflow_sub-result-else-b-lt58 : goal.overflow_sub-result-else-b-lt58
overflow_sub-result-else-b-lt58 c = let e = hex_high c.args.b c.ranges.b.fits c.requires c.if-b-lt58.false in omega (arith, e.0)

pub returns-then-b-lt58 : goal.returns-then-b-lt58
returns-then-b-lt58 c = let e = hex_low c.args.b c.ranges.b.fits c.requires c.if-b-lt58.true in (sym e.1, omega arith)

pub returns-else-b-lt58 : goal.returns-else-b-lt58
returns-else-b-lt58 c = let e = hex_high c.args.b c.ranges.b.fits c.requires c.if-b-lt58.false in (sym e.2, omega (arith, e.1))
