use Rattle.signs.proofs.Bytes.{digit_byte}
use mathlib.Core.Path.{◌∙◌}
use native.Mathlib.Omega.{arith}
use Rattle.numerals.proofs.is_digit.Goals as goal

pub returns : goal.returns
returns c = c.between.ensures ∙ digit_byte c.args.b (omega arith)
