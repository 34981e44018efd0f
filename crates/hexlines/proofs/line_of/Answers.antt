use Rattle.std.proofs.Common.{◌≡◌, ◌/◌, ◌%◌, arith}
use Rattle.ground.specs.Lists.{joined}
use Rattle.hexlines.proofs.line_of.Goals as goal

pub returns : goal.returns
unfolding joined
returns c =
    let first : c.args.r.first / 256 % 256 ≡ c.args.r.first / 256 = omega arith in
    let second : c.args.r.second / 256 % 256 ≡ c.args.r.second / 256 = omega arith in
    rw (
      c.low-5.ensures,
      c.high-5.ensures,
      c.low-4.ensures,
      c.high-4.ensures,
      c.low-3.ensures,
      c.high-3.ensures,
      c.low-2.ensures,
      c.high-2.ensures,
      c.low.ensures,
      c.high.ensures,
      c.to_le_bytes-2.ensures,
      c.to_le_bytes.ensures,
      first,
      second,
    )
