use native.Mathlib.Omega.{arith}
use Rattle.signs.proofs.Bytes.{class_rule}
use Rattle.signs.proofs.classes.Classes.class_at.Goals as goal

pub returns : goal.returns
returns c = rw (c.args.self.now.right, c.wide.ensures) (class_rule c.args.b (omega (arith, c.ranges.b.fits)))
