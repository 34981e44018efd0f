use Prim.Native.Nat.{◌*◌}
use Rattle.pads.proofs.Filled.{pad_there}
use Rattle.pads.proofs.pad_at.Goals as goal

pub returns : goal.returns
returns c = pad_there c.args.ios.now (c.args.row * 3)
