use Rattle.listing.proofs.Filled.{filled}
use Rattle.listing.proofs.canonical_room.Goals as goal

pub returns : goal.returns
returns c = filled 600000 0
