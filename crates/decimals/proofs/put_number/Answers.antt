use Rattle.writing.specs.Words.{number}
use Rattle.decimals.proofs.put_number.Goals as goal

pub put_digits-requires : goal.put_digits-requires
put_digits-requires c = (c.places_of-k.ensures.1, c.places_of-k.ensures.2)

pub returns : goal.returns
unfolding number
returns c = rw c.places_of-k.ensures.0 at c.put_digits.ensures
