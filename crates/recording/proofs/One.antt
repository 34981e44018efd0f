-- The answer of the public function is one: any two outcomes that its contract allows are equal.
use mathlib.Core.Path.{◌≡◌}
use mathlib.Core.List.{List}
use Prim.Native.Nat.{ℕ}
use Rattle.ground.proofs.Outcome.{any_two}
use Rattle.cells.specs.Records.{kind_made}
use Rattle.recording.specs.Making.{Recorded, recorded_of}

pub make_one : (kind k : ℕ) (a b c list outs : List ℕ) (o p : Recorded) → o ≡ recorded_of (kind_made kind k a b c) k list outs
    → p ≡ recorded_of (kind_made kind k a b c) k list outs → o ≡ p
make_one kind k a b c list = any_two (recorded_of (kind_made kind k a b c) k list)
