-- The contract of the function allows one outcome.
use mathlib.Core.Path.{◌≡◌}
use mathlib.Core.List.{List}
use Prim.Native.Nat.{ℕ}
use Rattle.ground.proofs.Outcome.{any_two}
use Rattle.reading.specs.Outcome.{read_of}
use Rattle.readlib.specs.Seen.{Seen, seen_of}

pub read_one : (text rows strings trits work : List ℕ) (o p : Seen) → o ≡ seen_of (read_of text rows strings trits work) → p ≡ seen_of (read_of text rows strings trits work) → o ≡ p
read_one text rows strings trits work = any_two (λ (t : List ℕ). seen_of (read_of t rows strings trits work)) text
