-- The contracts of `clear_words` and `clear_bytes` allow one outcome.
use mathlib.Core.Path.{◌≡◌}
use mathlib.Core.List.{List}
use Prim.Native.Nat.{ℕ}
use lib.ListN.{length}
use Rattle.ground.specs.Regions.{zeros}
use Rattle.ground.proofs.Outcome.{any_two}

pub one_clear : (lent o p : List ℕ) → o ≡ zeros (length lent) → p ≡ zeros (length lent) → o ≡ p
one_clear = any_two (λ (l : List ℕ). zeros (length l))
