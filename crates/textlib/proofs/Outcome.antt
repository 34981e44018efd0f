-- The contract of each function of texts allows one outcome.
use mathlib.Core.Path.{◌≡◌}
use mathlib.Core.List.{List}
use Prim.Native.Nat.{ℕ}
use Rattle.ground.proofs.Outcome.{any_two}
use Rattle.scanning.specs.Whole.{whole_of}
use Rattle.textlib.specs.Told.{told, tokens_of}
use Rattle.textlib.specs.declared.Told.{Told}
use Rattle.textlib.specs.declared.Counted.{Counted}

pub whole_one : (text : List ℕ) (o p : Told) → o ≡ told (whole_of text) → p ≡ told (whole_of text) → o ≡ p
whole_one = any_two (λ (t : List ℕ). told (whole_of t))

pub tokens_one : (text : List ℕ) (o p : Counted) → o ≡ tokens_of text → p ≡ tokens_of text → o ≡ p
tokens_one = any_two tokens_of
