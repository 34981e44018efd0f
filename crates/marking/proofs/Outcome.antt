-- The contracts of the marks allow one outcome each.
use mathlib.Core.Path.{◌≡◌}
use mathlib.Core.List.{List}
use Prim.Native.Nat.{ℕ}
use lib.ListN.{set}
use Rattle.ground.proofs.Outcome.{any_two}
use Rattle.marking.specs.Marks.{mark_of, place_of}

pub one_mark : (kind : ℕ) (name : List ℕ) (o p : ℕ) → o ≡ mark_of kind name → p ≡ mark_of kind name → o ≡ p
one_mark kind = any_two (mark_of kind)

pub one_map : (mark : ℕ) (seen o p : List ℕ) → o ≡ set seen (place_of mark) 1 → p ≡ set seen (place_of mark) 1 → o ≡ p
one_map mark = any_two (λ (l : List ℕ). set l (place_of mark) 1)
