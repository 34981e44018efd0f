-- How the loops over pools and regions go on and end.
use mathlib.Core.Path.{◌≡◌, refl}
use mathlib.Core.Bool.{Bool, true, false}
use mathlib.Core.List.{List, [], ◌∷◌}
use Prim.Native.Nat.{ℕ, suc, ◌+◌, ◌<◌, ◌≤◌}
use lib.Dec.{ltb}
use lib.ListN.{length, drop, get_or}
use borrow.Author.Tests.{eq-eqb, ne_eqb, lt-ltb}
use Rattle.ground.specs.Lists.{every}
use Rattle.ground.specs.Regions.{blank}
use Rattle.ground.proofs.Rest.{rest_cons, rest_end}

-- NOTHING BUT ZEROS
module _ (t : List ℕ) (i : ℕ) where
  pub blank_on : i < length t → get_or t i 0 ≡ 0 → blank (drop (i + 1) t) ≡ blank (drop i t)
  unfolding blank
  blank_on h e = rw (rest_cons t i h, eq-eqb (get_or t i 0) 0 e, blank)

  pub blank_off : i < length t → (get_or t i 0 ≡ 0 → ⊥) → false ≡ blank (drop i t)
  unfolding blank
  blank_off h e = rw (rest_cons t i h, ne_eqb (get_or t i 0) 0 e, blank)

  pub blank_end : length t ≤ i → true ≡ blank (drop i t)
  unfolding blank
  blank_end h = rw (rest_end t i h)

-- EACH OF A LIST
module _ (p : ℕ → Bool) (t : List ℕ) (i : ℕ) where
  pub every_on : i < length t → p (get_or t i 0) ≡ true → every p (drop (i + 1) t) ≡ every p (drop i t)
  unfolding every
  every_on h e = rw (rest_cons t i h, e, every)

  pub every_off : i < length t → p (get_or t i 0) ≡ false → false ≡ every p (drop i t)
  unfolding every
  every_off h e = rw (rest_cons t i h, e, every)

  pub every_end : length t ≤ i → true ≡ every p (drop i t)
  unfolding every
  every_end h = rw (rest_end t i h)

-- a bound that each element has
pub every_below : (n : ℕ) (t : List ℕ) → ((i : ℕ) → get_or t i 0 < n) → every (λ x. ltb x n) t ≡ true
unfolding every
every_below n [] h = refl
every_below n (x ∷ t) h = rw (lt-ltb x n (h 0), every) (every_below n t (λ i. h (suc i)))
