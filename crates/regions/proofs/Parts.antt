-- What a cut of a slice leaves is a part of it.
use mathlib.Core.Path.{◌≡◌, refl, ap, sym, ◌∙◌}
use mathlib.Core.List.{List, [], ◌∷◌}
use Prim.Native.Nat.{ℕ, zero, suc, ◌+◌, ◌-◌, ◌<◌, ◌≤◌}
use native.Mathlib.Omega.{arith}
use lib.ListN.{length, take, drop, length-drop}
use lib.Seq.{take_all}
use Rattle.ground.specs.Regions.{part}
use Rattle.ground.proofs.Regions.{part_length}

drop_none : {A : Type 0} (s : List A) (k : ℕ) → length s ≤ k → drop k s ≡ []
drop_none [] zero h = refl
drop_none [] (suc k) h = refl
drop_none (x ∷ s) zero h = absurd (omega arith)
drop_none (x ∷ s) (suc k) h = drop_none s k (omega arith)

take_none : {A : Type 0} (n : ℕ) → take {A = A} n [] ≡ []
take_none zero = refl
take_none (suc n) = refl

module _ {A : Type 0} (s : List A) (from size : ℕ) where
  -- past the end nothing is left
  pub part_past : length s < from → [] ≡ part from size s
  unfolding part
  part_past h = sym (ap (take size) (drop_none s from (omega arith)) ∙ take_none size)

  -- a slice that ends too soon gives what it has
  pub part_rest : length s - from < size → take (length s - from) (drop from s) ≡ part from size s
  unfolding part
  part_rest h =
      let l = length-drop from s in
      take_all (length s - from) (drop from s) (omega arith) ∙ sym (take_all size (drop from s) (omega arith))

  -- else it gives all that is asked for
  pub part_whole : take (from + size - from) (drop from s) ≡ part from size s
  unfolding part
  part_whole = let e : from + size - from ≡ size = omega arith in ap (λ (n : ℕ). take n (drop from s)) e

-- a part that lies in the slice has its full size
pub region_length : (at n : ℕ) (t : List ℕ) {r : List ℕ} → r ≡ part at n t → at + n ≤ length t → length r ≡ n
region_length at n t e h = rw e (part_length at n t h)
