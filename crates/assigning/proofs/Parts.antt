-- Parts of a list that was written to: what was written is there, and what lies before or behind it is as it was.
use Prim.Native.Nat.{ℕ, zero, suc, ◌+◌, ◌-◌, ◌<◌, ◌≤◌}
use mathlib.Core.Path.{◌≡◌, refl, sym, ap, ◌∙◌}
use mathlib.Core.List.{List, [], ◌∷◌, ◌++◌, append_assoc}
use native.Mathlib.Omega.{arith}
use lib.ListN.{length, drop, take, set, length-set}
use lib.Seq.{sets, sets-eq, length-take-le, drop_at, take-set-le, drop-set-lt, drop-set-add}
use Rattle.ground.specs.Regions.{part}
use Rattle.ground.proofs.Regions.{part_front}

pub part_written : (l : List ℕ) (s : ℕ) (xs : List ℕ) → s + length xs ≤ length l → part s (length xs) (sets l s xs) ≡ xs
part_written l s xs h =
    let z = drop (s + length xs) l in
    let e : sets l s xs ≡ take s l ++ (xs ++ z) = sets-eq xs l s h ∙ append_assoc (take s l) xs z in
    let k : length (take s l) ≡ s = length-take-le s l (omega arith) in
    part_front (sets l s xs) s xs z (ap (drop s) e ∙ drop_at (take s l) (xs ++ z) s k)

module _ (s w : ℕ) where
  set_behind : (l : List ℕ) (k x : ℕ) → s + w ≤ k → part s w (set l k x) ≡ part s w l
  unfolding part
  set_behind l k x h =
      let e : k ≡ s + (k - s) = omega arith in
      let m : w ≤ k - s = omega arith in
      ap (λ (i : ℕ). take w (drop s (set l i x))) e ∙ ap (take w) (drop-set-add s l (k - s) x) ∙ take-set-le w (drop s l) (k - s) x m

  set_before : (l : List ℕ) (k x : ℕ) → k < s → part s w (set l k x) ≡ part s w l
  unfolding part
  set_before l k x h = ap (take w) (drop-set-lt s l k x h)

  -- what is written behind a part leaves it
  pub part_behind : (l : List ℕ) (k : ℕ) (xs : List ℕ) → s + w ≤ k → part s w (sets l k xs) ≡ part s w l
  part_behind l k [] h = refl
  part_behind l k (x ∷ xs) h = part_behind (set l k x) (suc k) xs (omega arith) ∙ set_behind l k x h

  -- so does what is written before it
  pub part_before : (l : List ℕ) (k : ℕ) (xs : List ℕ) → k + length xs ≤ s → part s w (sets l k xs) ≡ part s w l
  part_before l k [] h = refl
  part_before l k (x ∷ xs) h = part_before (set l k x) (suc k) xs (omega arith) ∙ set_before l k x (omega arith)
