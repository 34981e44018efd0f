-- Regions of a flat slice: one is written over, and the others stand as they were.
use mathlib.Core.Path.{◌≡◌, refl, sym, ap, ◌∙◌}
use mathlib.Core.List.{List, [], ◌∷◌, ◌++◌, append_assoc}
use Prim.Native.Nat.{ℕ, zero, suc, ◌+◌, ◌-◌, ◌≤◌}
use native.Mathlib.Omega.{arith}
use lib.ListN.{length, take, drop, length-append, length-take, length-drop}
use lib.Seq.{length-take-le, take_at, drop_at, take-append-le, drop-append-le, take-take, drop-drop, drop-append-add}
use Rattle.ground.specs.Regions.{part}

-- the n words from a on, written over
abbrev pub put : {A : Type 0} → ℕ → ℕ → List A → List A → List A
put a n l new = take a l ++ (new ++ drop n (drop a l))

module _ {A : Type 0} (a n : ℕ) (l new : List A) (h : a + n ≤ length l) (e : length new ≡ n) where
  front : length (take a l) ≡ a
  front = length-take-le a l (omega arith)

  pub length_put : length (put a n l new) ≡ length l
  length_put =
      length-append (take a l) (new ++ drop n (drop a l))
      ∙ omega (arith, front, e, length-append new (drop n (drop a l)), length-drop n (drop a l), length-drop a l)

  pub part_put : part a n (put a n l new) ≡ new
  unfolding part
  part_put =
      ap (take n) (drop_at (take a l) (new ++ drop n (drop a l)) a front) ∙ take_at new (drop n (drop a l)) n e

  pub part_before : (s k : ℕ) → s + k ≤ a → part s k (put a n l new) ≡ part s k l
  unfolding part
  part_before s k b =
      let f = front in
      let d : length (drop s (take a l)) ≡ a - s = length-drop s (take a l) ∙ ap (λ (m : ℕ). m - s) f in
      ap (take k) (drop-append-le s (take a l) (new ++ drop n (drop a l)) (omega arith))
      ∙ take-append-le k (drop s (take a l)) (new ++ drop n (drop a l)) (omega arith)
      ∙ sym (take-append-le k (drop s (take a l)) (drop a l) (omega arith))
      ∙ ap (take k) (sym (drop-append-le s (take a l) (drop a l) (omega arith)))
      ∙ ap (λ (t : List A). take k (drop s t)) (take_drop a l)
    where
      take_drop : (m : ℕ) (t : List A) → take m t ++ drop m t ≡ t
      take_drop zero t = refl
      take_drop (suc m) [] = refl
      take_drop (suc m) (x ∷ t) = ap (λ (u : List A). x ∷ u) (take_drop m t)

  pub part_after : (s k : ℕ) → a + n ≤ s → part s k (put a n l new) ≡ part s k l
  unfolding part
  part_after s k b =
      let f = front in
      let i : length (take a l) + (length new + (s - (a + n))) ≡ s = omega (arith, e) in
      let j : a + (n + (s - (a + n))) ≡ s = omega arith in
      ap (take k)
      (ap (λ (m : ℕ). drop m (put a n l new)) (sym i)
      ∙ drop-append-add (take a l) (new ++ drop n (drop a l)) (length new + (s - (a + n)))
      ∙ drop-append-add new (drop n (drop a l)) (s - (a + n))
      ∙ drop-drop (s - (a + n)) n (drop a l)
      ∙ drop-drop (n + (s - (a + n))) a l
      ∙ ap (λ (m : ℕ). drop m l) j)
