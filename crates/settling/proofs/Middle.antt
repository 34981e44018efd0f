-- What is written into a part of a lent list is written into the list.
use mathlib.Core.Path.{◌≡◌, refl, sym, ap, ◌∙◌}
use mathlib.Core.List.{List, [], ◌∷◌, ◌++◌}
use Prim.Native.Nat.{ℕ, zero, suc, ◌+◌, ◌-◌, ◌≤◌}
use native.Mathlib.Omega.{arith}
use lib.ListN.{length, take, drop, length-take, length-drop}
use lib.Seq.{sets, length-take-le}
use Rattle.ground.proofs.Regions.{region}

module _ {A : Type 0} where
  pub take_drop : (n : ℕ) (l : List A) → take n l ++ drop n l ≡ l
  take_drop zero l = refl
  take_drop (suc n) [] = refl
  take_drop (suc n) (x ∷ l) = ap (λ (t : List A). x ∷ t) (take_drop n l)

  -- the part from a to e, written into from its place i on
  pub middle : (l xs : List A) (a e i : ℕ) → a ≤ e → e ≤ length l → i + length xs ≤ e - a
      → take a l ++ (sets (take (e - a) (drop a l)) i xs ++ drop (e - a) (drop a l)) ≡ sets l (a + i) xs
  middle l xs a e i h k r =
      let m : List A = take (e - a) (drop a l) in
      let p : List A = drop (e - a) (drop a l) in
      let n : length (take (e - a) (drop a l)) ≡ e - a = length-take-le (e - a) (drop a l) (rw length-drop (omega arith)) in
      let t : length (take a l) ≡ a = length-take-le a l (omega arith) in
      let b : i + length xs ≤ length (take (e - a) (drop a l)) = omega (arith, n) in
      sym (region xs (take a l) m p i b) ∙ ap (λ (j : ℕ). sets (take a l ++ (m ++ p)) (j + i) xs) t
      ∙ ap (λ (w : List A). sets w (a + i) xs) (ap (λ (w : List A). take a l ++ w) (take_drop (e - a) (drop a l)) ∙ take_drop a l)
