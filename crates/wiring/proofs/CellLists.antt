-- Lists with one element more at their end.
-- Assumes nothing.
use mathlib.Core.Path.{◌≡◌, refl, sym, ap, ◌∙◌}
use mathlib.Core.Bool.{Bool, true, false, ◌&&◌}
use mathlib.Core.List.{List, [], ◌∷◌, ◌++◌, map, append_assoc, append-nil}
use Prim.Native.Nat.{ℕ, zero, suc, ◌+◌}
use native.Mathlib.Omega.{arith}
use lib.ListN.{length}
use Rattle.ground.specs.Lists.{every, total, joined}
use Rattle.ground.proofs.Bools.{bool_cases}

module _ {A B : Type 0} (f : A → List B) where
  pub joined_append : (xs ys : List A) → joined f (xs ++ ys) ≡ joined f xs ++ joined f ys
  unfolding joined
  joined_append [] ys = refl
  joined_append (x ∷ xs) ys = ap (λ (l : List B). f x ++ l) (joined_append xs ys) ∙ sym (append_assoc (f x) (joined f xs) (joined f ys))

  pub joined_one : (x : A) → joined f (x ∷ []) ≡ f x
  unfolding joined
  joined_one x = append-nil (f x)

  pub joined_more : (xs : List A) (x : A) → joined f (xs ++ (x ∷ [])) ≡ joined f xs ++ f x
  joined_more xs x = joined_append xs (x ∷ []) ∙ ap (λ (l : List B). joined f xs ++ l) (joined_one x)

pub map_more : {A B : Type 0} (f : A → B) (xs ys : List A) → map f (xs ++ ys) ≡ map f xs ++ map f ys
map_more f [] ys = refl
map_more f (x ∷ xs) ys = ap (λ (l : List _). f x ∷ l) (map_more f xs ys)

pub total_more : {A : Type 0} (f : A → ℕ) (xs : List A) (x : A) → total f (xs ++ (x ∷ [])) ≡ total f xs + f x
unfolding total
total_more f [] x = omega arith
total_more f (y ∷ xs) x = omega (arith, total_more f xs x)

pub every_last : {A : Type 0} (p : A → Bool) (xs : List A) (x : A) → every p xs ≡ true → every p (xs ++ (x ∷ [])) ≡ p x
unfolding every
every_last p [] x h = bool_cases (p x) (λ e. rw (e, every)) (λ e. rw (e, every))
every_last p (y ∷ xs) x h = bool_cases (p y) (λ e. rw (e, every) (every_last p xs x (rw (e, every) at h))) (λ e. rw (e, every) (absurd_of (rw (e, every) at h)))
  where
    absurd_of : {P : Type 0} → false ≡ true → P
    absurd_of z = let q : ◌≡◌ {A = ℕ} 0 1 = cc in absurd (omega arith)
