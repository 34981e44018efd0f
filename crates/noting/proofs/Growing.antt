-- One element more: what is joined, counted and asked of a list with one element put behind it.
use mathlib.Core.Path.{◌≡◌, refl, sym, ap, ◌∙◌}
use mathlib.Core.Bool.{Bool, true, false}
use mathlib.Core.List.{List, [], ◌∷◌, ◌++◌, append_assoc, map}
use Prim.Native.Nat.{ℕ, zero, suc, ◌+◌, ◌*◌, ◌<◌, ◌≤◌}
use native.Mathlib.Omega.{arith}
use lib.ListN.{length, length-append}
use Rattle.ground.specs.Lists.{joined, every}
use Rattle.ground.proofs.Bools.{bool_cases, never_both, every_first, every_more}

append_none : {A : Type 0} (xs : List A) → xs ++ [] ≡ xs
append_none [] = refl
append_none (x ∷ xs) = ap (λ (l : List _). x ∷ l) (append_none xs)

module _ {A B : Type 0} where
  pub joined_last : (f : A → List B) (xs : List A) (x : A) → joined f (xs ++ (x ∷ [])) ≡ joined f xs ++ f x
  unfolding joined
  joined_last f [] x = append_none (f x)
  joined_last f (y ∷ xs) x = ap (λ (l : List B). f y ++ l) (joined_last f xs x) ∙ sym (append_assoc (f y) (joined f xs) (f x))

  pub joined_long : (f : A → List B) (xs : List A) (x : A) → length (joined f (xs ++ (x ∷ []))) ≡ length (joined f xs) + length (f x)
  joined_long f xs x = ap length (joined_last f xs x) ∙ length-append (joined f xs) (f x)

  pub map_last : (f : A → B) (xs : List A) (x : A) → map f (xs ++ (x ∷ [])) ≡ map f xs ++ (f x ∷ [])
  map_last f [] x = refl
  map_last f (y ∷ xs) x = ap (λ (l : List B). f y ∷ l) (map_last f xs x)

module _ {A : Type 0} where
  pub length_last : (xs : List A) (x : A) → length (xs ++ (x ∷ [])) ≡ length xs + 1
  length_last xs x = length-append xs (x ∷ [])

  pub every_last : (p : A → Bool) (xs : List A) (x : A) → every p xs ≡ true → p x ≡ true → every p (xs ++ (x ∷ [])) ≡ true
  every_last p [] x h e = every_more p x [] e h
  every_last p (y ∷ xs) x h e = let f = every_first p y xs h in every_more p y (xs ++ (x ∷ [])) f.0 (every_last p xs x f.1 e)

  -- the last one too passes what every one passes
  pub last_of_every : (p : A → Bool) (xs : List A) (x : A) → every p (xs ++ (x ∷ [])) ≡ true → p x ≡ true
  last_of_every p [] x h = (every_first p x [] h).0
  last_of_every p (y ∷ xs) x h = last_of_every p xs x (every_first p y (xs ++ (x ∷ [])) h).1
