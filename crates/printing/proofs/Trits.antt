-- A region that holds words and zeros behind them passes each test that the words and 0 pass.
use Prim.Native.Nat.{ℕ}
use mathlib.Core.Path.{◌≡◌, refl, sym, ap, ◌∙◌}
use mathlib.Core.Bool.{Bool, true}
use mathlib.Core.List.{List, [], ◌∷◌, ◌++◌}
use lib.Dec.{eqb}
use borrow.Author.Tests.{eqb-true}
use Rattle.ground.specs.Lists.{every, joined}
use Rattle.ground.specs.Regions.{blank, fits}
use Rattle.ground.proofs.Bools.{bool_cases, never_both, every_first, every_more}

module _ (p : ℕ → Bool) (z : p 0 ≡ true) where
  blank_every : (t : List ℕ) → blank t ≡ true → every p t ≡ true
  unfolding blank every
  blank_every [] h = refl
  blank_every (x ∷ t) h = bool_cases (eqb x 0)
      (λ e. every_more p x t (ap p (eqb-true x 0 e) ∙ z) (blank_every t (rw (e, blank) at h)))
      (λ e. never_both (rw (e, blank) at h) refl)

  pub fits_every : (xs t : List ℕ) → every p xs ≡ true → fits xs t ≡ true → every p t ≡ true
  unfolding fits
  fits_every [] t k h = blank_every t h
  fits_every (x ∷ xs) [] k h = never_both h refl
  fits_every (x ∷ xs) (y ∷ t) k h = bool_cases (eqb x y)
      (λ e. let f = every_first p x xs k in every_more p y t (ap p (sym (eqb-true x y e)) ∙ f.0) (fits_every xs t f.1 (rw (e, fits) at h)))
      (λ e. never_both (rw (e, fits) at h) refl)

-- pieces that pass, joined
pub every_joins : {A : Type 0} (p : A → Bool) (xs ys : List A) → every p xs ≡ true → every p ys ≡ true → every p (xs ++ ys) ≡ true
every_joins p [] ys h k = k
every_joins p (x ∷ xs) ys h k = let f = every_first p x xs h in every_more p x (xs ++ ys) f.0 (every_joins p xs ys f.1 k)

pub joined_every : {A B : Type 0} (p : B → Bool) (g : A → List B) (xs : List A) → every (λ x. every p (g x)) xs ≡ true → every p (joined g xs) ≡ true
unfolding joined every
joined_every p g [] h = refl
joined_every p g (x ∷ xs) h =
    let f = every_first (λ y. every p (g y)) x xs h in every_joins p (g x) (joined g xs) f.0 (joined_every p g xs f.1)
