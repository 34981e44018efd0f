-- A family with another value at one row: there it is that value, elsewhere what it was.
use mathlib.Core.Path.{◌≡◌, refl}
use Prim.Native.Nat.{ℕ}
use borrow.Author.Tests.{eq-eqb, ne_eqb}
use Rattle.ground.specs.Lists.{updated}

pub updated_same : {A : Type 0} (f : ℕ → A) (row : ℕ) (x : A) → updated f row x row ≡ x
unfolding updated
updated_same f row x = rw (eq-eqb row row refl)

pub updated_other : {A : Type 0} (f : ℕ → A) (row : ℕ) (x : A) (i : ℕ) → (i ≡ row → ⊥) → updated f row x i ≡ f i
unfolding updated
updated_other f row x i h = rw (ne_eqb i row h)
