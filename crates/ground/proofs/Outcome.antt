-- A contract that is one equation allows one outcome.
use mathlib.Core.Path.{◌≡◌, sym, ◌∙◌}

-- two outcomes that the equation allows are equal
pub any_two : {A B : Type 0} (f : A → B) (a : A) (o p : B) → o ≡ f a → p ≡ f a → o ≡ p
any_two f a o p s t = s ∙ sym t
