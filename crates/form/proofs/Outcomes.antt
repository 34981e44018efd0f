-- Each public function has one outcome: its contract is one equation.
use mathlib.Core.Path.{◌≡◌}
use mathlib.Core.List.{List}
use Prim.Native.Nat.{ℕ}
use Rattle.ground.proofs.Outcome.{any_two}
use Rattle.form.specs.Forms.{form_at, form_of}

abbrev One : {A B : Type 0} → (A → B) → Type 0
One {A} {B} f = (a : A) (o p : B) → o ≡ f a → p ≡ f a → o ≡ p

module _ (text : List ℕ) where
  pub one_declaration_with : One (form_at text)
  one_declaration_with = any_two (form_at text)

  pub one_declaration : One (form_of text)
  one_declaration = any_two (form_of text)
