-- Each public function has one outcome: any two that its contract allows are equal.
use mathlib.Core.Path.{◌≡◌}
use mathlib.Core.List.{List}
use Prim.Native.Nat.{ℕ}
use lib.Dec.{eqb}
use lib.Seq.{sets}
use Rattle.ground.specs.Choice.{pick}
use Rattle.ground.specs.Regions.{part}
use Rattle.ground.proofs.Outcome.{any_two}
use Rattle.assigning.specs.Rows.{input_in, rows_total, starts_from, assigned_in}

abbrev One : {A B : Type 0} → (A → B) → Type 0
One {A} {B} f = (a : A) (o p : B) → o ≡ f a → p ≡ f a → o ≡ p

pub starts_one : (n : ℕ) (rows : List ℕ) → One (λ (starts : List ℕ). sets starts 0 (starts_from 0 n rows))
starts_one n rows = any_two (λ starts. sets starts 0 (starts_from 0 n rows))

pub input_width_one : (kind : ℕ) → One (λ (width : ℕ). pick (eqb kind 1) width 0)
input_width_one kind = any_two (λ width. pick (eqb kind 1) width 0)

pub count_one : (n : ℕ) → One (rows_total input_in n)
count_one n = any_two (rows_total input_in n)

pub copy_one : (from : List ℕ) (at size place : ℕ) → One (λ (to : List ℕ). sets to place (part at size from))
copy_one from at size place = any_two (λ to. sets to place (part at size from))

pub assign_one : (n : ℕ) (rows ins : List ℕ) → One (assigned_in n rows ins 0 0)
assign_one n rows ins = any_two (assigned_in n rows ins 0 0)
