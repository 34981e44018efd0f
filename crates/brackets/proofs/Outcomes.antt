-- Each public function has one outcome: its contract is one equation.
use mathlib.Core.Path.{◌≡◌}
use mathlib.Core.List.{List}
use Prim.Native.Nat.{ℕ}
use Rattle.ground.proofs.Outcome.{any_two}
use Rattle.brackets.specs.Words.{is_sort, is_mark, is_spelled, kind_of}
use Rattle.brackets.specs.Parts.{is_part, str, part_of, next_part, operand_at, ref, next_member, set_at}
use Rattle.brackets.specs.Walks.{walk_of, walk_step, tour_at, tour_step}

abbrev One : {A B : Type 0} → (A → B) → Type 0
One {A} {B} f = (a : A) (o p : B) → o ≡ f a → p ≡ f a → o ≡ p

module _ (text : List ℕ) where
  pub one_word : (w : List ℕ) → One (is_spelled text w)
  one_word w = any_two (is_spelled text w)

  pub one_kind : One (kind_of text)
  one_kind = any_two (kind_of text)

  pub one_next_part : One (next_part text)
  one_next_part = any_two (next_part text)

  pub one_operand : One (operand_at text)
  one_operand = any_two (operand_at text)

  pub one_next_member : One (next_member text)
  one_next_member = any_two (next_member text)

  pub one_set : One (set_at text)
  one_set = any_two (set_at text)

  pub one_walk : One (walk_of text)
  one_walk = any_two (walk_of text)

  pub one_walk_step : One (walk_step text)
  one_walk_step = any_two (walk_step text)

  pub one_tour : One (tour_at text)
  one_tour = any_two (tour_at text)

  pub one_tour_step : One (tour_step text)
  one_tour_step = any_two (tour_step text)

pub one_sort : (sort : ℕ) → One (is_sort sort)
one_sort sort = any_two (is_sort sort)

pub one_mark : (b : ℕ) → One (is_mark b)
one_mark b = any_two (is_mark b)

pub one_part_test : One is_part
one_part_test = any_two is_part

pub one_str : One str
one_str = any_two str

pub one_part : One part_of
one_part = any_two part_of

pub one_ref : One ref
one_ref = any_two ref
