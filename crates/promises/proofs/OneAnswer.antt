-- EVERY CALL HAS ONE ANSWER. Each entry point's contract is an equation with one of these definitions, which take any bytes and any content
-- of lent slices; so two outcomes that the contract allows, every lent byte counted, are equal.
-- Assumes nothing.
use Rattle.ground.specs.declared.Refusal.{Refusal}
use Rattle.std.specs.Prelude.{Result}
use mathlib.Core.Path.{◌≡◌}
use mathlib.Core.List.{List}
use Prim.Native.Nat.{ℕ}
use Rattle.ground.proofs.Outcome.{any_two}
use Rattle.scanning.specs.Whole.{whole_of}
use Rattle.lexis.specs.Tokens.{token_at, inside_at}
use Rattle.signs.specs.Decoding.{decoded_into}
use Rattle.brackets.specs.Walks.{walk_of, walk_step, tour_at, tour_step}
use Rattle.form.specs.Forms.{form_of}
use Rattle.netlist.specs.Good.{check_of, lookup_of}
use Rattle.reading.specs.Outcome.{read_of}
use Rattle.printing.specs.Outcome.{print_of}
use Rattle.naming.specs.Names.{name_of}
use Rattle.loadlist.specs.Check.{listed_of}
use Rattle.loadlist.specs.Run.{run_of}
use Rattle.evaluating.specs.Outcome.{evaluate_of}
use Rattle.translating.specs.Outcome.{translate_of}

abbrev pub One : {A B : Type 0} → (A → B) → Type 0
One {A} {B} f = (a : A) (o p : B) → o ≡ f a → p ≡ f a → o ≡ p

-- of a text: as a whole, its tokens, its declarations, the parts of an operand and the members of a set one a step, the bytes of a string
pub whole_one : One whole_of
whole_one = any_two whole_of

module _ (text : List ℕ) where
  pub token_one : One (token_at text)
  token_one = any_two (token_at text)

  pub inside_one : One (inside_at text)
  inside_one = any_two (inside_at text)

  pub declaration_one : One (form_of text)
  declaration_one = any_two (form_of text)

  pub walk_one : One (walk_of text)
  walk_one = any_two (walk_of text)

  pub walk_step_one : One (walk_step text)
  walk_step_one = any_two (walk_step text)

  pub tour_one : One (tour_at text)
  tour_one = any_two (tour_at text)

  pub tour_step_one : One (tour_step text)
  tour_step_one = any_two (tour_step text)

  pub decode_one : (from : ℕ) → One (decoded_into text from)
  decode_one from = any_two (decoded_into text from)

-- of a text and lent tables
pub read_one : (rows strings bits work : List ℕ) → One (λ (text : List ℕ). read_of text rows strings bits work)
read_one rows strings bits work = any_two (λ text. read_of text rows strings bits work)

-- of lent tables
module _ (rows strings bits : List ℕ) where
  pub check_one : (o p : Result (Unit {0}) Refusal) → o ≡ check_of rows strings bits → p ≡ check_of rows strings bits → o ≡ p
  check_one = any_two (check_of rows strings) bits

  pub lookup_one : One (lookup_of rows strings bits)
  lookup_one = any_two (lookup_of rows strings bits)

  pub print_one : One (print_of rows strings bits)
  print_one = any_two (print_of rows strings bits)

  pub name_one : (row : ℕ) → One (name_of rows strings bits row)
  name_one row = any_two (name_of rows strings bits row)

  pub evaluation_one : (ins outs : List ℕ) → One (evaluate_of rows strings bits ins outs)
  evaluation_one ins outs = any_two (evaluate_of rows strings bits ins outs)

  pub translation_one : (room : List ℕ) → One (translate_of rows strings bits room)
  translation_one room = any_two (translate_of rows strings bits room)

-- of a load list and bench values
pub list_one : One listed_of
list_one = any_two listed_of

pub run_one : (ins outs work : List ℕ) → One (λ (list : List ℕ). run_of list ins outs work)
run_one ins outs work = any_two (λ list. run_of list ins outs work)
