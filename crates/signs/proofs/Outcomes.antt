-- Each public function has one outcome: its contract is one equation.
use mathlib.Core.Path.{◌≡◌}
use mathlib.Core.List.{List}
use Prim.Native.Nat.{ℕ}
use lib.ListN.{drop, get_or}
use lib.Seq.{sets}
use Rattle.ground.proofs.Outcome.{any_two}
use Rattle.signs.specs.Bytes.{table, class_of, within, among, is_hex, is_raw}
use Rattle.signs.specs.Pieces.{span_end, comment_end, inside_end, numeral_at, suffix_at, taken_at, quoted_at, decoded}
use Rattle.signs.specs.Decoding.{meant_at, decoded_into}
use mathlib.Core.Bool.{false}

abbrev One : {A B : Type 0} → (A → B) → Type 0
One {A} {B} f = (a : A) (o p : B) → o ≡ f a → p ≡ f a → o ≡ p

pub classes_one : One (λ (n : ℕ). table)
classes_one = any_two (λ n. table)

pub class_one : One class_of
class_one = any_two class_of

pub hex_one : One is_hex
hex_one = any_two is_hex

pub raw_one : One is_raw
raw_one = any_two is_raw

module _ (low high : ℕ) where
  pub between_one : One (within low high)
  between_one = any_two (within low high)

  pub among_one : One (among low high)
  among_one = any_two (among low high)

module _ (text : List ℕ) where
  pub byte_one : One (λ (k : ℕ). get_or text k 0)
  byte_one = any_two (λ k. get_or text k 0)

  pub span_one : (low high : ℕ) → One (λ (k : ℕ). span_end (among low high) (drop k text) k)
  span_one low high = any_two (λ k. span_end (among low high) (drop k text) k)

  pub comment_one : One (λ (k : ℕ). comment_end (drop k text) k)
  comment_one = any_two (λ k. comment_end (drop k text) k)

  pub inside_one : One (λ (k : ℕ). inside_end (drop k text) false k)
  inside_one = any_two (λ k. inside_end (drop k text) false k)

  pub numeral_one : (limit : ℕ) → One (numeral_at limit text)
  numeral_one limit = any_two (numeral_at limit text)

  pub suffix_one : (mark : ℕ) → One (suffix_at text mark)
  suffix_one mark = any_two (suffix_at text mark)

  pub taken_one : One (taken_at text)
  taken_one = any_two (taken_at text)

  pub quoted_one : One (quoted_at text)
  quoted_one = any_two (quoted_at text)

  pub next_byte_one : One (meant_at text)
  next_byte_one = any_two (meant_at text)

  pub fill_one : (k : ℕ) → One (λ (room : List ℕ). sets room 0 (decoded text k))
  fill_one k = any_two (λ room. sets room 0 (decoded text k))

  pub decode_one : (k : ℕ) → One (decoded_into text k)
  decode_one k = any_two (decoded_into text k)
