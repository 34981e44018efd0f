-- What tokens mean. Document 01, Text: "`#` numbers: -2,147,483,648 to 2,147,483,647", held in 32 bits; "Constants are `0 1 X`".
use Rattle.lexis.specs.Took.{Took}
use Rattle.std.specs.Prelude.{Ok, Err, Option, Some, None}
use mathlib.Core.Path.{◌≡◌, refl}
use mathlib.Core.Bool.{Bool, true, false, ◌||◌}
use mathlib.Core.List.{List, [], ◌∷◌}
use Prim.Native.Nat.{ℕ, ◌+◌, ◌<◌, ◌≤◌}
use native.Mathlib.Omega.{arith}
use lib.Dec.{ltb, eqb}
use lib.ListN.{drop, get_or}
use borrow.Author.Tests.{ltb-true, ltb-false}
use Rattle.ground.specs.Choice.{pick}
use Rattle.ground.specs.Lists.{every}
use Rattle.ground.specs.Regions.{part}
use Rattle.ground.proofs.Bools.{bool_cases, never_both}
use Rattle.kinds.proofs.Widths.{picked}
use Rattle.signs.specs.Bytes.{is_constant, is_letter, is_feed, is_special}
use Rattle.signs.specs.Pieces.{span_end, digits_from, numeral_at, suffix_at, quoted_at}
use Rattle.lexis.specs.Tokens.{refused, plain, judged, single, signed_of, opens_placeholder, follows, constant_of, cell_of, named_from, io_of, string_step, number_of, meta_of, word_of, long_of, token_from, token_at, inside_at, constant, number, meta, placeholder}
use Rattle.lexis.specs.declared.Token.{Token}
use Rattle.signs.specs.declared.pieces.Numeral.{Numeral}
use Rattle.brackets.specs.Words.{is_sort}
use Rattle.saying.proofs.Tokens.{Nothing}
use Rattle.accepting.proofs.Bytes.{span_part}

-- a number of 32 bits, or a constant whose characters are those of constants
pub record MeantToken (text : List ℕ) (t : Token) : Type 0 where
  pub number : is_sort number t ≡ true → t.value < 4294967296
  pub characters : is_sort constant t ≡ true → every is_constant (part t.from t.size text) ≡ true

abbrev pub MeantStep : List ℕ → Took Token → Type 0
MeantStep text (Err g) = Nothing
MeantStep text (Ok (t, r)) = MeantToken text t

-- a token of another sort
other : (text : List ℕ) (t : Token) → is_sort number t ≡ false → is_sort constant t ≡ false → MeantToken text t
other text t n c = record { number = λ p. never_both p n; characters = λ p. never_both p c }

numeral_most : (limit : ℕ) (text : List ℕ) (k : ℕ) → (numeral_at limit text k).value ≤ limit
unfolding numeral_at
numeral_most limit text k = capped (digits_from (drop k text) 0 k).value
  where
    capped : (n : ℕ) → pick (ltb limit n) 0 n ≤ limit
    capped n = bool_cases (ltb limit n) (λ e. rw e (omega arith)) (λ e. rw e (let h = ltb-false limit n e in omega arith))

signed_most : (minus : Bool) (n : ℕ) → n ≤ 2147483648 → signed_of minus n < 4294967296
signed_most true n h = bool_cases (ltb 0 n) (λ e. rw e (let p = ltb-true 0 n e in omega arith)) (λ e. rw e (omega arith))
signed_most false n h = omega arith

module _ (text : List ℕ) where
  either : (b : Bool) (x y : Took Token) → MeantStep text x → MeantStep text y → MeantStep text (pick b x y)
  either b x y p q = picked (MeantStep text) b x y p q

  judged_meant : (malformed large : Bool) (k : ℕ) (s : Took Token) → MeantStep text s → MeantStep text (judged malformed large k s)
  judged_meant m l k s n = either m (refused 5 k) (pick l (refused 6 k) s) refl (either l (refused 6 k) s refl n)

  single_meant : (sort k from : ℕ) (i : Numeral) (value end : ℕ) → MeantToken text (plain sort k value 0 0) → MeantStep text (single sort k from i value end)
  single_meant sort k from i value end f = judged_meant (eqb i.end from) i.large k _ f

  constant_meant : (k : ℕ) → MeantStep text (constant_of text k)
  unfolding constant_of
  constant_meant k =
      let c = suffix_at text 42 (span_end is_constant (drop k text) k) in
      judged_meant c.broken c.large k _ (record { number = λ p. never_both p refl; characters = λ p. span_part is_constant text k })

  cell_meant : (k : ℕ) → MeantStep text (cell_of text k)
  unfolding cell_of
  cell_meant k =
      let i = numeral_at 65535 text (k + 1) in
      let o = suffix_at text 43 i.end in
      let w = suffix_at text 58 o.end in
      let c = suffix_at text 42 w.end in
      either (opens_placeholder text i.end) _ _ (single_meant placeholder k (k + 1) i i.value (i.end + 2) (other text _ refl refl))
      (judged_meant (eqb i.end (k + 1) || (o.broken || (w.broken || c.broken))) (i.large || (o.large || (w.large || c.large))) k _ (other text _ refl refl))

  named_meant : (k : ℕ) (q : Option (ℕ × ℕ)) → MeantStep text (named_from text k q)
  named_meant k (Some (n, e)) =
      let o = suffix_at text 43 e in
      let w = suffix_at text 58 e in
      judged_meant (o.broken || w.broken) (o.large || w.large) k _ (other text _ refl refl)
  named_meant k None = refl

  io_meant : (k : ℕ) → MeantStep text (io_of text k)
  unfolding io_of
  io_meant k =
      let w = suffix_at text 58 (k + 2) in
      either (eqb (get_or text (k + 1) 0) 95) _ _ (judged_meant w.broken w.large k _ (other text _ refl refl))
      (either (eqb (get_or text (k + 1) 0) 34) _ _ (named_meant k (quoted_at text (k + 2))) refl)

  number_meant : (k : ℕ) → MeantStep text (number_of text k)
  unfolding number_of
  number_meant k =
      let m = numeral_at 2147483648 text (k + 2) in
      let i = numeral_at 2147483647 text (k + 1) in
      either (eqb (get_or text (k + 1) 0) 45) _ _
      (single_meant number k (k + 2) m (signed_of true m.value) m.end (record { number = λ p. signed_most true m.value (numeral_most 2147483648 text (k + 2)); characters = λ p. never_both p refl }))
      (single_meant number k (k + 1) i (signed_of false i.value) i.end (record { number = λ p. signed_most false i.value (let h = numeral_most 2147483647 text (k + 1) in omega arith); characters = λ p. never_both p refl }))

  string_meant : (k : ℕ) (q : Option (ℕ × ℕ)) → MeantStep text (string_step k q)
  string_meant k (Some (n, e)) = other text _ refl refl
  string_meant k None = refl

  long_meant : (k b : ℕ) → MeantStep text (long_of text k b)
  unfolding long_of word_of meta_of
  long_meant k b =
      let i = numeral_at 65535 text (k + 1) in
      either (is_letter b) _ _ (other text _ refl refl)
      (either (is_constant b) _ _ (constant_meant k)
      (either (eqb b 35) _ _ (number_meant k)
      (either (eqb b 33) _ _ (single_meant meta k (k + 1) i i.value i.end (other text _ refl refl))
      (either (eqb b 38) _ _ (io_meant k)
      (either (eqb b 37) _ _ (cell_meant k)
      (either (eqb b 34) _ _ (string_meant k (quoted_at text (k + 1))) refl))))))

  from_meant : (k : ℕ) (s : List ℕ) → MeantStep text (token_from text k s)
  unfolding token_from
  from_meant k [] = other text _ refl refl
  from_meant k (b ∷ s) =
      either (is_feed b) _ _ (other text _ refl refl)
      (either (eqb b 13) _ _ (other text _ refl refl)
      (either (eqb b 59) _ _ (other text _ refl refl)
      (either (is_special b) _ _ (other text _ refl refl)
      (either (follows text k) _ _ refl (long_meant k b)))))

  -- THE TOKEN, outside and between brackets
  pub token_meant : (k : ℕ) → MeantStep text (token_at text k)
  unfolding token_at
  token_meant k = from_meant _ _

  pub inside_meant : (k : ℕ) → MeantStep text (inside_at text k)
  unfolding inside_at
  inside_meant k = from_meant _ _
