-- A part of a text of at most 65,536 bytes is no wider than 65,536 times 65,536.
-- Assumes nothing.
use Rattle.ground.proofs.Pairs.{ok_first}
use Rattle.lexis.specs.Took.{Took}
use Rattle.std.specs.Prelude.{Ok, Err, Option, Some, None}
use mathlib.Core.Path.{◌≡◌, refl, subst}
use mathlib.Core.Bool.{Bool, true, false, ◌||◌}
use mathlib.Core.List.{List, [], ◌∷◌}
use Prim.Native.Nat.{ℕ, ◌+◌, ◌-◌, ◌≤◌}
use native.Mathlib.Nat.{mul-le-mul}
use native.Mathlib.Omega.{arith}
use lib.Dec.{leb, ltb, eqb}
use lib.ListN.{length, drop, get_or, length-drop}
use borrow.Author.Tests.{ltb-false}
use Rattle.ground.specs.Choice.{pick}
use Rattle.ground.proofs.Bools.{bool_cases, never_both}
use Rattle.kinds.proofs.Widths.{picked}
use Rattle.signs.specs.Bytes.{is_constant, is_letter, is_feed, is_special}
use Rattle.signs.specs.Pieces.{span_end, digits_from, numeral_at, suffix_at, quoted_at}
use Rattle.lexis.specs.Tokens.{refused, token, plain, written, judged, single, signed_of, opens_placeholder, follows, constant_of, cell_from, cell_of, named_from, io_of, string_step, number_of, meta_of, word_of, long_of, token_from, token_at, inside_at, constant, cell, number, meta, placeholder}
use Rattle.ground.specs.declared.Place.{Place}
use Rattle.lexis.specs.declared.Reader.{Reader}
use Rattle.lexis.specs.declared.Token.{Token}
use Rattle.signs.specs.declared.pieces.Numeral.{Numeral}
use Rattle.signs.specs.declared.pieces.Suffix.{Suffix}
use Rattle.signs.proofs.Laws.{span_most}
use Rattle.brackets.specs.Words.{is_sort}
use Rattle.brackets.specs.Parts.{is_part, str, part_of, part_width, widest, Narrow, parted_of, next_part}
use Rattle.brackets.specs.declared.Base.{Base}
use Rattle.brackets.specs.declared.Base.TheVariants.{Constant, Cell}
use Rattle.brackets.specs.declared.Part.{Part}
use Rattle.brackets.specs.declared.Part.TheVariants.{One, Repeated}
use Rattle.brackets.specs.declared.Parted.TheVariants as parted

numeral_most : (text : List ℕ) (k : ℕ) → (numeral_at 65535 text k).value ≤ 65535
unfolding numeral_at
numeral_most text k = capped (digits_from (drop k text) 0 k).value
  where
    capped : (n : ℕ) → pick (ltb 65535 n) 0 n ≤ 65535
    capped n = bool_cases (ltb 65535 n) (λ e. rw e (omega arith)) (λ e. rw e (ltb-false 65535 n e))

suffix_most : (text : List ℕ) (mark k : ℕ) → (suffix_at text mark k).value ≤ 65535
unfolding suffix_at
suffix_most text mark k =
    picked (λ (s : Suffix). s.value ≤ 65535) (eqb (get_or text k 0) mark) _ _ (numeral_most text (k + 1)) (omega arith)

-- what the fields of a token give of its width
narrow_of : (t : Token) → t.size ≤ 65536 → t.width ≤ 65536 → t.count ≤ 65536 → Narrow t
narrow_of t s w c = record { width = λ _. go (leb 4 t.parts) (is_sort constant t) }
  where
    base : Bool → Base
    base b = pick b (Constant (str t)) (Cell (record { cell = t.value; offset = t.offset; width = t.width }))

    go : (many b : Bool) → part_width (pick many (Repeated (base b) t.count) (One (base b))) ≤ widest
    go true true = mul-le-mul c s
    go true false = mul-le-mul c w
    go false true = omega arith
    go false false = omega arith

-- each token that the step takes
record AllNarrow (s : Took Token) : Type 0 where
  took : (t : Token) (r : Reader) → s ≡ Ok (t, r) → Narrow t

none_narrow : (n k : ℕ) → AllNarrow (refused n k)
none_narrow n k = record { took = λ t r e. let z : ◌≡◌ {A = ℕ} 0 1 = cc in absurd (omega arith) }

one_narrow : (t : Token) (r : Reader) → Narrow t → AllNarrow (Ok (t, r))
one_narrow t r n = record { took = λ u q e. let same : t ≡ u = ok_first e in subst Narrow same n }

-- a token that is no part
other_narrow : (t : Token) (r : Reader) → is_part t ≡ false → AllNarrow (Ok (t, r))
other_narrow t r f = one_narrow t r (record { width = λ p. never_both p f })

-- a choice between two steps
either : (b : Bool) {x y : Took Token} → AllNarrow x → AllNarrow y → AllNarrow (pick b x y)
either b {x} {y} p q = picked AllNarrow b x y p q

judged_narrow : (malformed large : Bool) (k : ℕ) {s : Took Token} → AllNarrow s → AllNarrow (judged malformed large k s)
judged_narrow m l k n = either m (none_narrow 5 k) (either l (none_narrow 6 k) n)

single_narrow : (sort k from : ℕ) (i : Numeral) (value end : ℕ) → is_part (plain sort k value 0 0) ≡ false → AllNarrow (single sort k from i value end)
single_narrow sort k from i value end f = judged_narrow (eqb i.end from) i.large k (other_narrow _ _ f)

constant_narrow : (text : List ℕ) (k : ℕ) → length text ≤ 65536 → AllNarrow (constant_of text k)
unfolding constant_of
constant_narrow text k h =
    let e = span_end is_constant (drop k text) k in
    let c = suffix_at text 42 e in
    let long : e - k ≤ 65536 = (let m = span_most is_constant (drop k text) k in let l = length-drop k text in omega arith) in
    let often : c.value ≤ 65536 = (let m = suffix_most text 42 e in omega arith) in
    judged_narrow c.broken c.large k
    (one_narrow _ _ (narrow_of (token constant k 0 k (e - k) (written false false c.given) 0 0 c.value) long (omega arith) often))

cell_from_narrow : (k : ℕ) (i : Numeral) (o w c : Suffix) → w.value ≤ 65535 → c.value ≤ 65535 → AllNarrow (cell_from k i o w c)
cell_from_narrow k i o w c h n =
    let wide : pick w.given w.value 1 ≤ 65536 = picked (λ (n : ℕ). n ≤ 65536) w.given w.value 1 (omega arith) (omega arith) in
    judged_narrow (eqb i.end (k + 1) || (o.broken || (w.broken || c.broken))) (i.large || (o.large || (w.large || c.large))) k
    (one_narrow _ _ (narrow_of (token cell k i.value 0 0 (written o.given w.given c.given) o.value (pick w.given w.value 1) c.value) (omega arith) wide (omega arith)))

cell_narrow : (text : List ℕ) (k : ℕ) → AllNarrow (cell_of text k)
unfolding cell_of
cell_narrow text k =
    let i = numeral_at 65535 text (k + 1) in
    let o = suffix_at text 43 i.end in
    let w = suffix_at text 58 o.end in
    let c = suffix_at text 42 w.end in
    either (opens_placeholder text i.end) (single_narrow placeholder k (k + 1) i i.value (i.end + 2) refl)
    (cell_from_narrow k i o w c (suffix_most text 58 o.end) (suffix_most text 42 w.end))

named_narrow : (text : List ℕ) (k : ℕ) (q : Option (ℕ × ℕ)) → AllNarrow (named_from text k q)
named_narrow text k (Some (n, e)) =
    let o = suffix_at text 43 e in
    let w = suffix_at text 58 e in
    judged_narrow (o.broken || w.broken) (o.large || w.large) k (other_narrow _ _ refl)
named_narrow text k None = none_narrow 5 k

io_narrow : (text : List ℕ) (k : ℕ) → AllNarrow (io_of text k)
unfolding io_of
io_narrow text k =
    let w = suffix_at text 58 (k + 2) in
    either (eqb (get_or text (k + 1) 0) 95) (judged_narrow w.broken w.large k (other_narrow _ _ refl))
    (either (eqb (get_or text (k + 1) 0) 34) (named_narrow text k (quoted_at text (k + 2))) (none_narrow 5 k))

number_narrow : (text : List ℕ) (k : ℕ) → AllNarrow (number_of text k)
unfolding number_of
number_narrow text k =
    let m = numeral_at 2147483648 text (k + 2) in
    let i = numeral_at 2147483647 text (k + 1) in
    either (eqb (get_or text (k + 1) 0) 45) (single_narrow number k (k + 2) m (signed_of true m.value) m.end refl)
    (single_narrow number k (k + 1) i (signed_of false i.value) i.end refl)

string_narrow : (k : ℕ) (q : Option (ℕ × ℕ)) → AllNarrow (string_step k q)
string_narrow k (Some (n, e)) = other_narrow _ _ refl
string_narrow k None = none_narrow 5 k

long_narrow : (text : List ℕ) (k b : ℕ) → length text ≤ 65536 → AllNarrow (long_of text k b)
unfolding long_of word_of meta_of
long_narrow text k b h =
    let i = numeral_at 65535 text (k + 1) in
    either (is_letter b) (other_narrow _ _ refl)
    (either (is_constant b) (constant_narrow text k h)
    (either (eqb b 35) (number_narrow text k)
    (either (eqb b 33) (single_narrow meta k (k + 1) i i.value i.end refl)
    (either (eqb b 38) (io_narrow text k)
    (either (eqb b 37) (cell_narrow text k)
    (either (eqb b 34) (string_narrow k (quoted_at text (k + 1))) (none_narrow 5 k)))))))

from_narrow : (text : List ℕ) (k : ℕ) (s : List ℕ) → length text ≤ 65536 → AllNarrow (token_from text k s)
unfolding token_from
from_narrow text k [] h = other_narrow _ _ refl
from_narrow text k (b ∷ s) h =
    either (is_feed b) (other_narrow _ _ refl)
    (either (eqb b 13) (other_narrow _ _ refl)
    (either (eqb b 59) (other_narrow _ _ refl)
    (either (is_special b) (other_narrow _ _ refl)
    (either (follows text k) (none_narrow 5 k) (long_narrow text k b h)))))

module _ (text : List ℕ) (k : ℕ) (h : length text ≤ 65536) where
  pub token_narrow : (t : Token) (r : Reader) → token_at text k ≡ Ok (t, r) → Narrow t
  unfolding token_at
  token_narrow t r e = (from_narrow text _ _ h).took t r e

  pub inside_narrow : (t : Token) (r : Reader) → inside_at text k ≡ Ok (t, r) → Narrow t
  unfolding inside_at
  inside_narrow t r e = (from_narrow text _ _ h).took t r e

  -- the part that stands next between brackets
  pub next_narrow : (p : Part) (place : Place) (r : Reader) → next_part text k ≡ Ok (parted.Took p place, r) → part_width p ≤ widest
  unfolding next_part
  next_narrow p place r e = go (inside_at text k) inside_narrow e
    where
      go : (s : Took Token) → ((t : Token) (r : Reader) → s ≡ Ok (t, r) → Narrow t) → parted_of s ≡ Ok (parted.Took p place, r) → part_width p ≤ widest
      go (Err g) n e = let z : ◌≡◌ {A = ℕ} 0 1 = cc in absurd (omega arith)
      go (Ok (t, q)) n e = bool_cases (is_part t)
          (λ is. let same : part_of t ≡ p = (let f = rw is at e in let g : parted.Took (part_of t) t.place ≡ parted.Took p place = ok_first f in cc g) in subst (λ (x : Part). part_width x ≤ widest) same ((n t q refl).width is))
          (λ not. let f = rw not at e in let g : parted.Other t ≡ parted.Took p place = ok_first f in let z : ◌≡◌ {A = ℕ} 0 1 = cc g in absurd (omega arith))
