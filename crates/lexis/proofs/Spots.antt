-- Cell identifiers by their numbers: which tokens have them, and the token that stands where they are found.
use Rattle.lexis.specs.Took.{Took}
use Rattle.std.specs.Prelude.{Ok, Err}
use mathlib.Core.Path.{◌≡◌, refl, sym, ap, ◌∙◌}
use mathlib.Core.Bool.{Bool, true, false, not, ◌&&◌, ◌||◌}
use mathlib.Core.List.{List}
use Prim.Native.Nat.{ℕ, ◌+◌}
use native.Mathlib.Omega.{arith}
use lib.Dec.{ltb, eqb}
use lib.ListN.{drop, get_or}
use borrow.Author.Tests.{eq-eqb, ne_eqb, eqb-true}
use Rattle.ground.specs.Choice.{pick}
use Rattle.ground.specs.Refusals.{at}
use Rattle.ground.proofs.Bools.{bool_cases, never_both, and_true, or_false}
use Rattle.signs.specs.Bytes.{class_of, class_from, is_digit}
use Rattle.signs.specs.Pieces.{inside_end, numeral_at, part_limit, no_suffix, begun_suffix, suffix_at}
use Rattle.lexis.specs.Tokens.{cell, mark, written, token, took, plain, judged, cell_took, cell_from, placeholder_from, opens_placeholder, cell_of, long_of, follows, standing_at, inside_at, part_or, spot, no_spot, spot_of, spot_at}
use Rattle.signs.specs.declared.pieces.Numeral.{Numeral}
use Rattle.signs.specs.declared.pieces.Suffix.{Suffix}
use Rattle.lexis.specs.declared.Spot.{Spot}
use Rattle.lexis.specs.declared.Token.{Token}
use Rattle.lexis.proofs.Cells.{not_true}
use Rattle.signs.proofs.Laws.{in_text, numeral_stop}
use Rattle.lexis.proofs.Standing.{standing_at_lem}

-- WHAT HAS NO NUMBERS: a refusal, a placeholder, a repetition
judged_none : (m l : Bool) (k : ℕ) (s : Took Token) → m || l ≡ true → spot_of (judged m l k s) ≡ no_spot false
judged_none true l k s e = refl
judged_none false true k s e = refl
judged_none false false k s e = never_both e refl

placeholder_none : (k : ℕ) (i : Numeral) → spot_of (placeholder_from k i) ≡ no_spot false
placeholder_none k i = bool_cases (eqb i.end (k + 1)) (λ e. rw e) (λ e. bool_cases i.large (λ f. rw (e, f)) (λ f. rw (e, f)))

repeated_none : (m l o w : Bool) (k n offset width count end : ℕ) → spot_of (judged m l k (took (token cell k n 0 0 (written o w true) offset width count) end)) ≡ no_spot false
repeated_none true l o w k n offset width count end = refl
repeated_none false true o w k n offset width count end = refl
repeated_none false false true true k n offset width count end = refl
repeated_none false false true false k n offset width count end = refl
repeated_none false false false true k n offset width count end = refl
repeated_none false false false false k n offset width count end = refl

plain_few : (o w : Bool) → ltb (written o w false) 4 ≡ true
plain_few true true = refl
plain_few true false = refl
plain_few false true = refl
plain_few false false = refl

-- the cell identifier or the placeholder of an index and parts
abbrev cell_read : List ℕ → ℕ → Numeral → Suffix → Suffix → Suffix → Took Token
cell_read text k i o w c = pick (opens_placeholder text i.end) (placeholder_from k i) (cell_from k i o w c)

module _ (k : ℕ) (i : Numeral) (o w c : Suffix) where
  abbrev malformed : Bool
  malformed = eqb i.end (k + 1) || (o.broken || (w.broken || c.broken))

  abbrev past : Bool
  past = i.large || (o.large || (w.large || c.large))

  pub record Good : Type 0 where
    pub some : eqb i.end (k + 1) ≡ false
    pub small : i.large ≡ false
    pub offset : o.broken || o.large ≡ false
    pub width : w.broken || w.large ≡ false

  all_good : malformed || past ≡ false → Good
  all_good z =
      let m = or_false malformed past z in
      let p = or_false (eqb i.end (k + 1)) (o.broken || (w.broken || c.broken)) m.0 in
      let q = or_false o.broken (w.broken || c.broken) p.1 in
      let r = or_false w.broken c.broken q.1 in
      let s = or_false i.large (o.large || (w.large || c.large)) m.1 in
      let t = or_false o.large (w.large || c.large) s.1 in
      let u = or_false w.large c.large t.1 in
      record { some = p.0; small = s.0; offset = rw q.0 t.0; width = rw r.0 u.0 }

  not_good : (text : List ℕ) → (Good → ⊥) → spot_of (cell_read text k i o w c) ≡ no_spot false
  not_good text h = bool_cases (opens_placeholder text i.end)
      (λ e. rw e (placeholder_none k i))
      (λ e. rw e (judged_none malformed past k (cell_took k i o w c) (bool_cases (malformed || past) (λ z. z) (λ z. absurd (h (all_good z))))))

  counted_none : (text : List ℕ) → c.given ≡ true → spot_of (cell_read text k i o w c) ≡ no_spot false
  counted_none text g = bool_cases (opens_placeholder text i.end)
      (λ e. rw e (placeholder_none k i))
      (λ e. rw (e, g) (repeated_none malformed past o.given w.given k i.value o.value (pick w.given w.value 1) c.value c.end))

-- A GOOD ONE without a count
good_spot : (text : List ℕ) (k : ℕ) (i : Numeral) (o w : Suffix) → eqb i.end (k + 1) ≡ false → i.large ≡ false → o.broken || o.large ≡ false → w.broken || w.large ≡ false
    → opens_placeholder text i.end ≡ false
    → spot_of (cell_read text k i o w (no_suffix w.end)) ≡ spot i.value o.value (pick w.given w.value 1) w.end
good_spot text k i o w n l eo ew p =
    let a = or_false o.broken o.large eo in
    let b = or_false w.broken w.large ew in
    rw (p, n, a.0, b.0, l, a.1, b.1, plain_few o.given w.given)

-- PARTS of the text
module _ (text : List ℕ) (m k : ℕ) where
  suffix_none : eqb (get_or text k 0) m ≡ false → suffix_at text m k ≡ no_suffix k
  unfolding suffix_at
  suffix_none e = rw e

  suffix_begun : eqb (get_or text k 0) m ≡ true → suffix_at text m k ≡ begun_suffix k (numeral_at part_limit text (k + 1))
  unfolding suffix_at
  suffix_begun e = rw e

  -- a part that is not written has the value 0
  suffix_zero : (part_or 0 (suffix_at text m k)).value ≡ (suffix_at text m k).value
  unfolding suffix_at
  suffix_zero = bool_cases (eqb (get_or text k 0) m) (λ e. rw e) (λ e. rw e)

-- `_` is no digit, so `:_` is no width
under_digit : is_digit 95 ≡ false
unfolding class_of class_from
under_digit = refl

placeholder_broken : (text : List ℕ) (k : ℕ) → opens_placeholder text k ≡ true → (suffix_at text 58 (suffix_at text 43 k).end).broken ≡ true
unfolding numeral_at
placeholder_broken text k e =
    let m = and_true _ _ e in
    let b : get_or text k 0 ≡ 58 = eqb-true _ _ m.0 in
    let u : get_or text (k + 1) 0 ≡ 95 = eqb-true _ _ m.1 in
    let o : suffix_at text 43 k ≡ no_suffix k = suffix_none text 43 k (rw b) in
    let w : suffix_at text 58 k ≡ begun_suffix k (numeral_at part_limit text (k + 1)) = suffix_begun text 58 k m.0 in
    let d = numeral_stop part_limit text 0 (k + 1) (in_text text (k + 1) (omega arith)) (rw u under_digit) in
    rw (o, w, d) (eq-eqb (k + 1) (k + 1) refl)

-- THE CELL IDENTIFIER OF THE TEXT, by its numbers as they are read
module _ (text : List ℕ) (k : ℕ) (i : Numeral) (ei : i ≡ numeral_at part_limit text (k + 1)) where
  abbrev first : Suffix
  first = suffix_at text 43 i.end

  abbrev second : Suffix
  second = suffix_at text 58 first.end

  abbrev third : Suffix
  third = suffix_at text 42 second.end

  read_as : cell_read text k i first second third ≡ cell_of text k
  unfolding cell_of
  read_as = ap (λ (n : Numeral). cell_read text k n (suffix_at text 43 n.end) (suffix_at text 58 (suffix_at text 43 n.end).end) (suffix_at text 42 (suffix_at text 58 (suffix_at text 43 n.end).end).end)) ei

  out : (s : Spot) → spot_of (cell_read text k i first second third) ≡ s → s ≡ spot_of (cell_of text k)
  out s e = sym e ∙ ap spot_of read_as

  pub spot_empty : i.end ≡ k + 1 → no_spot false ≡ spot_of (cell_of text k)
  spot_empty e = out (no_spot false) (not_good k i first second third text (λ g. never_both (eq-eqb _ _ e) g.some))

  pub spot_large : i.large ≡ true → no_spot false ≡ spot_of (cell_of text k)
  spot_large e = out (no_spot false) (not_good k i first second third text (λ g. never_both e g.small))

  module _ (o : Numeral) (eo : o ≡ part_or 0 first) where
    pub spot_offset : o.large ≡ true → no_spot false ≡ spot_of (cell_of text k)
    spot_offset e = out (no_spot false) (not_good k i first second third text (λ g. never_both (rw eo at e) g.offset))

    module _ (w : Numeral) (ew : w ≡ part_or 1 (suffix_at text 58 o.end)) where
      as_second : w ≡ part_or 1 second
      as_second = rw eo at ew

      pub spot_width : w.large ≡ true → no_spot false ≡ spot_of (cell_of text k)
      spot_width e = out (no_spot false) (not_good k i first second third text (λ g. never_both (rw as_second at e) g.width))

      pub spot_count : eqb (get_or text w.end 0) 42 ≡ true → no_spot false ≡ spot_of (cell_of text k)
      spot_count e = out (no_spot false) (counted_none k i first second third text (ap (λ (s : Suffix). s.given) (suffix_begun text 42 second.end (rw as_second at e))))

      pub spot_good : (i.end ≡ k + 1 → ⊥) → i.large ≡ false → o.large ≡ false → w.large ≡ false → eqb (get_or text w.end 0) 42 ≡ false
          → spot i.value o.value w.value w.end ≡ spot_of (cell_of text k)
      spot_good n l lo lw e =
          let fo : first.broken || first.large ≡ false = rw eo at lo in
          let fw : second.broken || second.large ≡ false = rw as_second at lw in
          let p : opens_placeholder text i.end ≡ false = bool_cases (opens_placeholder text i.end) (λ z. never_both (placeholder_broken text i.end z) (or_false _ _ fw).0) (λ z. z) in
          let c : third ≡ no_suffix second.end = suffix_none text 42 second.end (rw as_second at e) in
          let v : o.value ≡ first.value = ap (λ (m : Numeral). m.value) eo ∙ suffix_zero text 43 i.end in
          out (spot i.value o.value w.value w.end) (rw (c, v, as_second) (good_spot text k i first second (ne_eqb _ _ n) l fo fw p))

-- THE TOKEN WHERE A CELL IDENTIFIER IS FOUND by its numbers
pub record Spotted (s : Spot) (r : Took Token) : Type 0 where
  pub taken : Token
  pub is : r ≡ took taken s.end
  pub sort : eqb taken.sort cell ≡ true
  pub few : ltb taken.parts 4 ≡ true
  pub value : taken.value ≡ s.cell
  pub from : taken.offset ≡ s.offset
  pub wide : taken.width ≡ s.width

step_spotted : (s : Took Token) → (spot_of s).found ≡ true → Spotted (spot_of s) s
step_spotted (Err g) e = never_both e refl
step_spotted (Ok (t, r)) e = bool_cases (eqb t.sort cell && ltb t.parts 4)
    (λ h. let m = and_true (eqb t.sort cell) (ltb t.parts 4) h in rw h record { taken = t; is = refl; sort = m.0; few = m.1; value = refl; from = refl; wide = refl })
    (λ h. never_both (rw h at e) refl)

step_open : (s : Took Token) → (spot_of s).closed ≡ false
step_open (Err g) = refl
step_open (Ok (t, r)) = bool_cases (eqb t.sort cell && ltb t.parts 4) (λ h. rw h) (λ h. rw h)

module _ (text : List ℕ) (k : ℕ) where
  -- `%` begins a cell identifier
  cell_standing : get_or text k 0 ≡ 37 → follows text k ≡ false → standing_at text k ≡ cell_of text k
  unfolding long_of class_of class_from
  cell_standing b f = standing_at_lem text k (in_text text k (omega arith)) ∙ rw (b, f)

  -- `]` is a mark
  mark_standing : get_or text k 0 ≡ 93 → standing_at text k ≡ took (plain mark k 93 0 0) (k + 1)
  unfolding class_of class_from
  mark_standing b = standing_at_lem text k (in_text text k (omega arith)) ∙ rw b

  spotted : (pick (eqb (get_or text k 0) 37 && not (follows text k)) (spot_of (cell_of text k)) (no_spot (eqb (get_or text k 0) 93))).found ≡ true
      → Spotted (pick (eqb (get_or text k 0) 37 && not (follows text k)) (spot_of (cell_of text k)) (no_spot (eqb (get_or text k 0) 93))) (standing_at text k)
  spotted e = bool_cases (eqb (get_or text k 0) 37 && not (follows text k))
      (λ h. let m = and_true (eqb (get_or text k 0) 37) (not (follows text k)) h in
      rw (h, cell_standing (eqb-true _ _ m.0) (not_true _ m.1)) (step_spotted (cell_of text k) (rw h at e)))
      (λ h. never_both (rw h at e) refl)

  shut : (pick (eqb (get_or text k 0) 37 && not (follows text k)) (spot_of (cell_of text k)) (no_spot (eqb (get_or text k 0) 93))).closed ≡ true
      → standing_at text k ≡ took (plain mark k 93 0 0) (k + 1)
  shut e = bool_cases (eqb (get_or text k 0) 37 && not (follows text k))
      (λ h. never_both (rw h at e) (step_open (cell_of text k)))
      (λ h. mark_standing (eqb-true _ _ (rw h at e)))

-- .. between brackets; and the mark where they close
module _ (text : List ℕ) (k : ℕ) where
  pub spot_found : (spot_at text k).found ≡ true → Spotted (spot_at text k) (inside_at text k)
  unfolding spot_at inside_at
  spot_found e = spotted text (inside_end (drop k text) false k) e

  pub spot_closed : (spot_at text k).closed ≡ true → inside_at text k ≡ took (plain mark (inside_end (drop k text) false k) 93 0 0) (inside_end (drop k text) false k + 1)
  unfolding spot_at inside_at
  spot_closed e = shut text (inside_end (drop k text) false k) e
