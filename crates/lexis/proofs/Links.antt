-- References by their index, and single bytes: the token that stands where they are found.
use Rattle.lexis.specs.declared.Token.{Token}
use Rattle.lexis.specs.Took.{Took}
use Rattle.std.specs.Prelude.{Some, None}
use mathlib.Core.Path.{◌≡◌, refl, sym, ap, ◌∙◌}
use mathlib.Core.Bool.{Bool, true, false, not, ◌&&◌}
use mathlib.Core.List.{List}
use Prim.Native.Nat.{ℕ, ◌+◌, ◌-◌, ◌<◌}
use native.Mathlib.Omega.{arith}
use lib.Dec.{eqb}
use lib.ListN.{drop, get_or}
use borrow.Author.Tests.{eqb-true, eqb-false}
use Rattle.ground.specs.Choice.{pick}
use Rattle.ground.proofs.Bools.{bool_cases, never_both, and_true}
use Rattle.signs.specs.Bytes.{class_of, class_from, is_white, is_special, is_feed}
use Rattle.signs.specs.Pieces.{span_end, inside_end, numeral_at, part_limit}
use Rattle.lexis.specs.Tokens.{meta, mark, line_end, took, plain, judged, meta_of, long_of, follows, standing_at, token_at, inside_at, link, link_of, link_at, byte_end}
use Rattle.lexis.specs.declared.Link.{Link}
use Rattle.lexis.proofs.Cells.{not_true}
use Rattle.signs.proofs.Laws.{in_text}
use Rattle.lexis.proofs.Standing.{standing_at_lem}

-- the step of a reference that is found
abbrev linked : Link → Took Token
linked l = took (plain meta l.at l.index 0 0) l.end

judged_link : (m l : Bool) (k v e : ℕ) (j : Link) → link_of (judged m l k (took (plain meta k v 0 0) e)) ≡ Some j
    → judged m l k (took (plain meta k v 0 0) e) ≡ linked j
judged_link true l k v e j f = cc
judged_link false true k v e j f = cc
judged_link false false k v e j f = let q : link v k e ≡ j = cc in ap linked q

meta_linked : (text : List ℕ) (k : ℕ) (j : Link) → link_of (meta_of text k) ≡ Some j → meta_of text k ≡ linked j
unfolding meta_of
meta_linked text k j f = let i = numeral_at part_limit text (k + 1) in judged_link (eqb i.end (k + 1)) i.large k i.value i.end j f

module _ (text : List ℕ) (k : ℕ) where
  -- `!` begins a reference
  meta_standing : get_or text k 0 ≡ 33 → follows text k ≡ false → standing_at text k ≡ meta_of text k
  unfolding long_of class_of class_from
  meta_standing b f = standing_at_lem text k (in_text text k (omega arith)) ∙ rw (b, f)

  found : (j : Link) → pick (eqb (get_or text k 0) 33 && not (follows text k)) (link_of (meta_of text k)) None ≡ Some j → standing_at text k ≡ linked j
  found j e = bool_cases (eqb (get_or text k 0) 33 && not (follows text k))
      (λ h. let m = and_true (eqb (get_or text k 0) 33) (not (follows text k)) h in
      meta_standing (eqb-true _ _ m.0) (not_true _ m.1) ∙ meta_linked text k j (rw h at e))
      (λ h. let z = rw h at e in cc)

  -- a line feed ends a line
  feed_standing : get_or text k 0 ≡ 10 → standing_at text k ≡ took (plain line_end k 0 0 0) (k + 1)
  unfolding class_of class_from
  feed_standing e = standing_at_lem text k (in_text text k (omega arith)) ∙ rw e

-- a special character is none of the bytes that are told before it
other : (x b : ℕ) → is_special x ≡ false → is_special b ≡ true → eqb b x ≡ false
other x b n s = bool_cases (eqb b x) (λ e. let q : b ≡ x = eqb-true _ _ e in never_both (rw q at s) n) (λ e. e)

special_none : (is_special 0 ≡ false) × (is_special 13 ≡ false) × (is_special 59 ≡ false)
unfolding class_of class_from
special_none = (refl, refl, refl)

pub special_some : (b : ℕ) → is_special b ≡ true → 0 < b
special_some b s = let n : b ≡ 0 → ⊥ = eqb-false b 0 (other 0 b special_none.0 s) in omega (arith, n)

module _ (text : List ℕ) (k b : ℕ) where
  mark_standing : get_or text k 0 ≡ b → is_special b ≡ true → standing_at text k ≡ took (plain mark k b 0 0) (k + 1)
  mark_standing e s =
      let c : class_of b ≡ 15 = eqb-true _ _ s in
      let f : is_feed b ≡ false = rw c in
      standing_at_lem text k (in_text text k (omega (arith, e, special_some b s))) ∙ rw (e, f, other 13 b special_none.1 s, other 59 b special_none.2 s, s)

module _ (text : List ℕ) (at : ℕ) where
  -- the byte that is found
  byte_found : (b : ℕ) → 0 < byte_end text b at → (get_or text (byte_end text b at - 1) 0 ≡ b) × (span_end is_white (drop at text) at ≡ byte_end text b at - 1)
  unfolding byte_end
  byte_found b h = bool_cases (eqb (get_or text (span_end is_white (drop at text) at) 0) b)
      (λ e. let n : span_end is_white (drop at text) at + 1 - 1 ≡ span_end is_white (drop at text) at = omega arith in rw (e, n) (eqb-true _ _ e, refl))
      (λ e. absurd (let z = rw e at h in omega (arith, z)))

  pub mark_found : (b : ℕ) → is_special b ≡ true → 0 < byte_end text b at → token_at text at ≡ took (plain mark (byte_end text b at - 1) b 0 0) (byte_end text b at)
  unfolding token_at
  mark_found b s h =
      let f = byte_found b h in
      let n : byte_end text b at - 1 + 1 ≡ byte_end text b at = omega (arith, h) in
      let m : standing_at text (byte_end text b at - 1) ≡ took (plain mark (byte_end text b at - 1) b 0 0) (byte_end text b at) = rw n at (mark_standing text (byte_end text b at - 1) b f.0 s) in
      rw f.1 m

  pub feed_found : 0 < byte_end text 10 at → token_at text at ≡ took (plain line_end (byte_end text 10 at - 1) 0 0 0) (byte_end text 10 at)
  unfolding token_at
  feed_found h =
      let f = byte_found 10 h in
      let n : byte_end text 10 at - 1 + 1 ≡ byte_end text 10 at = omega (arith, h) in
      let m : standing_at text (byte_end text 10 at - 1) ≡ took (plain line_end (byte_end text 10 at - 1) 0 0 0) (byte_end text 10 at) = rw n at (feed_standing text (byte_end text 10 at - 1) f.0) in
      rw f.1 m

-- `(`, `=` and `[` are special characters
pub open_special : is_special 40 ≡ true
unfolding class_of class_from
open_special = refl

pub equals_special : is_special 61 ≡ true
unfolding class_of class_from
equals_special = refl

pub bracket_special : is_special 91 ≡ true
unfolding class_of class_from
bracket_special = refl

pub link_found : (text : List ℕ) (at : ℕ) (j : Link) → link_at text at ≡ Some j → inside_at text at ≡ linked j
unfolding link_at inside_at
link_found text at j e = found text (inside_end (drop at text) false at) j e
