-- Cell identifiers back: the number, and the parts that are printed behind it.
use Rattle.lexis.specs.Took.{Took}
use Prim.Native.Nat.{ℕ, ◌+◌, ◌≤◌}
use mathlib.Core.Path.{◌≡◌, refl}
use mathlib.Core.Bool.{Bool, true, false, not}
use mathlib.Core.List.{List, ◌∷◌}
use native.Mathlib.Omega.{arith}
use lib.Dec.{eqb}
use lib.ListN.{drop, get_or}
use borrow.Author.Tests.{ne_eqb, eqb-true}
use Rattle.ground.specs.Choice.{pick}
use Rattle.ground.proofs.Bools.{bool_cases}
use Rattle.signs.specs.Bytes.{class_from, class_of, is_digit}
use Rattle.lexis.specs.Tokens.{took, token, cell, written, opens_placeholder, cell_of}
use Rattle.writing.specs.Words.{number}
use Rattle.operands.specs.Operands.{offset, width}
use Rattle.tokensback.proofs.Standing.{ends}
use Rattle.tokensback.proofs.Places.{first_left, byte_here, past_byte}
use Rattle.tokensback.proofs.Spans.{Fails, end_fails}
use Rattle.tokensback.proofs.Numbers.{Numbered, index_back, digits_end, digit_fails}
use Rattle.tokensback.proofs.Parts.{Parted, unparted, ended, parted}

-- the identifier of the number n with its offset and width, and no count
pub cell_long :
    {text s s' s'' r : List ℕ} {n o w : ℕ} {go gw : Bool} (k : ℕ) (i : Numbered 65535 text (k + 1) n s) (p : Parted text 43 i.end go o s')
    (q : Parted text 58 p.end gw w s'') (c : Parted text 42 q.end false 0 r) → opens_placeholder text i.end ≡ false
    → cell_of text k ≡ took (token cell k n 0 0 (written go gw false) o (pick gw w 1) 0) c.end
unfolding cell_of
cell_long k i p q c e =
    let d = ne_eqb i.end (k + 1) (λ z. let h = i.far in omega arith) in
    rw (i.is, e, p.is, q.is, c.is, d)

-- where no placeholder `:_` stands
module _ (text : List ℕ) (k : ℕ) (s : List ℕ) where
  -- where another byte than `:` does
  pub unopened : eqb (get_or s 0 0) 58 ≡ false → drop k text ≡ s → opens_placeholder text k ≡ false
  unopened e h = let c : eqb (get_or text k 0) 58 ≡ false = rw (first_left text k, h) e in rw c

  -- where a number stands behind `:`
  pub unopened_number : (n : ℕ) → n ≤ 65535 → is_digit (get_or s 0 0) ≡ false → drop k text ≡ 58 ∷ number n s → opens_placeholder text k ≡ false
  unopened_number n l d h =
      let i = index_back text (k + 1) n s l d (past_byte text k h) in
      let c = ne_eqb (get_or text (k + 1) 0) 95 (λ z. let m = i.high in omega arith) in
      rw (byte_here text k 58 h, c)

-- the width of a piece: nothing is printed of 1
module _ (w : ℕ) (s : List ℕ) (e : ends s ≡ true) where
  width_first : (p : ℕ → Bool) → Fails p → p 58 ≡ false → p (get_or (width w s) 0 0) ≡ false
  unfolding width
  width_first p f c = bool_cases (eqb w 1) (λ d. rw d (end_fails p s f e)) (λ d. rw d c)

  module _ (text : List ℕ) (k : ℕ) (l : w ≤ 65535) (h : drop k text ≡ width w s) where
    -- the width is read as a part, or left out
    pub width_parted : Parted text 58 k (not (eqb w 1)) (pick (eqb w 1) 0 w) s
    unfolding width
    width_parted = bool_cases (eqb w 1)
        (λ d. rw d (ended text 58 k refl e (rw d at h)))
        (λ d. rw d (parted text 58 k w l (digits_end s e) (rw d at h)))

    width_unopened : opens_placeholder text k ≡ false
    unfolding width
    width_unopened = bool_cases (eqb w 1)
        (λ d. unopened text k s (end_fails (λ b. eqb b 58) s refl e) (rw d at h))
        (λ d. unopened_number text k s w l (digits_end s e) (rw d at h))

-- a width left out means 1
pub width_meant : (w : ℕ) → pick (not (eqb w 1)) (pick (eqb w 1) 0 w) 1 ≡ w
width_meant w = bool_cases (eqb w 1) (λ d. rw (d, eqb-true w 1 d)) (λ d. rw d)

-- the offset of a piece, before its width: nothing is printed of a whole cell's
module _ (whole : Bool) (o w : ℕ) (s : List ℕ) (e : ends s ≡ true) where
  -- what stands behind the number is no digit
  pub offset_first : is_digit (get_or (offset whole o (width w s)) 0 0) ≡ false
  unfolding offset class_of class_from
  offset_first = bool_cases whole (λ d. rw d (width_first w s e is_digit digit_fails refl)) (λ d. rw d)

  module _ (text : List ℕ) (k : ℕ) (h : drop k text ≡ offset whole o (width w s)) where
    -- the offset is read as a part, or left out
    pub offset_parted : (whole ≡ true → o ≡ 0) → o ≤ 65535 → Parted text 43 k (not whole) o (width w s)
    unfolding offset class_of class_from
    offset_parted z l = bool_cases whole
        (λ d. rw (d, z d) (unparted text 43 k (width_first w s e (λ b. eqb b 43) refl refl) (rw d at h)))
        (λ d. rw d (parted text 43 k o l (width_first w s e is_digit digit_fails refl) (rw d at h)))

    -- no placeholder stands there
    pub offset_unopened : w ≤ 65535 → opens_placeholder text k ≡ false
    unfolding offset
    offset_unopened l = bool_cases whole
        (λ d. width_unopened w s e text k l (rw d at h))
        (λ d. unopened text k (43 ∷ number o (width w s)) refl (rw d at h))
