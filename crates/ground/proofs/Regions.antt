-- Words then zeros, a row put behind rows, regions of a flat table, parts of a pool.
use mathlib.Core.Path.{◌≡◌, refl, ap, ap₂, ◌∙◌, sym, subst}
use mathlib.Core.Bool.{true, false}
use mathlib.Core.List.{List, [], ◌∷◌, ◌++◌, append_assoc}
use Prim.Native.Nat.{ℕ, zero, suc, ◌+◌, ◌-◌, ◌*◌, ◌<◌, ◌≤◌}
use native.Mathlib.Omega.{arith}
use native.Mathlib.Nat.{zero-add, suc-add, zero-mul, suc-mul}
use native.Mathlib.Numerals.{unary_clauses, add-one}
use lib.ListN.{length, drop, set, replicate, length-set, length-append, length-take, length-drop, length-replicate}
use lib.Seq.{sets, sets-eq, set-append_left, take-append_seam, drop-append_seam, drop-append-add, drop-drop}
use lib.Dec.{eqb}
use borrow.Author.Tests.{eqb-true, eq-eqb, ne_eqb}
use Rattle.ground.specs.Regions.{zeros, blank, fits, pad, part, Rows}
use Rattle.ground.proofs.Bools.{bool_cases, never_both}

pub length_zeros : (n : ℕ) → length (zeros n) ≡ n
unfolding zeros
length_zeros n = length-replicate n 0

pub drop_zeros : (n k : ℕ) → drop n (zeros k) ≡ zeros (k - n)
unfolding zeros
drop_zeros zero k = let e : k ≡ k - 0 = omega arith in ap (λ (m : ℕ). replicate m 0) e
drop_zeros (suc n) zero = let e : 0 ≡ 0 - suc n = omega arith in ap (λ (m : ℕ). replicate m 0) e
drop_zeros (suc n) (suc k) = let e : k - n ≡ suc k - suc n = omega arith in drop_zeros n k ∙ ap (λ (m : ℕ). replicate m 0) e

pub blank_zeros : (n : ℕ) → blank (zeros n) ≡ true
unfolding blank zeros
blank_zeros zero = refl
blank_zeros (suc n) = blank_zeros n

pub blank_is : (t : List ℕ) → blank t ≡ true → t ≡ zeros (length t)
unfolding blank zeros
blank_is [] h = refl
blank_is (x ∷ t) h = bool_cases (eqb x 0)
    (λ e. ap₂ (λ a l. a ∷ l) (eqb-true x 0 e) (blank_is t (rw (e, blank) at h)))
    (λ e. never_both (rw (e, blank) at h) refl)

-- a region that fits is the padded words, and only it
pub fits_pad : (xs : List ℕ) (n : ℕ) → fits xs (pad n xs) ≡ true
unfolding fits pad
fits_pad xs n = go xs (n - length xs)
  where
    go : (xs : List ℕ) (k : ℕ) → fits xs (xs ++ zeros k) ≡ true
    go [] k = blank_zeros k
    go (x ∷ xs) k = rw (eq-eqb x x refl, fits) (go xs k)

pub fits_is : (xs t : List ℕ) → fits xs t ≡ true → t ≡ pad (length t) xs
unfolding fits pad
fits_is [] t h = simp unary_clauses (blank_is t h)
fits_is (x ∷ xs) [] h = never_both h refl
fits_is (x ∷ xs) (y ∷ t) h = bool_cases (eqb x y)
    (λ e. let k : length t - length xs ≡ suc (length t) - suc (length xs) = omega arith in
    ap₂ (λ a l. a ∷ l) (sym (eqb-true x y e)) (fits_is xs t (rw (e, fits) at h) ∙ ap (λ (m : ℕ). xs ++ zeros m) k))
    (λ e. never_both (rw (e, fits) at h) refl)

pub fits_at : (n : ℕ) (xs t : List ℕ) → length t ≡ n → fits xs t ≡ true → t ≡ pad n xs
fits_at n xs t e h = subst (λ (m : ℕ). t ≡ pad m xs) e (fits_is xs t h)

-- the test, word by word
module _ (x y : ℕ) (xs t : List ℕ) where
  pub fits_on : x ≡ y → fits (x ∷ xs) (y ∷ t) ≡ fits xs t
  unfolding fits
  fits_on e = rw (eq-eqb x y e, fits)

  pub fits_stop : (x ≡ y → ⊥) → fits (x ∷ xs) (y ∷ t) ≡ false
  unfolding fits
  fits_stop e = rw (ne_eqb x y e, fits)

module _ {A : Type 0} where
  pub part_length : (s n : ℕ) (p : List A) → s + n ≤ length p → length (part s n p) ≡ n
  unfolding part
  part_length s n p h = simp (length-take, length-drop) (omega arith)

  -- a part that would go past the pool's end is short
  pub part_short : (s n : ℕ) (p : List A) → s ≤ length p → length p < s + n → length (part s n p) ≡ n → ⊥
  unfolding part
  part_short s n p h k e = let q = simp (length-take, length-drop) at e in omega arith

  -- a pool p that holds x at s
  module _ (p : List A) (s : ℕ) (x rest : List A) (h : drop s p ≡ x ++ rest) where
    pub part_front : part s (length x) p ≡ x
    unfolding part
    part_front = rw (h, take-append_seam)

    pub part_next : drop (s + length x) p ≡ rest
    part_next = sym (drop-drop (length x) s p) ∙ rw (h, drop-append_seam)

-- a row put behind the words of a table that is zero past them
pub behind : (xs row : List ℕ) (k : ℕ) → length row ≤ k → sets (xs ++ zeros k) (length xs) row ≡ (xs ++ row) ++ zeros (k - length row)
behind xs row k h =
    sets-eq row (xs ++ zeros k) (length xs) (simp (length-append, length_zeros) (omega arith))
    ∙ simp (take-append_seam, drop-append-add, drop_zeros, append_assoc)

pub length_pad : (n : ℕ) (xs : List ℕ) → length xs ≤ n → length (pad n xs) ≡ n
unfolding pad
length_pad n xs h = simp (length-append, length_zeros) (omega arith)

-- the same in a padded region
pub pad_put : (n k : ℕ) (xs row : List ℕ) → k ≡ length xs → length xs + length row ≤ n → sets (pad n xs) k row ≡ pad n (xs ++ row)
unfolding pad
pad_put n k xs row e h =
    let m : n - length xs - length row ≡ n - length (xs ++ row) = rw length-append (omega arith) in
    rw e (behind xs row (n - length xs) (omega arith) ∙ ap (λ (j : ℕ). (xs ++ row) ++ zeros j) m)

-- and in a table of rows: one row more
pub rows_more : {w n k : ℕ} {t : List ℕ} (row : List ℕ) → length row ≡ w → (k + 1) * w ≤ n → Rows w n t k → Rows w n (sets t (k * w) row) (k + 1)
rows_more {w} {n} {k} {t} row e room s =
    let m : (k + 1) * w ≡ k * w + w = rw (add-one, suc-mul) in
    record {
      words = s.words ++ row;
      long = rw length-append (omega (arith, s.long));
      is = ap (λ (x : List ℕ). sets x (k * w) row) s.is ∙ pad_put n (k * w) s.words row (sym s.long) (omega (arith, s.long));
    }

pub rows_none : (w n : ℕ) → Rows w n (zeros n) 0
unfolding pad
rows_none w n = record { words = []; long = sym (zero-mul w); is = let e : n ≡ n - 0 = omega arith in ap zeros e }

set_past : {A : Type 0} (a x : List A) (i : ℕ) (v : A) → set (a ++ x) (length a + i) v ≡ a ++ set x i v
set_past [] x i v = rw zero-add
set_past (y ∷ a) x i v = rw suc-add (ap (λ (l : List _). y ∷ l) (set_past a x i v))

-- a row put into the middle one of three regions
pub region : {A : Type 0} (row a b c : List A) (i : ℕ) → i + length row ≤ length b → sets (a ++ (b ++ c)) (length a + i) row ≡ a ++ (sets b i row ++ c)
region [] a b c i h = refl
region (v ∷ row) a b c i h =
    let h' : suc i + length row ≤ length (set b i v) = simp length-set (omega arith) in
    let e : suc (length a + i) ≡ length a + suc i = omega arith in
    simp (set_past, e, set-append_left b c i v (omega arith)) (region row a (set b i v) c (suc i) h')
