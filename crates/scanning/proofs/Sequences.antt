-- The whole text: which tail the bytes of a range begin, how the search for a bad sequence goes on, and the ways out.
use Rattle.ground.specs.declared.Refusal.{Refusal}
use Rattle.std.specs.Prelude.{Result, Ok, Err}
use mathlib.Core.Path.{◌≡◌, refl, sym, ap, ap₂, ◌∙◌}
use mathlib.Core.Bool.{Bool, true, false, ◌&&◌}
use mathlib.Core.List.{List, [], ◌∷◌}
use mathlib.Core.Option.{Option, none, some}
use Prim.Native.Nat.{ℕ, suc, ◌+◌, ◌-◌, ◌<◌, ◌≤◌}
use native.Mathlib.Omega.{arith}
use lib.Dec.{T, eqb, ltb, eqb→eq}
use lib.ListN.{length, drop, get_or}
use borrow.Author.Tests.{lt-ltb, le-ltb, ltb-true, ltb-false, eq-eqb, ne_eqb}
use Rattle.ground.proofs.Bools.{bool_cases, and_first, and_second}
use Rattle.ground.proofs.Rest.{rest_cons, rest_end}
use Rattle.ground.proofs.Regions.{length_zeros}
use Rattle.ground.proofs.Tables.{every, at}
use Rattle.ground.specs.Choice.{pick}
use Rattle.ground.specs.Regions.{zeros}
use Rattle.signs.specs.Bytes.{Range}
use Rattle.scanning.specs.Whole.{sequences, tail_of, lacks_past, began_at, bad_from, bad_at, ends_in_feed, unsound, whole_of}
use Rattle.scanning.specs.Modes.{lack, lacking, meant}

-- equality of tails as a test, so that it can be computed over many bytes
abbrev same_ranges : List Range → List Range → Bool
same_ranges [] [] = true
same_ranges [] (q ∷ qs) = false
same_ranges (p ∷ ps) [] = false
same_ranges (p ∷ ps) (q ∷ qs) = (eqb p.low q.low && eqb p.high q.high) && same_ranges ps qs

abbrev same_tail : Option (List Range) → Option (List Range) → Bool
same_tail none none = true
same_tail none (some qs) = false
same_tail (some ps) none = false
same_tail (some ps) (some qs) = same_ranges ps qs

same_ranges_lem : (ps qs : List Range) → T (same_ranges ps qs) → ps ≡ qs
same_ranges_lem [] [] t = refl
same_ranges_lem [] (q ∷ qs) t = absurd t
same_ranges_lem (p ∷ ps) [] t = absurd t
same_ranges_lem (p ∷ ps) (q ∷ qs) t =
    let low = eqb p.low q.low in
    let high = eqb p.high q.high in
    let e : T (low && high) = and_first (low && high) (same_ranges ps qs) t in
    let l : p.low ≡ q.low = eqb→eq p.low q.low (and_first low high e) in
    let h : p.high ≡ q.high = eqb→eq p.high q.high (and_second low high e) in
    let r : p ≡ q = λ i. record { low = l i; high = h i } in
    ap₂ (λ x y. x ∷ y) r (same_ranges_lem ps qs (and_second (low && high) (same_ranges ps qs) t))

same_tail_lem : (t u : Option (List Range)) → T (same_tail t u) → t ≡ u
same_tail_lem none none e = refl
same_tail_lem none (some qs) e = absurd e
same_tail_lem (some ps) none e = absurd e
same_tail_lem (some ps) (some qs) e = ap some (same_ranges_lem ps qs e)

-- each of the n bytes from a on begins a sequence with the tail t
abbrev all_begin : ℕ → ℕ → Option (List Range) → Bool
all_begin a n t = every (λ k x. same_tail t (tail_of sequences (a + k))) 0 (zeros n)

-- one computed test gives the tail of every byte in a range: `begins a n t tt b low high`
pub begins : (a n : ℕ) (t : Option (List Range)) → T (all_begin a n t) → (b : ℕ) → a ≤ b → b < a + n → t ≡ tail_of sequences b
begins a n t e b low high =
    let k : b - a < length (zeros n) = rw length_zeros (omega arith) in
    let s : a + (b - a) ≡ b = omega arith in
    rw s at (same_tail_lem t (tail_of sequences (a + (b - a))) (at (λ k x. same_tail t (tail_of sequences (a + k))) (zeros n) 0 e (b - a) k))

-- what the modes mean
pub meant_mode : (m : ℕ) → (m ≡ 9 → ⊥) → meant m ≡ some (lacking m)
unfolding meant
meant_mode m h = rw (ne_eqb m 9 h)

pub lacking_some : (m : ℕ) → (m ≡ 0 → ⊥) → lacking m ≡ (lack m).lead ∷ (lack m).tail
unfolding lacking
lacking_some m h = rw (ne_eqb m 0 h)

-- the search for a bad sequence at a place of the text: in the mode m, and in the mode n past the byte there
module _ (s : List ℕ) (m from i : ℕ) where
  module _ (n : ℕ) (h : i < length s) (e : meant n ≡ lacks_past (lacking m) (get_or s i 0)) where
    pub bad_on : (n ≡ 9 → ⊥) → bad_from (drop i s) (lacking m) from i ≡ bad_from (drop (i + 1) s) (lacking n) (began_at (lacking m) from i) (i + 1)
    unfolding bad_from
    bad_on f = rw (rest_cons s i h, sym e ∙ meant_mode n f, bad_from)

    pub bad_stop : n ≡ 9 → bad_from (drop i s) (lacking m) from i ≡ some (began_at (lacking m) from i)
    unfolding bad_from meant
    bad_stop f = let g : lacks_past (lacking m) (get_or s i 0) ≡ none = sym e ∙ rw f in rw (rest_cons s i h) (rw (g, bad_from))

  pub bad_open : length s ≤ i → (m ≡ 0 → ⊥) → bad_from (drop i s) (lacking m) from i ≡ some from
  unfolding bad_from
  bad_open h f = rw (rest_end s i h, lacking_some m f)

  pub bad_none : length s ≤ i → m ≡ 0 → bad_from (drop i s) (lacking m) from i ≡ none
  unfolding bad_from lacking
  bad_none h f = rw (rest_end s i h, f)

-- the last byte
empty_ends : (s : List ℕ) → length s ≡ 0 → ends_in_feed s ≡ false
unfolding ends_in_feed
empty_ends [] h = refl
empty_ends (b ∷ s) h = absurd (omega arith)

ends_in : (s : List ℕ) → 0 < length s → ends_in_feed s ≡ eqb (get_or s (length s - 1) 0) 10
unfolding ends_in_feed
ends_in [] h = absurd (omega arith)
ends_in (b ∷ []) h = refl
ends_in (b ∷ c ∷ s) h = let e : suc (suc (length s)) - 1 ≡ suc (suc (length s) - 1) = omega arith in
    rw e (ends_in (c ∷ s) (omega arith))

-- the ways out
module _ (s : List ℕ) where
  pub whole_long : 65536 < length s → whole_of s ≡ unsound 2 65536
  unfolding whole_of
  whole_long h = rw (lt-ltb _ _ h)

  pub whole_bad : (k : ℕ) → length s ≤ 65536 → bad_at s ≡ some k → whole_of s ≡ unsound 3 k
  unfolding whole_of
  whole_bad k h e = rw (le-ltb 65536 (length s) h, e)

  module _ (h : length s ≤ 65536) (e : bad_at s ≡ none) where
    whole_end : (v : Bool) → ends_in_feed s ≡ v → whole_of s ≡ pick v (Ok tt) (unsound 4 (length s))
    unfolding whole_of
    whole_end v f = rw (le-ltb 65536 (length s) h, e, f)

    pub whole_empty : length s ≡ 0 → whole_of s ≡ unsound 4 0
    whole_empty f = whole_end false (empty_ends s f) ∙ ap (λ (k : ℕ). unsound 4 k) f

    pub whole_fed : 0 < length s → get_or s (length s - 1) 0 ≡ 10 → whole_of s ≡ Ok tt
    whole_fed l f = whole_end true (ends_in s l ∙ eq-eqb _ _ f)

    pub whole_unfed : 0 < length s → (get_or s (length s - 1) 0 ≡ 10 → ⊥) → whole_of s ≡ unsound 4 (length s)
    whole_unfed l f = whole_end false (ends_in s l ∙ ne_eqb _ _ f)

abbrev is_sound : Result (Unit {0}) Refusal → ℕ
is_sound (Ok tt) = 1
is_sound (Err g) = 0

-- a text that is sound as a whole is not too long
pub sound_short : (s : List ℕ) → whole_of s ≡ Ok tt → length s ≤ 65536
sound_short s e = bool_cases (ltb 65536 (length s))
    (λ h. let z : ◌≡◌ {A = ℕ} 0 1 = ap is_sound (sym (whole_long s (ltb-true 65536 (length s) h)) ∙ e) in absurd (omega arith))
    (λ h. ltb-false 65536 (length s) h)
