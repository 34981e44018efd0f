-- Marks of names, and names that have left theirs.
use mathlib.Core.Path.{◌≡◌, refl, sym, ap, ap₂, subst, ◌∙◌}
use mathlib.Core.Bool.{true, false}
use mathlib.Core.List.{List, [], ◌∷◌, ◌++◌}
use Prim.Native.Nat.{ℕ, ◌+◌, ◌*◌, ◌/◌, ◌%◌, ◌<◌, ◌≤◌}
use native.Mathlib.Omega.{arith}
use native.Mathlib.Decide.{ℕ_discrete}
use native.Mathlib.Nat.{mod-lt, div-lt_iff_lt-mul, mod-add-div', add-mul-mod_self_right}
use lib.Dec.{eqb}
use lib.ListN.{length, drop, get_or, set, length-set}
use lib.Seq.{get_or-set_same, get_or-set_other}
use borrow.Author.Tests.{eqb-true}
use Rattle.ground.specs.Text.{same}
use Rattle.ground.proofs.Bools.{bool_cases, never_both}
use Rattle.ground.proofs.Rest.{rest_cons, rest_end}
use Rattle.netlist.specs.Rules.{taken}
use Rattle.marking.specs.Marks.{mark_kind, mark_more, mark_from, mark_of, place_of, Marked}

-- THE MARK OF A NAME, byte by byte
module _ (s : List ℕ) (mark i : ℕ) where
  pub mark_on : i < length s → mark_from (mark_more mark (get_or s i 0)) (drop (i + 1) s) ≡ mark_from mark (drop i s)
  unfolding mark_from
  mark_on h = sym (rw (rest_cons s i h, mark_from))

  pub mark_end : length s ≤ i → mark ≡ mark_from mark (drop i s)
  unfolding mark_from
  mark_end h = rw (rest_end s i h)

mark_next : (s : List ℕ) (mark i j : ℕ) → i + 1 ≡ j → j ≤ length s → mark_from (mark_more mark (get_or s i 0)) (drop j s) ≡ mark_from mark (drop i s)
mark_next s mark i j e h = subst (λ (k : ℕ). mark_from (mark_more mark (get_or s i 0)) (drop k s) ≡ mark_from mark (drop i s)) e (mark_on s mark i (omega arith))

pub mark_four : (s : List ℕ) (mark i : ℕ) → i + 4 ≤ length s → mark_from (mark_more (mark_more (mark_more (mark_more mark (get_or s i 0)) (get_or s (i + 1) 0)) (get_or s (i + 2) 0)) (get_or s (i + 3) 0)) (drop (i + 4) s) ≡ mark_from mark (drop i s)
mark_four s mark i h =
    let a = mark_more mark (get_or s i 0) in
    let b = mark_more a (get_or s (i + 1) 0) in
    let c = mark_more b (get_or s (i + 2) 0) in
    mark_next s c (i + 3) (i + 4) (omega arith) h
    ∙ mark_next s b (i + 2) (i + 3) (omega arith) (omega arith)
    ∙ mark_next s a (i + 1) (i + 2) (omega arith) (omega arith)
    ∙ mark_next s mark i (i + 1) (omega arith) (omega arith)

-- four bytes at a time: numbers that differ by a multiple of 2 ^ 32 leave the same
mod_same : (x y q : ℕ) → x ≡ y + q * 4294967296 → x % 4294967296 ≡ y % 4294967296
mod_same x y q e = ap (λ (n : ℕ). n % 4294967296) e ∙ add-mul-mod_self_right y q 4294967296

more_mod : (x b : ℕ) → mark_more (x % 4294967296) b ≡ (x + b) * 2862933555 % 4294967296
more_mod x b =
    let e = mod-add-div' x 4294967296 in
    sym (mod_same ((x + b) * 2862933555) ((x % 4294967296 + b) * 2862933555) (x / 4294967296 * 2862933555) (omega (arith, e)))

pub more_four : (mark a b c d : ℕ) → (mark * 2388247185 % 4294967296 + a * 2388247185 + b * 1479837739 + c * 2086121001 + d * 2862933555) % 4294967296 ≡ mark_more (mark_more (mark_more (mark_more mark a) b) c) d
more_four mark a b c d =
    let x = (mark + a) * 2862933555 in
    let y = (x + b) * 2862933555 in
    let z = (y + c) * 2862933555 in
    let e = mod-add-div' (mark * 2388247185) 4294967296 in
    sym
    (ap (λ (m : ℕ). mark_more (mark_more m c) d) (more_mod x b)
    ∙ ap (λ (m : ℕ). mark_more m d) (more_mod y c)
    ∙ more_mod z d
    ∙ mod_same ((z + d) * 2862933555) (mark * 2388247185 % 4294967296 + a * 2388247185 + b * 1479837739 + c * 2086121001 + d * 2862933555) ((mark + a) * 15641745437005959393074607765 + b * 5463537709315073291 + c * 1908370419 + mark * 2388247185 / 4294967296) (omega (arith, e)))

from_small : (s : List ℕ) (mark : ℕ) → mark < 4294967296 → mark_from mark s < 4294967296
unfolding mark_from
from_small [] mark h = h
from_small (b ∷ s) mark h = from_small s (mark_more mark b) (mod-lt ((mark + b) * 2862933555) (omega arith))

pub mark_small : (kind : ℕ) (name : List ℕ) → mark_of kind name < 4294967296
unfolding mark_of
mark_small kind name = from_small name (mark_kind kind) (mod-lt (kind * 2862933555) (omega arith))

pub place_small : (kind : ℕ) (name : List ℕ) → place_of (mark_of kind name) < 65536
place_small kind name = (div-lt_iff_lt-mul {k = 65536} {x = mark_of kind name} {y = 65536} (omega arith)).1 (mark_small kind name)

same_is : (a b : List ℕ) → same a b ≡ true → a ≡ b
unfolding same
same_is [] [] h = refl
same_is [] (y ∷ b) h = never_both h refl
same_is (x ∷ a) [] h = never_both h refl
same_is (x ∷ a) (y ∷ b) h = bool_cases (eqb x y)
    (λ e. ap₂ (λ p l. p ∷ l) (eqb-true x y e) (same_is a b (rw (e, same) at h)))
    (λ e. never_both (rw (e, same) at h) refl)

-- NAMES MARKED
pub marked_none : (kind : ℕ) (seen : List ℕ) → length seen ≡ 65536 → Marked kind seen []
unfolding taken
marked_none kind seen h = record { size = h; free = λ name e. refl }

-- where a mark was left, no name is free
left_free : (seen : List ℕ) (p q : ℕ) → p < length seen → get_or (set seen p 1) q 0 ≡ 0 → (q ≡ p → ⊥) × (get_or seen q 0 ≡ 0)
left_free seen p q h e = (apart, sym (get_or-set_other seen p q 1 0 apart) ∙ e)
  where
    apart : q ≡ p → ⊥
    apart k = let z : ◌≡◌ {A = ℕ} 1 0 = sym (get_or-set_same seen p 1 0 h) ∙ (rw k at e) in absurd (omega arith)

-- a mark more keeps the others
pub marked_still : {kind : ℕ} {seen : List ℕ} {names : List (List ℕ)} (p : ℕ) → p < 65536 → Marked kind seen names → Marked kind (set seen p 1) names
marked_still {kind} {seen} {names} p h m = record {
  size = length-set seen p 1 ∙ m.size;
  free = λ x e. m.free x (left_free seen p (place_of (mark_of kind x)) (rw m.size h) e).1;
}

taken_last : (x : List ℕ) (names : List (List ℕ)) (y : List ℕ) → taken x names ≡ false → same x y ≡ false → taken x (names ++ (y ∷ [])) ≡ false
unfolding taken
taken_last x [] y h s = rw (s, taken)
taken_last x (n ∷ ns) y h s = bool_cases (same x n)
    (λ e. never_both (rw (e, taken) at (sym h)) refl)
    (λ e. rw (e, taken) (taken_last x ns y (rw (e, taken) at h) s))

module _ {kind : ℕ} {seen : List ℕ} {names : List (List ℕ)} (y : List ℕ) (m : Marked kind seen names) where
  abbrev place : ℕ
  place = place_of (mark_of kind y)

  other : (x : List ℕ) → get_or (set seen place 1) (place_of (mark_of kind x)) 0 ≡ 0 → (same x y ≡ false) × (taken x names ≡ false)
  other x e =
      let f = left_free seen place (place_of (mark_of kind x)) (rw m.size (place_small kind y)) e in
      (bool_cases (same x y) (λ s. absurd (f.0 (ap (λ (l : List ℕ). place_of (mark_of kind l)) (same_is x y s)))) (λ s. s), m.free x f.1)

  -- one name more leaves its mark, in front of the others or behind them
  pub marked_more : Marked kind (set seen place 1) (y ∷ names)
  unfolding taken
  marked_more = record { size = length-set seen place 1 ∙ m.size; free = λ x e. let o = other x e in rw (o.0, taken) o.1 }

  pub marked_last : Marked kind (set seen place 1) (names ++ (y ∷ []))
  marked_last = record { size = length-set seen place 1 ∙ m.size; free = λ x e. let o = other x e in taken_last x names y o.1 o.0 }
