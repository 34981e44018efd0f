-- How the bits that letters say are put into a room, one after the other.
use mathlib.Core.Path.{◌≡◌, refl, sym, ap, ◌∙◌}
use mathlib.Core.List.{List, [], ◌∷◌}
use Prim.Native.Nat.{ℕ, suc, ◌+◌, ◌≤◌, ◌<◌, min}
use native.Mathlib.Numerals.{add-one}
use native.Mathlib.Omega.{arith}
use lib.Dec.{ltb}
use lib.ListN.{length, get_or, drop, set}
use lib.Seq.{sets, set_out}
use borrow.Author.Tests.{ltb-true, ltb-false}
use Rattle.ground.proofs.Bools.{bool_cases}
use Rattle.ground.proofs.Rest.{rest_cons, rest_end}
use Rattle.telling.specs.Bits.{bit_of, bits_of}

-- one letter more
pub bits_go : (letters room : List ℕ) (i : ℕ) → i < length letters → sets room i (bits_of (drop i letters)) ≡ sets (set room i (bit_of (get_or letters i 0))) (i + 1) (bits_of (drop (i + 1) letters))
unfolding bits_of
bits_go letters room i h = rw (rest_cons letters i h, bits_of, add-one)

-- no letter is left
pub bits_end : (letters room : List ℕ) (i : ℕ) → length letters ≤ i → sets room i (bits_of (drop i letters)) ≡ room
unfolding bits_of
bits_end letters room i h = rw (rest_end letters i h)

-- no room is left
pub bits_full : (xs room : List ℕ) (i : ℕ) → length room ≤ i → sets room i xs ≡ room
bits_full [] room i h = refl
bits_full (x ∷ xs) room i h = ap (λ (r : List ℕ). sets r (suc i) xs) (set_out room i x h) ∙ bits_full xs room (suc i) (omega arith)

-- a letter's bit is put
pub bits_more : (letters room told : List ℕ) (i b : ℕ) → i < length letters → b ≡ bit_of (get_or letters i 0) → sets room i (bits_of (drop i letters)) ≡ told → sets (set room i b) (i + 1) (bits_of (drop (i + 1) letters)) ≡ told
bits_more letters room told i b h e p = rw e (sym (bits_go letters room i h) ∙ p)

-- all letters are said, or the room is full
pub bits_done : (letters room told : List ℕ) (i : ℕ) → min (length letters) (length room) ≤ i → sets room i (bits_of (drop i letters)) ≡ told → room ≡ told
bits_done letters room told i h p = bool_cases (ltb (length room) (length letters))
    (λ e. let l = ltb-true (length room) (length letters) e in sym (bits_full (bits_of (drop i letters)) room i (omega arith)) ∙ p)
    (λ e. let l = ltb-false (length room) (length letters) e in sym (bits_end letters room i (omega arith)) ∙ p)
