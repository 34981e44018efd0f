-- A lent slice whose first words are written over: cleared word by word, or handed on as its front.
use mathlib.Core.Path.{◌≡◌, refl, ap, ap₂, ◌∙◌}
use mathlib.Core.List.{List, [], ◌∷◌, ◌++◌, append-nil}
use Prim.Native.Nat.{ℕ, suc, ◌+◌, ◌-◌, ◌<◌, ◌≤◌}
use native.Mathlib.Nat.{zero-add}
use native.Mathlib.Omega.{arith}
use lib.ListN.{length, take, drop, get_or, set, length-take}
use lib.Seq.{sets, sets-eq}
use borrow.Author.Fill.{fill_more}
use Rattle.ground.specs.Regions.{zeros, pad, over}
use Rattle.ground.proofs.Rest.{rest_end}
use Rattle.ground.proofs.Regions.{drop_zeros}

-- the first words zero, one more each turn
pub zero_none : (w : List ℕ) → w ≡ over 0 (zeros 0) w
unfolding over zeros
zero_none w = refl

pub zero_more : (w : List ℕ) (i : ℕ) → i < length w → set (over i (zeros i) w) i 0 ≡ over (i + 1) (zeros (i + 1)) w
unfolding over zeros
zero_more w i h = fill_more i 0 w h

-- all of a slice written over
pub over_all : (n : ℕ) (new old : List ℕ) → length old ≤ n → over n new old ≡ new
unfolding over
over_all n new old h = rw (rest_end old n h) (append-nil new)

-- a slice whose front was handed on
pub over_front : (n : ℕ) (new old : List ℕ) → over n new (take n old) ++ drop n old ≡ over n new old
unfolding over
over_front n new old =
    let l : length (take n old) ≤ n = rw length-take (omega arith) in
    ap (λ (x : List ℕ). x ++ drop n old) (over_all n new (take n old) l)

-- words at the front of zeros
pub over_zeros : (n : ℕ) (xs : List ℕ) → over (length xs) xs (zeros n) ≡ pad n xs
unfolding over pad
over_zeros n xs = ap (λ (l : List ℕ). xs ++ l) (drop_zeros (length xs) n)

-- words stored from the front on
pub sets_front : (old xs : List ℕ) → length xs ≤ length old → sets old 0 xs ≡ over (length xs) xs old
unfolding over
sets_front old xs h =
    let l : 0 + length xs ≤ length old = omega arith in
    sets-eq xs old 0 l ∙ ap (λ (n : ℕ). xs ++ drop n old) (zero-add (length xs))

-- a list of nothing but zeros
pub each_zero : (xs : List ℕ) → ((k : ℕ) → k < length xs → get_or xs k 0 ≡ 0) → xs ≡ zeros (length xs)
unfolding zeros
each_zero [] h = refl
each_zero (x ∷ xs) h = ap₂ ◌∷◌ (h 0 (omega arith)) (each_zero xs (λ k l. h (suc k) (omega arith)))
