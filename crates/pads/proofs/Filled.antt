-- The array of pads, filled row by row.
use mathlib.Core.Path.{◌≡◌, refl, ap, sym, ◌∙◌}
use mathlib.Core.List.{List, [], ◌∷◌, ◌++◌, append_assoc, append-nil}
use Prim.Native.Nat.{ℕ, zero, suc, ◌+◌, ◌*◌, ◌-◌, ◌≤◌, ◌<◌}
use native.Mathlib.Nat.{add-zero}
use native.Mathlib.Numerals.{add-one}
use native.Mathlib.Omega.{arith}
use lib.ListN.{length, take, drop, get_or, set}
use lib.Seq.{drop-drop, get_or-drop, take_all}
use Rattle.pads.specs.declared.Pad.{Pad}
use Rattle.pads.specs.Pads.{pad_in, pads_in}

-- a row is read where it lies
abbrev pad : ℕ → ℕ → ℕ → Pad
pad start length width = record { start = start; length = length; width = width }

pub pad_there : (ios : List ℕ) (at : ℕ) → pad (get_or ios at 0) (get_or ios (at + 1) 0) (get_or ios (at + 2) 0) ≡ pad_in (drop at ios)
pad_there ios at = simp (get_or-drop, add-zero)

-- the first i of 64 pads are filled
pub record Filled (ios : List ℕ) (i : ℕ) (pads : List Pad) : Type 0 where
  pub rest : take i pads ++ pads_in (64 - i) (drop (i * 3) ios) ≡ pads_in 64 ios

pub filled_none : (ios : List ℕ) (pads : List Pad) → Filled ios 0 pads
filled_none ios pads = record { rest = refl }

take_put : (pads : List Pad) (i : ℕ) (p : Pad) → i < length pads → take (suc i) (set pads i p) ≡ take i pads ++ (p ∷ [])
take_put [] i p h = absurd (omega (arith, h))
take_put (x ∷ pads) zero p h = refl
take_put (x ∷ pads) (suc i) p h = ap (λ (l : List Pad). x ∷ l) (take_put pads i p (omega (arith, h)))

pub filled_more : (ios : List ℕ) (i : ℕ) (pads : List Pad) (p : Pad) → i < 64 → i < length pads → p ≡ pad_in (drop (i * 3) ios) → Filled ios i pads → Filled ios (i + 1) (set pads i p)
unfolding pads_in
filled_more ios i pads p few h is f =
    let e : 64 - i ≡ suc (64 - (i + 1)) = omega arith in
    let n : i * 3 + 3 ≡ (i + 1) * 3 = omega arith in
    let more : pads_in (64 - i) (drop (i * 3) ios) ≡ p ∷ pads_in (64 - (i + 1)) (drop ((i + 1) * 3) ios) = rw (e, pads_in, is, drop-drop 3 (i * 3) ios, n) in
    let put : take (i + 1) (set pads i p) ≡ take i pads ++ (p ∷ []) = rw add-one (take_put pads i p h) in
    record {
      rest = ap (λ (l : List Pad). l ++ pads_in (64 - (i + 1)) (drop ((i + 1) * 3) ios)) put ∙ append_assoc (take i pads) (p ∷ []) (pads_in (64 - (i + 1)) (drop ((i + 1) * 3) ios))
          ∙ ap (λ (l : List Pad). take i pads ++ l) (sym more) ∙ f.rest;
    }

pub filled_all : (ios : List ℕ) (i : ℕ) (pads : List Pad) → length pads ≡ 64 → 64 ≤ i → Filled ios i pads → pads ≡ pads_in 64 ios
unfolding pads_in
filled_all ios i pads long all f =
    let e : 64 - i ≡ 0 = omega arith in
    let l : length pads ≤ i = omega (arith, long, all) in
    sym (append-nil (take i pads) ∙ take_all i pads l) ∙ (rw e at f.rest)
