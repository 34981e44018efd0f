-- The search of pads that are made of the I/O rows is document 01's lookup. Each contract allows one outcome.
use Rattle.ground.specs.declared.Refusal.{Refusal}
use Rattle.std.specs.Prelude.{Result, Ok, Err}
use mathlib.Core.Path.{◌≡◌, ap, sym, ◌∙◌}
use mathlib.Core.Bool.{Bool, true, false}
use mathlib.Core.List.{List, [], ◌∷◌}
use Prim.Native.Nat.{ℕ, zero, suc, ◌+◌, ◌*◌, ◌-◌, ◌≤◌, ◌<◌}
use native.Mathlib.Numerals.{add-one}
use native.Mathlib.Omega.{arith}
use lib.Dec.{ltb}
use lib.ListN.{length, drop, get_or}
use lib.Seq.{drop-drop}
use borrow.Author.Tests.{lt-ltb, le-ltb}
use Rattle.ground.specs.Choice.{pick}
use Rattle.ground.specs.Refusals.{at, refusal}
use Rattle.ground.specs.Regions.{part}
use Rattle.ground.specs.Text.{same}
use Rattle.ground.proofs.Bools.{bool_cases}
use Rattle.ground.proofs.Outcome.{any_two}
use Rattle.netlist.specs.Netlist.{Io}
use Rattle.netlist.specs.View.{word, io_in, ios_in}
use Rattle.netlist.specs.Good.{lookup_of, io_from}
use Rattle.checking.specs.Names.{IosNamed}
use Rattle.checking.specs.Parts.{strings_alone}
use Rattle.pads.specs.declared.Pad.{Pad}
use Rattle.pads.specs.Pads.{pad_in, pads_in, pad_named, first_from, first_pad}

abbrev pub blank_pad : Pad
blank_pad = record { start = 0; length = 0; width = 0 }

-- the row found is at or behind the row that the search begins with
late : (strings name : List ℕ) (n row : ℕ) (pads : List Pad) → row ≤ first_from strings name n row pads
unfolding first_from
late strings name zero row pads = omega arith
late strings name (suc n) row [] = omega arith
late strings name (suc n) row (p ∷ pads) = bool_cases (pad_named strings p name)
    (λ e. rw e (omega arith))
    (λ e. rw e (omega (arith, late strings name n (suc row) pads)))

-- what is found among n pads from a row on, where the search tells row m
abbrev pub upto : ℕ → ℕ → List Pad → ℕ → Result (ℕ × ℕ) Refusal
upto row n pads m = pick (ltb m (row + n)) (Ok (m, (get_or pads (m - row) blank_pad).width)) (Err (refusal 18 (at 0)))

named_io : (strings name rows : List ℕ) → word rows 0 + word rows 1 ≤ length strings → pad_named strings (pad_in rows) name ≡ same (part (word rows 0) (word rows 1) strings) name
unfolding pad_named
named_io strings name rows h = rw (le-ltb (length strings) (word rows 0 + word rows 1) h)

found_here : (row n : ℕ) (p : Pad) (pads : List Pad) → upto row (suc n) (p ∷ pads) row ≡ Ok (row, p.width)
found_here row n p pads =
    let h : row < row + suc n = omega arith in
    let e : row - row ≡ 0 = omega arith in
    rw (lt-ltb row (row + suc n) h, e)

found_later : (row n m : ℕ) (p : Pad) (pads : List Pad) → suc row ≤ m → upto row (suc n) (p ∷ pads) m ≡ upto (suc row) n pads m
found_later row n m p pads h =
    let e : m - row ≡ suc (m - suc row) = omega arith in
    let l : row + suc n ≡ suc row + n = omega arith in
    rw (l, e)

module _ (strings name : List ℕ) (m row : ℕ) (p : Pad) (pads : List Pad) where
  first_is : pad_named strings p name ≡ true → first_from strings name (suc m) row (p ∷ pads) ≡ row
  unfolding first_from
  first_is e = rw e

  first_not : pad_named strings p name ≡ false → first_from strings name (suc m) row (p ∷ pads) ≡ first_from strings name m (suc row) pads
  unfolding first_from
  first_not e = rw e

module _ (i : Io) (is : List Io) (row : ℕ) (name : List ℕ) where
  io_is : same i.name name ≡ true → io_from (i ∷ is) row name ≡ Ok (row, i.width)
  unfolding io_from
  io_is e = rw (e, io_from)

  io_not : same i.name name ≡ false → io_from (i ∷ is) row name ≡ io_from is (suc row) name
  unfolding io_from
  io_not e = rw (e, io_from, add-one)

-- the names of n rows lie in the strings
abbrev Named : List ℕ → ℕ → List ℕ → Type 0
Named strings n rows = (i : ℕ) → i < n → word (drop (i * 3) rows) 0 + word (drop (i * 3) rows) 1 ≤ length strings

named_next : (strings : List ℕ) (n : ℕ) (rows : List ℕ) → Named strings (suc n) rows → Named strings n (drop 3 rows)
named_next strings n rows there i h =
    let e : 3 + i * 3 ≡ suc i * 3 = omega arith in
    let l : suc i < suc n = omega arith in
    rw (drop-drop (i * 3) 3 rows, e) (there (suc i) l)

module _ (strings name : List ℕ) where
  abbrev shown : ℕ → List ℕ → List Io
  shown n rows = ios_in (strings_alone strings) n rows

  abbrev first : ℕ → List Pad → ℕ
  first row pads = first_from strings name (length pads) row pads

  -- over the first n of m rows, from a row on
  from_rows : (n m row : ℕ) (rows : List ℕ) → n ≤ m → Named strings n rows → upto row n (pads_in m rows) (first row (pads_in m rows)) ≡ io_from (shown n rows) row name
  unfolding pads_in ios_in first_from io_from
  from_rows zero m row rows few there =
      let pads : List Pad = pads_in m rows in
      let h : row + 0 ≤ first row pads = omega (arith, late strings name (length pads) row pads) in
      rw (le-ltb (first row pads) (row + 0) h)
  from_rows (suc n) zero row rows few there = absurd (omega (arith, few))
  from_rows (suc n) (suc m) row rows few there =
      let z : 0 < suc n = omega arith in
      let k : pad_named strings (pad_in rows) name ≡ same (part (word rows 0) (word rows 1) strings) name = named_io strings name rows (there 0 z) in
      let pads : List Pad = pads_in m (drop 3 rows) in
      bool_cases (same (part (word rows 0) (word rows 1) strings) name)
      (λ e. ap (upto row (suc n) (pad_in rows ∷ pads)) (first_is strings name (length pads) row (pad_in rows) pads (k ∙ e))
      ∙ found_here row n (pad_in rows) pads ∙ sym (io_is (io_in (strings_alone strings) rows) (shown n (drop 3 rows)) row name e))
      (λ e. ap (upto row (suc n) (pad_in rows ∷ pads)) (first_not strings name (length pads) row (pad_in rows) pads (k ∙ e))
      ∙ found_later row n (first (suc row) pads) (pad_in rows) pads (late strings name (length pads) (suc row) pads)
      ∙ from_rows n m (suc row) (drop 3 rows) (omega (arith, few)) (named_next strings n rows there)
      ∙ sym (io_not (io_in (strings_alone strings) rows) (shown n (drop 3 rows)) row name e))

  -- 64 rows of which n are used: what a row that the search tells means
  module _ (n : ℕ) (rows : List ℕ) (few : n ≤ 64) (there : IosNamed strings n rows) (k : ℕ) (is : k ≡ first_pad strings name (pads_in 64 rows)) where
    all_upto : upto 0 n (pads_in 64 rows) k ≡ io_from (shown n rows) 0 name
    all_upto = rw is (from_rows n 64 0 rows few there.each)

    pub row_found : k < n → Ok (k, (get_or (pads_in 64 rows) k blank_pad).width) ≡ io_from (shown n rows) 0 name
    row_found h =
        let l : k < 0 + n = omega arith in
        let z : k - 0 ≡ k = omega arith in
        (rw (lt-ltb k (0 + n) l, z) at all_upto)

    pub none_found : n ≤ k → Err (refusal 18 (at 0)) ≡ io_from (shown n rows) 0 name
    none_found h =
        let l : 0 + n ≤ k = omega arith in
        (rw (le-ltb k (0 + n) l) at all_upto)

-- one outcome each
pub named_one : (strings name : List ℕ) (pad : Pad) (a b : Bool) → a ≡ pad_named strings pad name → b ≡ pad_named strings pad name → a ≡ b
named_one strings name pad a b = any_two (λ (p : Pad). pad_named strings p name) pad a b

pub first_one : (strings name : List ℕ) (pads : List Pad) (a b : ℕ) → a ≡ first_pad strings name pads → b ≡ first_pad strings name pads → a ≡ b
first_one strings name = any_two (first_pad strings name)

pub lookup_one : (rows strings bits name : List ℕ) (a b : Result (ℕ × ℕ) Refusal) → a ≡ lookup_of rows strings bits name → b ≡ lookup_of rows strings bits name → a ≡ b
lookup_one rows strings bits = any_two (lookup_of rows strings bits)
