-- Where every piece of an operand resolves, the cells of its runs are declared.
use mathlib.Core.Path.{◌≡◌, refl, sym, ap, ◌∙◌}
use mathlib.Core.Bool.{Bool, true, false, not, ◌&&◌}
use mathlib.Core.List.{List, [], ◌∷◌, ◌++◌, map}
use mathlib.Core.Option.{Option, none, some}
use Prim.Native.Nat.{ℕ, zero, suc, ◌+◌, ◌-◌, ◌<◌, ◌≤◌}
use native.Mathlib.Omega.{arith}
use lib.Dec.{eqb, leb, ltb}
use lib.ListN.{length}
use borrow.Author.Tests.{eqb-true, lt-ltb}
use Rattle.ground.specs.Choice.{pick}
use Rattle.ground.specs.Lists.{every, joined}
use Rattle.ground.specs.declared.Place.{Place}
use Rattle.ground.proofs.Bools.{bool_cases, never_both, and_true, every_more}
use Rattle.brackets.specs.Parts.{PartAt, parts_at}
use Rattle.brackets.specs.declared.Piece.{Piece}
use Rattle.brackets.specs.declared.Base.{Base}
use Rattle.brackets.specs.declared.Base.TheVariants as base
use Rattle.brackets.specs.declared.Part.{Part}
use Rattle.brackets.specs.declared.Part.TheVariants as part
use Rattle.brackets.specs.declared.Operand.{Operand}
use Rattle.netlist.specs.Netlist.{Run, const, piece}
use Rattle.netlist.specs.Runs.{Bit, known, bit, falling, known_bits, runs_with, cut}
use Rattle.netlist.specs.Rules.{resolves}
use Rattle.saying.specs.Values.{row_of, trits_in, base_bits, copies, part_bits, operand_runs}
use Rattle.saying.specs.Pieces.{PieceAt, base_pieces, base_in, operand_pieces, unresolved, first_unresolved}
use Rattle.laying.specs.Growing.{BaseIn, PartIn, PartsIn, none, more}
use Rattle.laying.proofs.Inside.{operand_in}
use Rattle.resolving.specs.Resolving.{is_declared}

module _ {A : Type 0} (p : A → Bool) where
  pub every_append : (xs ys : List A) → every p xs ≡ true → every p ys ≡ true → every p (xs ++ ys) ≡ true
  unfolding every
  every_append [] ys a b = b
  every_append (x ∷ xs) ys a b = bool_cases (p x)
      (λ e. rw (e, every) (every_append xs ys (rw (e, every) at a) b))
      (λ e. never_both (rw (e, every) at a) refl)

-- a trit, or a bit of a cell that is declared
abbrev bit_declared : List ℕ → Bit → Bool
bit_declared numbers (known t) = true
bit_declared numbers (bit n o) = ltb n 65536 && leb 1 (row_of numbers n)

module _ (numbers : List ℕ) where
  -- RUNS of declared bits
  with_declared : (b : Bit) (rs : List Run) → bit_declared numbers b ≡ true → every (is_declared numbers) rs ≡ true → every (is_declared numbers) (runs_with b rs) ≡ true
  unfolding every
  with_declared (known t) [] h d = refl
  with_declared (known t) (const ts ∷ rs) h d = d
  with_declared (known t) (piece n o w ∷ rs) h d = d
  with_declared (bit n o) [] h d = rw (h, every)
  with_declared (bit n o) (const ts ∷ rs) h d = rw (h, every) d
  with_declared (bit n o) (piece m q w ∷ rs) h d = bool_cases (eqb n m && eqb o (q + w))
      (λ e. rw e d)
      (λ e. rw e (every_more (is_declared numbers) (piece n o 1) (piece m q w ∷ rs) h d))

  cut_declared : (bs : List Bit) → every (bit_declared numbers) bs ≡ true → every (is_declared numbers) (cut bs) ≡ true
  unfolding every cut
  cut_declared [] h = refl
  cut_declared (b ∷ bs) h = bool_cases (bit_declared numbers b)
      (λ e. with_declared b (cut bs) e (cut_declared bs (rw (e, every) at h)))
      (λ e. never_both (rw (e, every) at h) refl)

  -- BITS of parts whose pieces resolve
  falling_declared : (n o w : ℕ) → bit_declared numbers (bit n o) ≡ true → every (bit_declared numbers) (falling n o w) ≡ true
  unfolding every falling
  falling_declared n o zero h = refl
  falling_declared n o (suc w) h = rw (h, every) (falling_declared n o w h)

  known_declared : (ts : List ℕ) → every (bit_declared numbers) (known_bits ts) ≡ true
  unfolding every known_bits
  known_declared [] = refl
  known_declared (t ∷ ts) = known_declared ts

  copies_declared : (n : ℕ) (bs : List Bit) → every (bit_declared numbers) bs ≡ true → every (bit_declared numbers) (copies n bs) ≡ true
  unfolding every copies
  copies_declared zero bs h = refl
  copies_declared (suc n) bs h = every_append (bit_declared numbers) bs (copies n bs) h (copies_declared n bs h)

  module _ (widths text : List ℕ) where
    -- a piece that resolves is of a declared cell
    resolved_declared : (p : Piece) (k : Place) → p.cell < 65536 → unresolved numbers widths (record { piece = p; place = k }) ≡ false → bit_declared numbers (bit p.cell p.offset) ≡ true
    resolved_declared p k h u =
        bool_cases (leb 1 (row_of numbers p.cell))
        (λ e. rw (lt-ltb p.cell 65536 h, e))
        (λ e. never_both refl (rw e at u))

    base_declared : (b : Base) (k : Place) → BaseIn text b → first_unresolved numbers widths (base_pieces k b) ≡ none → every (bit_declared numbers) (base_bits text b) ≡ true
    unfolding first_unresolved
    base_declared (base.Constant s) k i e = known_declared (trits_in text s)
    base_declared (base.Cell p) k i e = bool_cases (unresolved numbers widths (record { piece = p; place = k }))
        (λ u. let z : ◌≡◌ {A = ℕ} 1 0 = ap counted (rw (u, first_unresolved) at e) in absurd (omega arith))
        (λ u. falling_declared p.cell p.offset p.width (resolved_declared p k (let c = i.0 in omega arith) u))
      where
        counted : Option Place → ℕ
        counted none = 0
        counted (some p) = 1

    part_declared : (p : Part) (k : Place) → PartIn text p → first_unresolved numbers widths (base_pieces k (base_in p)) ≡ none → every (bit_declared numbers) (part_bits text p) ≡ true
    part_declared (part.One b) k i e = base_declared b k i e
    part_declared (part.Repeated b n) k i e = copies_declared n (base_bits text b) (base_declared b k i e)

    -- nothing unresolved in two lists of pieces
    pub both_resolved : (ps qs : List PieceAt) → first_unresolved numbers widths (ps ++ qs) ≡ none → (first_unresolved numbers widths ps ≡ none) × (first_unresolved numbers widths qs ≡ none)
    unfolding first_unresolved
    both_resolved [] qs e = (refl, e)
    both_resolved (p ∷ ps) qs e = bool_cases (unresolved numbers widths p)
        (λ u. let z : ◌≡◌ {A = ℕ} 1 0 = ap counted (rw (u, first_unresolved) at e) in absurd (omega arith))
        (λ u. rw (u, first_unresolved) (both_resolved ps qs (rw (u, first_unresolved) at e)))
      where
        counted : Option Place → ℕ
        counted none = 0
        counted (some p) = 1

    parts_declared : (ps : List PartAt) → PartsIn text ps → first_unresolved numbers widths (joined (λ p. base_pieces p.place (base_in p.part)) ps) ≡ none
        → every (bit_declared numbers) (joined (λ p. part_bits text p.part) ps) ≡ true
    unfolding joined every
    parts_declared [] i e = refl
    parts_declared (p ∷ ps) (more i is) e =
        let r = both_resolved (base_pieces p.place (base_in p.part)) (joined (λ p. base_pieces p.place (base_in p.part)) ps) e in
        every_append (bit_declared numbers) (part_bits text p.part) (joined (λ p. part_bits text p.part) ps) (part_declared p.part p.place i r.0) (parts_declared ps is r.1)

    -- THE RUNS OF AN OPERAND whose pieces resolve are of declared cells
    pub operand_declared : (o : Operand) → first_unresolved numbers widths (operand_pieces text o) ≡ none → every (is_declared numbers) (operand_runs text o) ≡ true
    unfolding operand_pieces operand_runs
    operand_declared o e = cut_declared (joined (λ p. part_bits text p.part) (parts_at text o)) (parts_declared (parts_at text o) (operand_in text o) e)
