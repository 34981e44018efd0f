-- What the runs of an operand tell of its pieces: where no part is without bits and every run resolves, every piece resolves.
-- Assumes nothing.
use mathlib.Core.Path.{◌≡◌, refl, ap}
use mathlib.Core.Bool.{Bool, true, false, not, ◌&&◌, ◌||◌}
use mathlib.Core.List.{List, [], ◌∷◌, ◌++◌}
use mathlib.Core.Option.{Option, none, some}
use Prim.Native.Nat.{ℕ, zero, suc, ◌+◌, ◌-◌, ◌*◌, ◌<◌, ◌≤◌}
use native.Mathlib.Omega.{arith}
use lib.Dec.{eqb, leb, ltb}
use lib.ListN.{length, get_or}
use borrow.Author.Tests.{eqb-true, eq-eqb, leb-true, le-leb}
use Rattle.ground.specs.Choice.{pick}
use Rattle.ground.specs.Lists.{every, joined}
use Rattle.ground.specs.declared.Place.{Place}
use Rattle.ground.proofs.Bools.{bool_cases, never_both, and_true, or_false, every_first, every_more}
use Rattle.brackets.specs.Parts.{PartAt, parts_at, base_width, part_width}
use Rattle.brackets.specs.declared.Piece.{Piece}
use Rattle.brackets.specs.declared.Base.{Base}
use Rattle.brackets.specs.declared.Base.TheVariants as base
use Rattle.brackets.specs.declared.Part.{Part}
use Rattle.brackets.specs.declared.Part.TheVariants as part
use Rattle.brackets.specs.declared.Operand.{Operand}
use Rattle.netlist.specs.Netlist.{Run, const, piece}
use Rattle.netlist.specs.Runs.{Bit, known, bit, falling, known_bits, runs_with, cut}
use Rattle.netlist.specs.Rules.{resolves}
use Rattle.saying.specs.Values.{row_of, trits_in, base_bits, copies, part_bits, operand_runs}
use Rattle.saying.specs.Pieces.{PieceAt, base_pieces, base_in, operand_pieces, unresolved, first_unresolved}
use Rattle.laying.specs.Bare.{is_bare, some_bare, run_resolves, Covers}

module _ {A : Type 0} (p : A → Bool) where
  -- what holds of every element holds of those of the front, and of the back
  pub every_both : (xs ys : List A) → every p (xs ++ ys) ≡ true → (every p xs ≡ true) × (every p ys ≡ true)
  unfolding every
  every_both [] ys h = (refl, h)
  every_both (x ∷ xs) ys h = bool_cases (p x)
      (λ e. let r = every_both xs ys (rw (e, every) at h) in (rw (e, every) r.0, r.1))
      (λ e. never_both (rw (e, every) at h) refl)

-- a width that is not 0, and one that is not 0 some times
wide_some : (w : ℕ) → eqb w 0 ≡ false → 0 < w
wide_some zero h = never_both refl h
wide_some (suc w) h = omega arith

times_wide : (n w : ℕ) → eqb (n * w) 0 ≡ false → 0 < w
times_wide n zero h = never_both (eq-eqb (n * 0) 0 (omega arith)) h
times_wide n (suc w) h = omega arith

module _ (numbers widths : List ℕ) where
  abbrev reads : ℕ → ℕ → ℕ → Bool
  reads n o w = leb 1 (row_of numbers n) && resolves widths (row_of numbers n - 1) o w

  abbrev bit_resolves : Bit → Bool
  bit_resolves (known t) = true
  bit_resolves (bit n o) = reads n o 1

  -- where bits of a cell resolve, those resolve that end no higher
  reads_less : (n o w p v : ℕ) → p + v ≤ o + w → reads n o w ≡ true → reads n p v ≡ true
  reads_less n o w p v l h =
      let a = and_true (leb 1 (row_of numbers n)) (resolves widths (row_of numbers n - 1) o w) h in
      let b = and_true (ltb (row_of numbers n - 1) (length widths)) (leb (o + w) (get_or widths (row_of numbers n - 1) 0)) a.1 in
      let c : p + v ≤ get_or widths (row_of numbers n - 1) 0 = (let m = leb-true (o + w) (get_or widths (row_of numbers n - 1) 0) b.1 in omega arith) in
      rw (a.0, b.0, le-leb (p + v) (get_or widths (row_of numbers n - 1) 0) c)

  -- BITS of runs that resolve
  with_bits : (b : Bit) (rs : List Run) → every (run_resolves numbers widths) (runs_with b rs) ≡ true → (bit_resolves b ≡ true) × (every (run_resolves numbers widths) rs ≡ true)
  unfolding every
  with_bits (known t) [] h = (refl, refl)
  with_bits (known t) (const ts ∷ rs) h = (refl, h)
  with_bits (known t) (piece n o w ∷ rs) h = (refl, h)
  with_bits (bit n o) [] h = every_first (run_resolves numbers widths) (piece n o 1) [] h
  with_bits (bit n o) (const ts ∷ rs) h = every_first (run_resolves numbers widths) (piece n o 1) (const ts ∷ rs) h
  with_bits (bit n o) (piece m q w ∷ rs) h = bool_cases (eqb n m && eqb o (q + w))
      (λ e.
      let p = and_true (eqb n m) (eqb o (q + w)) e in
      let i : n ≡ m = eqb-true n m p.0 in
      let j : o ≡ q + w = eqb-true o (q + w) p.1 in
      let f = every_first (run_resolves numbers widths) (piece m q (w + 1)) rs (rw e at h) in
      (rw i (reads_less m q (w + 1) o 1 (omega arith) f.0), every_more (run_resolves numbers widths) (piece m q w) rs (reads_less m q (w + 1) q w (omega arith) f.0) f.1))
      (λ e. every_first (run_resolves numbers widths) (piece n o 1) (piece m q w ∷ rs) (rw e at h))

  cut_bits : (bs : List Bit) → every (run_resolves numbers widths) (cut bs) ≡ true → every bit_resolves bs ≡ true
  unfolding every cut
  cut_bits [] h = refl
  cut_bits (b ∷ bs) h = let f = with_bits b (cut bs) h in every_more bit_resolves b bs f.0 (cut_bits bs f.1)

  -- PIECES of parts whose bits resolve: the highest bit of a piece tells that all of it does
  falling_reads : (n o w : ℕ) → 0 < w → every bit_resolves (falling n o w) ≡ true → reads n o w ≡ true
  unfolding falling
  falling_reads n o zero h e = absurd (omega arith)
  falling_reads n o (suc w) h e =
      let f = every_first bit_resolves (bit n (o + w)) (falling n o w) e in
      reads_less n (o + w) 1 o (suc w) (omega arith) f.0

  piece_found : (p : Piece) (k : Place) → reads p.cell p.offset p.width ≡ true → first_unresolved numbers widths (record { piece = p; place = k } ∷ []) ≡ none
  unfolding first_unresolved
  piece_found p k e = rw (e, first_unresolved)

  base_found : (text : List ℕ) (b : Base) (k : Place) → 0 < base_width b → every bit_resolves (base_bits text b) ≡ true → first_unresolved numbers widths (base_pieces k b) ≡ none
  unfolding first_unresolved
  base_found text (base.Constant s) k h e = refl
  base_found text (base.Cell p) k h e = piece_found p k (falling_reads p.cell p.offset p.width h e)

  -- a repetition that has bits has a first copy
  copies_found : (text : List ℕ) (b : Base) (k : Place) (n : ℕ) → eqb (n * base_width b) 0 ≡ false → every bit_resolves (copies n (base_bits text b)) ≡ true
      → first_unresolved numbers widths (base_pieces k b) ≡ none
  unfolding copies
  copies_found text b k zero h e = never_both (eq-eqb (0 * base_width b) 0 (omega arith)) h
  copies_found text b k (suc n) h e = base_found text b k (times_wide (suc n) (base_width b) h) (every_both bit_resolves (base_bits text b) (copies n (base_bits text b)) e).0

  part_found : (text : List ℕ) (p : PartAt) → is_bare p ≡ false → every bit_resolves (part_bits text p.part) ≡ true
      → first_unresolved numbers widths (base_pieces p.place (base_in p.part)) ≡ none
  part_found text p h e = go p.part h e
    where
      go : (q : Part) → eqb (part_width q) 0 ≡ false → every bit_resolves (part_bits text q) ≡ true → first_unresolved numbers widths (base_pieces p.place (base_in q)) ≡ none
      go (part.One b) h e = base_found text b p.place (wide_some (base_width b) h) e
      go (part.Repeated b n) h e = copies_found text b p.place n h e

  -- nothing unresolved in two lists of pieces
  both_found : (ps qs : List PieceAt) → first_unresolved numbers widths ps ≡ none → first_unresolved numbers widths qs ≡ none → first_unresolved numbers widths (ps ++ qs) ≡ none
  unfolding first_unresolved
  both_found [] qs e f = f
  both_found (p ∷ ps) qs e f = bool_cases (unresolved numbers widths p)
      (λ u. let z : ◌≡◌ {A = ℕ} 1 0 = ap counted (rw (u, first_unresolved) at e) in absurd (omega arith))
      (λ u. rw (u, first_unresolved) (both_found ps qs (rw (u, first_unresolved) at e) f))
    where
      counted : Option Place → ℕ
      counted none = 0
      counted (some p) = 1

  parts_found : (text : List ℕ) (ps : List PartAt) → some_bare ps ≡ false → every bit_resolves (joined (λ p. part_bits text p.part) ps) ≡ true
      → first_unresolved numbers widths (joined (λ p. base_pieces p.place (base_in p.part)) ps) ≡ none
  unfolding joined some_bare first_unresolved
  parts_found text [] h e = refl
  parts_found text (p ∷ ps) h e =
      let b = or_false (is_bare p) (some_bare ps) h in
      let f = every_both bit_resolves (part_bits text p.part) (joined (λ p. part_bits text p.part) ps) e in
      both_found (base_pieces p.place (base_in p.part)) (joined (λ p. base_pieces p.place (base_in p.part)) ps) (part_found text p b.0 f.0) (parts_found text ps b.1 f.1)

-- THE RUNS OF AN OPERAND without a bare part cover its pieces
pub operand_covers : (text : List ℕ) (o : Operand) → some_bare (parts_at text o) ≡ false → Covers (operand_runs text o) (operand_pieces text o)
unfolding operand_pieces operand_runs
operand_covers text o h = record {
  all = λ numbers widths e. parts_found numbers widths text (parts_at text o) h (cut_bits numbers widths (joined (λ p. part_bits text p.part) (parts_at text o)) e);
}

-- .. and so do the runs of two operands, one behind the other
pub covers_join : {rs qs : List Run} {ps ss : List PieceAt} → Covers rs ps → Covers qs ss → Covers (rs ++ qs) (ps ++ ss)
covers_join {rs} {qs} {ps} {ss} c d = record {
  all = λ numbers widths e.
      let f = every_both (run_resolves numbers widths) rs qs e in
      both_found numbers widths ps ss (c.all numbers widths f.0) (d.all numbers widths f.1);
}

pub covers_none : Covers [] []
unfolding first_unresolved
covers_none = record { all = λ numbers widths e. refl }
