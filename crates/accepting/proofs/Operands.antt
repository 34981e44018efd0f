-- The runs of an operand whose pieces resolve fit, and are longest.
use Rattle.lexis.specs.Took.{Took}
use Rattle.std.specs.Prelude.{Ok, Err}
use mathlib.Core.Path.{◌≡◌, refl, ap}
use mathlib.Core.Bool.{Bool, true, false, ◌&&◌}
use mathlib.Core.List.{List, [], ◌∷◌, map}
use mathlib.Core.Option.{Option, none, some}
use Prim.Native.Nat.{ℕ, zero, suc, ◌+◌, ◌-◌, ◌≤◌}
use native.Mathlib.Omega.{arith}
use lib.Dec.{eqb, leb, ltb}
use lib.ListN.{length, get_or}
use borrow.Author.Tests.{eqb-true, leb-true, le-leb}
use Rattle.ground.specs.Lists.{every, joined}
use Rattle.ground.specs.Regions.{part}
use Rattle.ground.specs.declared.Place.{Place}
use Rattle.ground.proofs.Bools.{bool_cases, and_true, true_and, every_first, every_more}
use Rattle.signs.specs.Bytes.{is_constant}
use Rattle.lexis.specs.Tokens.{token_at, inside_at, constant}
use Rattle.lexis.specs.declared.Reader.{Reader}
use Rattle.lexis.specs.declared.Token.{Token}
use Rattle.brackets.specs.Words.{is_sort}
use Rattle.brackets.specs.Parts.{PartAt, is_part, base_of, part_of, next_part, parts_from, parts_of, parts_at}
use Rattle.brackets.specs.declared.Base.{Base}
use Rattle.brackets.specs.declared.Base.TheVariants as base
use Rattle.brackets.specs.declared.Part.{Part}
use Rattle.brackets.specs.declared.Part.TheVariants as part
use Rattle.brackets.specs.declared.Operand.{Operand}
use Rattle.netlist.specs.Netlist.{Run, const, piece}
use Rattle.netlist.specs.Runs.{Bit, known, bit, falling, known_bits, runs_with, cut, longest}
use Rattle.netlist.specs.Rules.{is_byte, is_trit, resolves, operand_sound}
use Rattle.saying.specs.Values.{row_of, row_run, trits_in, base_bits, copies, part_bits, operand_runs}
use Rattle.saying.specs.Pieces.{base_pieces, base_in, operand_pieces, first_unresolved}
use Rattle.saying.proofs.Tokens.{Nothing}
use Rattle.resolving.proofs.Declared.{every_append, both_resolved}
use Rattle.accepting.proofs.Bytes.{constant_trits}
use Rattle.accepting.proofs.Tokens.{MeantToken, MeantStep, token_meant, inside_meant}
use Rattle.accepting.proofs.Numbers.{run_fit, runs_rowed, longest_rowed}

-- PARTS: each constant has the characters of constants
abbrev BaseMeant : List ℕ → Base → Type 0
BaseMeant text (base.Constant s) = every is_constant (part s.from s.size text) ≡ true
BaseMeant text (base.Cell p) = Nothing

abbrev PartMeant : List ℕ → Part → Type 0
PartMeant text (part.One b) = BaseMeant text b
PartMeant text (part.Repeated b n) = BaseMeant text b

data PartsMeant (text : List ℕ) : List PartAt → Type 0 where
  nothing : PartsMeant text []
  more : {p : PartAt} {ps : List PartAt} → PartMeant text p.part → PartsMeant text ps → PartsMeant text (p ∷ ps)

module _ (text : List ℕ) where
  part_meant : (t : Token) → MeantToken text t → PartMeant text (part_of t)
  part_meant t h = bool_cases (leb 4 t.parts) (λ e. rw e base) (λ e. rw e base)
    where
      base : BaseMeant text (base_of t)
      base = bool_cases (is_sort constant t) (λ e. rw e (h.characters e)) (λ e. rw e refl)

  parts_from_lem : (f k : ℕ) → PartsMeant text (parts_from f text k)
  unfolding parts_from next_part
  parts_from_lem zero k = nothing
  parts_from_lem (suc f) k = go (inside_at text k) refl (inside_meant text k) (λ r. parts_from_lem f r.next.at)
    where
      go : (s : Took Token) → inside_at text k ≡ s → MeantStep text s → ((r : Reader) → PartsMeant text (parts_from f text r.next.at)) → PartsMeant text (parts_from (suc f) text k)
      go (Err g) e h ih = rw (e, parts_from) nothing
      go (Ok (t, r)) e h ih = bool_cases (is_part t) (λ i. rw (e, i, parts_from) (more (part_meant t h) (ih r))) (λ i. rw (e, i, parts_from) nothing)

  parts_meant : (o : Operand) → PartsMeant text (parts_at text o)
  unfolding parts_at
  parts_meant o = bool_cases o.given (λ e. rw e (go (token_at text o.at) (token_meant text o.at))) (λ e. rw e nothing)
    where
      go : (s : Took Token) → MeantStep text s → PartsMeant text (parts_of text s)
      go (Err g) h = nothing
      go (Ok (t, r)) h = bool_cases (is_part t) (λ i. rw i (more (part_meant t h) nothing)) (λ i. rw i (parts_from_lem (suc (length text)) r.next.at))

-- LONGEST: a bit before longest runs makes longest runs
with_longest : (b : Bit) (rs : List Run) → longest rs ≡ true → longest (runs_with b rs) ≡ true
unfolding longest
with_longest (known t) [] h = refl
with_longest (known t) (const ts ∷ []) h = refl
with_longest (known t) (const ts ∷ const us ∷ rs) h = h
with_longest (known t) (const ts ∷ piece n o w ∷ rs) h = h
with_longest (known t) (piece n o w ∷ rs) h = h
with_longest (bit n o) [] h = refl
with_longest (bit n o) (const ts ∷ rs) h = h
with_longest (bit n o) (piece m q w ∷ []) h = bool_cases (eqb n m && eqb o (q + w)) (λ e. rw (e, longest) refl) (λ e. rw (e, longest, e, longest) refl)
with_longest (bit n o) (piece m q w ∷ const ts ∷ rs) h = bool_cases (eqb n m && eqb o (q + w)) (λ e. rw (e, longest) h) (λ e. rw (e, longest, e, longest) h)
with_longest (bit n o) (piece m q w ∷ piece l p v ∷ rs) h = bool_cases (eqb n m && eqb o (q + w)) (λ e. rw (e, longest) h) (λ e. rw (e, longest, e, longest) h)

cut_longest : (bs : List Bit) → longest (cut bs) ≡ true
unfolding cut longest
cut_longest [] = refl
cut_longest (b ∷ bs) = with_longest b (cut bs) (cut_longest bs)

-- RESOLVED BITS
module _ (ns ws : List ℕ) where
  abbrev reads : ℕ → ℕ → ℕ → Bool
  reads n o w = leb 1 (row_of ns n) && resolves ws (row_of ns n - 1) o w

  abbrev bit_fit : Bit → Bool
  bit_fit (known t) = is_trit t
  bit_fit (bit n o) = reads n o 1

  -- of a piece that resolves every piece within does
  reads_less : (n o w p v : ℕ) → p + v ≤ o + w → reads n o w ≡ true → reads n p v ≡ true
  reads_less n o w p v l h =
      let a = and_true (leb 1 (row_of ns n)) (resolves ws (row_of ns n - 1) o w) h in
      let b = and_true (ltb (row_of ns n - 1) (length ws)) (leb (o + w) (get_or ws (row_of ns n - 1) 0)) a.1 in
      let c : p + v ≤ get_or ws (row_of ns n - 1) 0 = (let m = leb-true (o + w) (get_or ws (row_of ns n - 1) 0) b.1 in omega arith) in
      rw (a.0, b.0, le-leb (p + v) (get_or ws (row_of ns n - 1) 0) c)

  falling_fit : (n o w : ℕ) → reads n o w ≡ true → every bit_fit (falling n o w) ≡ true
  unfolding every falling
  falling_fit n o zero h = refl
  falling_fit n o (suc w) h =
      every_more bit_fit (bit n (o + w)) (falling n o w) (reads_less n o (suc w) (o + w) 1 (omega arith) h)
      (falling_fit n o w (reads_less n o (suc w) o w (omega arith) h))

  known_fit : (ts : List ℕ) → every is_trit ts ≡ true → every bit_fit (known_bits ts) ≡ true
  unfolding every known_bits
  known_fit [] h = refl
  known_fit (t ∷ ts) h = let f = every_first is_trit t ts h in every_more bit_fit (known t) (known_bits ts) f.0 (known_fit ts f.1)

  copies_fit : (n : ℕ) (bs : List Bit) → every bit_fit bs ≡ true → every bit_fit (copies n bs) ≡ true
  unfolding every copies
  copies_fit zero bs h = refl
  copies_fit (suc n) bs h = every_append bit_fit bs (copies n bs) h (copies_fit n bs h)

  -- RUNS of bits that fit
  with_fit : (b : Bit) (rs : List Run) → bit_fit b ≡ true → every (run_fit ns ws) rs ≡ true → every (run_fit ns ws) (runs_with b rs) ≡ true
  unfolding every
  with_fit (known t) [] h d = every_more (run_fit ns ws) (const (t ∷ [])) [] (every_more is_trit t [] h refl) d
  with_fit (known t) (const ts ∷ rs) h d =
      let f = every_first (run_fit ns ws) (const ts) rs d in
      let g = and_true (leb 1 (length ts)) (every is_trit ts) f.0 in
      every_more (run_fit ns ws) (const (t ∷ ts)) rs (true_and (leb 1 (suc (length ts))) (every is_trit (t ∷ ts)) (le-leb 1 (suc (length ts)) (omega arith)) (every_more is_trit t ts h g.1)) f.1
  with_fit (known t) (piece n o w ∷ rs) h d = every_more (run_fit ns ws) (const (t ∷ [])) (piece n o w ∷ rs) (every_more is_trit t [] h refl) d
  with_fit (bit n o) [] h d = every_more (run_fit ns ws) (piece n o 1) [] h d
  with_fit (bit n o) (const ts ∷ rs) h d = every_more (run_fit ns ws) (piece n o 1) (const ts ∷ rs) h d
  with_fit (bit n o) (piece m q w ∷ rs) h d = bool_cases (eqb n m && eqb o (q + w))
      (λ e.
      let p = and_true (eqb n m) (eqb o (q + w)) e in
      let i : n ≡ m = eqb-true n m p.0 in
      let j : o ≡ q + w = eqb-true o (q + w) p.1 in
      let k : reads m o 1 ≡ true = rw i at h in
      let f = every_first (run_fit ns ws) (piece m q w) rs d in
      rw e (every_more (run_fit ns ws) (piece m q (w + 1)) rs (true_and (leb 1 (w + 1)) (reads m q (w + 1)) (le-leb 1 (w + 1) (omega arith)) (reads_less m o 1 q (w + 1) (omega arith) k)) f.1))
      (λ e. rw e (every_more (run_fit ns ws) (piece n o 1) (piece m q w ∷ rs) h d))

  cut_fit : (bs : List Bit) → every bit_fit bs ≡ true → every (run_fit ns ws) (cut bs) ≡ true
  unfolding every cut
  cut_fit [] h = refl
  cut_fit (b ∷ bs) h = let f = every_first bit_fit b bs h in with_fit b (cut bs) f.0 (cut_fit bs f.1)

  -- BITS of parts whose pieces resolve
  module _ (text : List ℕ) (sound : every is_byte text ≡ true) where
    base_fit : (b : Base) (k : Place) → BaseMeant text b → first_unresolved ns ws (base_pieces k b) ≡ none → every bit_fit (base_bits text b) ≡ true
    unfolding first_unresolved
    base_fit (base.Constant s) k i e = known_fit (trits_in text s) (constant_trits text s.from s.size sound i)
    base_fit (base.Cell p) k i e = bool_cases (reads p.cell p.offset p.width)
        (λ u. falling_fit p.cell p.offset p.width u)
        (λ u. let z : ◌≡◌ {A = ℕ} 1 0 = ap counted (rw (u, first_unresolved) at e) in absurd (omega arith))
      where
        counted : Option Place → ℕ
        counted none = 0
        counted (some p) = 1

    part_fit : (p : Part) (k : Place) → PartMeant text p → first_unresolved ns ws (base_pieces k (base_in p)) ≡ none → every bit_fit (part_bits text p) ≡ true
    part_fit (part.One b) k i e = base_fit b k i e
    part_fit (part.Repeated b n) k i e = copies_fit n (base_bits text b) (base_fit b k i e)

    parts_fit : (ps : List PartAt) → PartsMeant text ps → first_unresolved ns ws (joined (λ p. base_pieces p.place (base_in p.part)) ps) ≡ none
        → every bit_fit (joined (λ p. part_bits text p.part) ps) ≡ true
    unfolding joined every
    parts_fit [] i e = refl
    parts_fit (p ∷ ps) (more i is) e =
        let r = both_resolved ns ws text (base_pieces p.place (base_in p.part)) (joined (λ p. base_pieces p.place (base_in p.part)) ps) e in
        every_append bit_fit (part_bits text p.part) (joined (λ p. part_bits text p.part) ps) (part_fit p.part p.place i r.0) (parts_fit ps is r.1)

    -- THE RUNS OF AN OPERAND, by rows
    operand_fit : (o : Operand) → first_unresolved ns ws (operand_pieces text o) ≡ none → every (run_fit ns ws) (operand_runs text o) ≡ true
    unfolding operand_pieces operand_runs
    operand_fit o e = cut_fit (joined (λ p. part_bits text p.part) (parts_at text o)) (parts_fit (parts_at text o) (parts_meant text o) e)

    pub operand_sound_lem : (o : Operand) → first_unresolved ns ws (operand_pieces text o) ≡ none → operand_sound ws (map (row_run ns) (operand_runs text o)) ≡ true
    unfolding operand_runs
    operand_sound_lem o e =
        let f = operand_fit o e in
        rw (runs_rowed ns ws (operand_runs text o) f, longest_rowed ns ws (operand_runs text o) f (cut_longest (joined (λ p. part_bits text p.part) (parts_at text o))))

-- an operand that is not written has no run
pub no_runs : (text : List ℕ) (o : Operand) → o.given ≡ false → operand_runs text o ≡ []
unfolding operand_runs parts_at cut joined
no_runs text o e = rw e refl
