-- Printed operands back: bare or between brackets, each with its width, its bits and its pieces, which all resolve.
use Rattle.std.specs.Prelude.{Ok}
use mathlib.Core.Path.{◌≡◌, refl, ap}
use mathlib.Core.Bool.{Bool, true, false, ◌&&◌}
use mathlib.Core.List.{List, [], ◌∷◌, ◌++◌, map}
use mathlib.Core.Option.{none}
use Prim.Native.Nat.{ℕ, zero, suc, ◌+◌, ◌<◌, ◌≤◌}
use native.Mathlib.Nat.{add-zero, zero-add, add_assoc}
use native.Mathlib.Omega.{arith}
use lib.Dec.{eqb}
use lib.ListN.{drop, length, get_or, length-append, length-drop}
use borrow.Author.Tests.{ne_eqb}
use Rattle.ground.specs.Lists.{every, joined, total}
use Rattle.ground.specs.Refusals.{at}
use Rattle.ground.proofs.Bools.{bool_cases, every_first}
use Rattle.signs.specs.Bytes.{class_from, class_of, is_special}
use Rattle.lexis.specs.declared.Token.{Token}
use Rattle.brackets.specs.Parts.{part_of, part_width, concat_from, parts_from, operand_at, parts_at, no_operand}
use Rattle.form.specs.Forms.{operand_if}
use Rattle.brackets.proofs.Measures.{part_took, part_other}
use Rattle.brackets.specs.declared.Operand.{Operand}
use Rattle.netlist.specs.Netlist.{Run, const, piece, run_width, operand_width}
use Rattle.netlist.specs.Runs.{Bit, cut, operand_bits}
use Rattle.netlist.specs.Rules.{run_sound}
use Rattle.saying.specs.Values.{operand_runs}
use Rattle.saying.specs.Pieces.{PieceAt, base_pieces, base_in, unresolved, first_unresolved, operand_pieces}
use Rattle.writing.specs.Words.{number, trits}
use Rattle.operands.specs.Operands.{offset, width, run, runs, more_runs, operand}
use Rattle.operands.proofs.Runs.{runs_more}
use Rattle.celllines.specs.CellLines.{operand_text}
use Rattle.fronts.specs.Fronts.{number_run}
use Rattle.tokensback.proofs.Standing.{Stands, Takes, ends}
use Rattle.tokensback.proofs.Tokens.{behind_space, spaced, spaced_mark, mark_back}
use Rattle.cellsback.proofs.Runs.{Numbered, said_bits, said_pieces, IsRun, run_back}

-- an operand by the numbers of cells, as bits
abbrev pub number_bits : List ℕ → List Run → List Bit
number_bits numbers rs = operand_bits (map (number_run numbers) rs)

-- pieces of which each resolves, before others
pub both_found : (numbers widths : List ℕ) (ps qs : List PieceAt) → first_unresolved numbers widths ps ≡ none → first_unresolved numbers widths qs ≡ none
    → first_unresolved numbers widths (ps ++ qs) ≡ none
unfolding first_unresolved
both_found numbers widths [] qs p q = q
both_found numbers widths (x ∷ ps) qs p q = bool_cases (unresolved numbers widths x)
    (λ u. rw (u, first_unresolved) (rw (u, first_unresolved) at p))
    (λ u. rw (u, first_unresolved) (both_found numbers widths ps qs (rw (u, first_unresolved) at p) q))

-- between brackets: runs up to `]`, read with the fuel f behind a width of n
pub record Closes (text numbers widths : List ℕ) (f n k : ℕ) (rs : List Run) (s : List ℕ) : Type 0 where
  pub end : ℕ
  pub closed : concat_from f text n k ≡ Ok (n + operand_width rs, record { next = at end })
  pub bits : said_bits text (parts_from f text k) ≡ number_bits numbers rs
  pub found : first_unresolved numbers widths (said_pieces (parts_from f text k)) ≡ none
  pub after : Stands text end s

-- an operand is next, or none where the kind has none
pub record TakesOperand (text numbers widths : List ℕ) (given : Bool) (k : ℕ) (rs : List Run) (s : List ℕ) : Type 0 where
  pub operand : Operand
  pub end : ℕ
  pub taken : operand_if given text k ≡ Ok (operand, record { next = at end })
  pub wide : operand.width ≡ operand_width rs
  pub runs : operand_runs text operand ≡ cut (number_bits numbers rs)
  pub found : first_unresolved numbers widths (operand_pieces text operand) ≡ none
  pub rest : drop end text ≡ s

open_mark : is_special 91 ≡ true
unfolding class_of class_from
open_mark = refl

close_mark : is_special 93 ≡ true
unfolding class_of class_from
close_mark = refl

module _ (text numbers widths : List ℕ) where
  -- `]`
  close : {k : ℕ} {s : List ℕ} (f n : ℕ) → drop k text ≡ 93 ∷ s → Closes text numbers widths (suc f) n k [] s
  unfolding concat_from parts_from joined total first_unresolved
  close {k} f n h =
      let m = mark_back text k 93 close_mark h in
      let e = part_other text k _ _ m.inside refl in
      record { end = m.end; closed = rw (e, concat_from, add-zero); bits = rw (e, parts_from); found = rw (e, parts_from); after = m.after }

  -- a run before runs
  before : {k : ℕ} {s s' : List ℕ} (f n : ℕ) (r : Run) (rs : List Run) (t : Token) (p : Takes text k t s') → IsRun text numbers widths r t
      → Closes text numbers widths f (n + run_width r) p.end rs s → Closes text numbers widths (suc f) n k (r ∷ rs) s
  unfolding concat_from parts_from joined total
  before {k} f n r rs t p i c =
      let e = part_took text k t _ p.inside i.part in
      record {
        end = c.end;
        closed = rw (e, concat_from, i.wide, c.closed, add_assoc);
        bits = rw (e, parts_from, i.bits, c.bits);
        found = rw (e, parts_from) (both_found numbers widths _ _ i.found c.found);
        after = c.after;
      }

-- HOW LONG PRINTED RUNS ARE: each takes a byte at least
module _ (numbers widths : List ℕ) where
  number_long : (n : ℕ) (k : List ℕ) → length k ≤ length (number n k)
  unfolding number
  number_long n k = simp length-append (omega arith)

  trits_long : (ts k : List ℕ) → length k ≤ length (trits ts k)
  unfolding trits
  trits_long [] k = omega arith
  trits_long (t ∷ ts) k = omega (arith, trits_long ts k)

  offset_long : (b : Bool) (o : ℕ) (k : List ℕ) → length k ≤ length (offset b o k)
  unfolding offset
  offset_long true o k = omega arith
  offset_long false o k = omega (arith, number_long o k)

  width_long : (w : ℕ) (k : List ℕ) → length k ≤ length (width w k)
  unfolding width
  width_long w k = bool_cases (eqb w 1) (λ e. rw e (omega arith)) (λ e. rw e (omega (arith, number_long w k)))

  run_long : (r : Run) (k : List ℕ) → length k ≤ length (run numbers widths r k)
  run_long (const ts) k = trits_long ts k
  run_long (piece row o w) k =
      let whole = eqb o 0 && eqb w (get_or widths row 0) in
      omega (arith, width_long w k, offset_long whole o (width w k), number_long (get_or numbers row 0) (offset whole o (width w k)))

  more_long : (rs : List Run) (k : List ℕ) → length rs + length k ≤ length (more_runs numbers widths rs k)
  unfolding more_runs
  more_long [] k = omega arith
  more_long (r ∷ rs) k = omega (arith, more_long rs k, run_long r (more_runs numbers widths rs k))

  runs_long : (rs : List Run) (s : List ℕ) → length rs ≤ length (runs numbers widths rs (93 ∷ s))
  unfolding runs
  runs_long [] s = omega arith
  runs_long (r ∷ rs) s = rw (runs_more numbers widths r rs (93 ∷ s)) (omega (arith, more_long rs (93 ∷ s), run_long r (more_runs numbers widths rs (93 ∷ s))))

  ends_more : (rs : List Run) (s : List ℕ) → ends (more_runs numbers widths rs (93 ∷ s)) ≡ true
  unfolding more_runs
  ends_more [] s = refl
  ends_more (r ∷ rs) s = refl

module _ (text numbers widths : List ℕ) (numbered : Numbered numbers widths) where
  -- further runs between brackets
  more_back : {k : ℕ} {s : List ℕ} (f n : ℕ) (rs : List Run) → length rs < f → every (run_sound widths) rs ≡ true → drop k text ≡ more_runs numbers widths rs (93 ∷ s)
      → Closes text numbers widths f n k rs s
  unfolding more_runs
  more_back zero n rs l p h = absurd (omega arith)
  more_back (suc f) n [] l p h = close text numbers widths f n h
  more_back {k} {s} (suc f) n (r ∷ rs) l p h =
      let q = every_first (run_sound widths) r rs p in
      let t = run_back text numbers widths numbered r q.0 (ends_more numbers widths rs s) (behind_space text k h) in
      let u = spaced text k h t.takes in
      before text numbers widths f n r rs t.token u t.is (more_back {k = u.end} f (n + run_width r) rs (omega arith) q.1 u.rest)

  runs_back : {k : ℕ} {s : List ℕ} (f n : ℕ) (rs : List Run) → length rs < f → every (run_sound widths) rs ≡ true → Stands text k (runs numbers widths rs (93 ∷ s))
      → Closes text numbers widths f n k rs s
  unfolding runs
  runs_back zero n rs l p h = absurd (omega arith)
  runs_back (suc f) n [] l p h = close text numbers widths f n h.rest
  runs_back {k} {s} (suc f) n (r ∷ rs) l p h =
      let q = every_first (run_sound widths) r rs p in
      let t = run_back text numbers widths numbered r q.0 (ends_more numbers widths rs s) (rw (runs_more numbers widths r rs (93 ∷ s)) at h) in
      before text numbers widths f n r rs t.token t.takes t.is (more_back f (n + run_width r) rs (omega arith) q.1 t.takes.rest)

  -- an operand between brackets
  bracketed : {k : ℕ} {s : List ℕ} (rs : List Run) → every (run_sound widths) rs ≡ true → drop k text ≡ 32 ∷ 91 ∷ runs numbers widths rs (93 ∷ s)
      → TakesOperand text numbers widths true k rs s
  unfolding operand_if operand_at operand_runs operand_pieces parts_at
  bracketed {k} {s} rs p h =
      let m = spaced_mark text k h (mark_back text (k + 1) 91 open_mark (behind_space text k h).rest) in
      let l : length rs < suc (length text) = omega (arith, runs_long numbers widths rs s, ap length m.after.rest, length-drop m.end text) in
      let c = runs_back (suc (length text)) 0 rs l p m.after in
      record {
        operand = record { given = true; at = k; width = operand_width rs };
        end = c.end;
        taken = rw (m.outside, c.closed, zero-add);
        wide = refl;
        runs = rw (m.outside, c.bits);
        found = rw m.outside c.found;
        rest = c.after.rest;
      }

  -- one run stands bare
  bare : {k : ℕ} {s : List ℕ} (r : Run) → run_sound widths r ≡ true → ends s ≡ true → drop k text ≡ 32 ∷ run numbers widths r s
      → TakesOperand text numbers widths true k (r ∷ []) s
  unfolding operand_if operand_at operand_runs operand_pieces parts_at total joined first_unresolved
  bare {k} {s} r p e h =
      let t = run_back text numbers widths numbered r p e (behind_space text k h) in
      let u = spaced text k h t.takes in
      record {
        operand = record { given = true; at = k; width = part_width (part_of t.token) };
        end = u.end;
        taken = rw (u.outside, t.is.part);
        wide = rw (t.is.wide, add-zero);
        runs = rw (u.outside, t.is.part, t.is.bits);
        found = rw (u.outside, t.is.part) (both_found numbers widths (base_pieces t.token.place (base_in (part_of t.token))) [] t.is.found refl);
        rest = u.rest;
      }

  operand_back : {k : ℕ} {s : List ℕ} (rs : List Run) → every (run_sound widths) rs ≡ true → ends s ≡ true → drop k text ≡ 32 ∷ operand numbers widths rs s
      → TakesOperand text numbers widths true k rs s
  unfolding runs
  operand_back [] p e h = bracketed [] p h
  operand_back (r ∷ []) p e h = bare r (every_first (run_sound widths) r [] p).0 e h
  operand_back (r ∷ q ∷ rs) p e h = bracketed (r ∷ q ∷ rs) p (rw (ne_eqb (length (r ∷ q ∷ rs)) 1 (λ z. omega arith)) at h)

  -- what a kind does not have is not printed
  pub operand_if_lem : (k : ℕ) {s : List ℕ} (given : Bool) (rs : List Run) → (given ≡ false → length rs ≡ 0) → every (run_sound widths) rs ≡ true → ends s ≡ true
      → drop k text ≡ operand_text given numbers widths rs s → TakesOperand text numbers widths given k rs s
  unfolding operand_text operand_if operand_runs operand_pieces parts_at cut joined total first_unresolved
  operand_if_lem k true rs z p e h = operand_back rs p e h
  operand_if_lem k false [] z p e h = record { operand = no_operand; end = k; taken = refl; wide = refl; runs = refl; found = refl; rest = h }
  operand_if_lem k false (r ∷ rs) z p e h = absurd (omega (arith, z refl))
