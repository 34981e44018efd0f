-- Runs in the tables: one more behind them, and another in the place of the last.
-- Assumes nothing.
use mathlib.Core.Path.{◌≡◌, refl, ap, ap₂, sym, ◌∙◌}
use mathlib.Core.List.{List, [], ◌∷◌, ◌++◌, append_assoc, append-nil}
use Prim.Native.Nat.{ℕ, ◌+◌, ◌-◌, ◌*◌, ◌<◌, ◌≤◌}
use native.Mathlib.Nat.{add-zero, zero-add}
use native.Mathlib.Omega.{arith}
use lib.ListN.{length, get_or, length-append, get_or-append}
use lib.Seq.{sets, get_or-append-add}
use Rattle.ground.specs.Lists.{joined}
use Rattle.ground.specs.Regions.{pad, zeros}
use Rattle.ground.proofs.Lent.{over_all, sets_front}
use Rattle.ground.proofs.Regions.{pad_put, region}
use Rattle.netlist.specs.Netlist.{Run, const, piece, bits_in, run_bits_of}
use Rattle.netlist.specs.Tables.{run_row, run_rows}
use Rattle.netlist.proofs.Lengths.{length_run_rows}
use Rattle.laying.specs.Holding.{Holds}
use Rattle.laying.specs.declared.Laid.{Laid}

pub length_row : (b : ℕ) (r : Run) → length (run_row b r) ≡ 3
length_row b (const ts) = refl
length_row b (piece row o w) = refl

pub trits_append : (rs qs : List Run) → run_bits_of (rs ++ qs) ≡ run_bits_of rs ++ run_bits_of qs
unfolding joined
trits_append [] qs = refl
trits_append (r ∷ rs) qs = ap (λ (l : List ℕ). bits_in r ++ l) (trits_append rs qs) ∙ sym (append_assoc (bits_in r) (run_bits_of rs) (run_bits_of qs))

-- the trits with a run more
pub trits_last : (rs : List Run) (r : Run) → run_bits_of (rs ++ (r ∷ [])) ≡ run_bits_of rs ++ bits_in r
unfolding joined
trits_last rs r = trits_append rs (r ∷ []) ∙ ap (λ (l : List ℕ). run_bits_of rs ++ l) (append-nil (bits_in r))

rows_append : (b : ℕ) (rs qs : List Run) → run_rows b (rs ++ qs) ≡ run_rows b rs ++ run_rows (b + length (run_bits_of rs)) qs
unfolding run_rows joined
rows_append b [] qs = rw add-zero
rows_append b (r ∷ rs) qs =
    let l : b + length (bits_in r) + length (run_bits_of rs) ≡ b + length (bits_in r ++ run_bits_of rs) = rw length-append (omega arith) in
    ap (λ (x : List ℕ). run_row b r ++ x) (rows_append (b + length (bits_in r)) rs qs)
    ∙ sym (append_assoc (run_row b r) (run_rows (b + length (bits_in r)) rs) _)
    ∙ ap (λ (m : ℕ). (run_row b r ++ run_rows (b + length (bits_in r)) rs) ++ run_rows m qs) l

-- the rows with a run more
pub rows_last : (rs : List Run) (r : Run) → run_rows 0 (rs ++ (r ∷ [])) ≡ run_rows 0 rs ++ run_row (length (run_bits_of rs)) r
unfolding run_rows
rows_last rs r =
    rows_append 0 rs (r ∷ [])
    ∙ ap (λ (l : List ℕ). run_rows 0 rs ++ l) (append-nil (run_row (0 + length (run_bits_of rs)) r) ∙ ap (λ (b : ℕ). run_row b r) (zero-add (length (run_bits_of rs))))

-- other words in the place of the last ones
pad_over : (n k : ℕ) (xs old new : List ℕ) → k ≡ length xs → length new ≡ length old → sets (pad n (xs ++ old)) k new ≡ pad n (xs ++ new)
unfolding pad
pad_over n k xs old new e l =
    let i : k ≡ length xs + 0 = omega arith in
    let f : sets old 0 new ≡ new = sets_front old new (omega arith) ∙ over_all (length new) new old (omega arith) in
    let m : n - length (xs ++ old) ≡ n - length (xs ++ new) = rw (length-append, length-append) (omega arith) in
    let z = zeros (n - length (xs ++ old)) in
    ap₂ (λ a j. sets a j new) (append_assoc xs old z) i
    ∙ region new xs old z 0 (omega arith)
    ∙ ap (λ (x : List ℕ). xs ++ (x ++ z)) f
    ∙ sym (append_assoc xs new z)
    ∙ ap (λ (j : ℕ). (xs ++ new) ++ zeros j) m

-- A RUN MORE
module _ {rs : List Run} {runs trits runs' trits' : List ℕ} {so so' : Laid} (q : Run) where
  pub hold_more : Holds rs runs trits so → so.runs < 4096 → so.trits + length (bits_in q) ≤ 262656
      → runs' ≡ sets runs (3 * so.runs) (run_row so.trits q) → trits' ≡ sets trits so.trits (bits_in q)
      → so'.runs ≡ so.runs + 1 → so'.trits ≡ so.trits + length (bits_in q)
      → Holds (rs ++ (q ∷ [])) runs' trits' so'
  hold_more h few room e f c t =
      let n = h.count in
      let b = h.filled in
      let l = length_run_rows 0 rs in
      let w = length_row so.trits q in
      let at : 3 * so.runs ≡ length (run_rows 0 rs) = omega arith in
      record {
        rows = e ∙ ap (λ (x : List ℕ). sets x (3 * so.runs) (run_row so.trits q)) h.rows
            ∙ pad_put 12288 (3 * so.runs) (run_rows 0 rs) (run_row so.trits q) at (omega arith)
            ∙ ap (pad 12288) (ap (λ (m : ℕ). run_rows 0 rs ++ run_row m q) b ∙ sym (rows_last rs q));
        bits = f ∙ ap (λ (x : List ℕ). sets x so.trits (bits_in q)) h.bits
            ∙ pad_put 262656 so.trits (run_bits_of rs) (bits_in q) b (omega arith)
            ∙ ap (pad 262656) (sym (trits_last rs q));
        count = rw length-append (omega arith);
        filled = rw (trits_last, length-append) (omega arith);
        long = rw length-append (omega arith);
      }

-- THE LAST RUN CHANGED, with trits xs behind its own
module _ (rs : List Run) (r q : Run) (xs : List ℕ) {runs trits runs' trits' : List ℕ} {so so' : Laid} where
  pub hold_last : Holds (rs ++ (r ∷ [])) runs trits so → bits_in q ≡ bits_in r ++ xs → so.trits + length xs ≤ 262656
      → runs' ≡ sets runs (3 * (so.runs - 1)) (run_row (length (run_bits_of rs)) q) → trits' ≡ sets trits so.trits xs
      → so'.runs ≡ so.runs → so'.trits ≡ so.trits + length xs
      → Holds (rs ++ (q ∷ [])) runs' trits' so'
  hold_last h g room e f c t =
      let n : so.runs ≡ length rs + 1 = h.count ∙ length-append rs (r ∷ []) in
      let b = h.filled in
      let l = length_run_rows 0 rs in
      let at : 3 * (so.runs - 1) ≡ length (run_rows 0 rs) = omega arith in
      let same : length (run_row (length (run_bits_of rs)) q) ≡ length (run_row (length (run_bits_of rs)) r) = length_row _ q ∙ sym (length_row _ r) in
      let all : run_bits_of (rs ++ (q ∷ [])) ≡ run_bits_of (rs ++ (r ∷ [])) ++ xs =
      trits_last rs q ∙ ap (λ (l : List ℕ). run_bits_of rs ++ l) g ∙ sym (append_assoc (run_bits_of rs) (bits_in r) xs)
      ∙ ap (λ (l : List ℕ). l ++ xs) (sym (trits_last rs r)) in
      record {
        rows = e ∙ ap (λ (x : List ℕ). sets x (3 * (so.runs - 1)) (run_row (length (run_bits_of rs)) q)) (h.rows ∙ ap (pad 12288) (rows_last rs r))
            ∙ pad_over 12288 (3 * (so.runs - 1)) (run_rows 0 rs) (run_row (length (run_bits_of rs)) r) (run_row (length (run_bits_of rs)) q) at same
            ∙ ap (pad 12288) (sym (rows_last rs q));
        bits = f ∙ ap (λ (x : List ℕ). sets x so.trits xs) h.bits
            ∙ pad_put 262656 so.trits (run_bits_of (rs ++ (r ∷ []))) xs b (omega arith)
            ∙ ap (pad 262656) (sym all);
        count = rw length-append (omega arith);
        filled = rw (all, length-append) (omega arith);
        long = let m = h.long in let k = length-append rs (r ∷ []) in rw length-append (omega arith);
      }

-- THE LAST ROW
pub last_word : (rs : List Run) (r : Run) {runs trits : List ℕ} {so : Laid} (i : ℕ) → i < 3 → Holds (rs ++ (r ∷ [])) runs trits so
    → get_or runs (3 * (so.runs - 1) + i) 0 ≡ get_or (run_row (length (run_bits_of rs)) r) i 0
unfolding pad
last_word rs r {runs} {trits} {so} i few h =
    let n : so.runs ≡ length rs + 1 = h.count ∙ length-append rs (r ∷ []) in
    let l = length_run_rows 0 rs in
    let w = length_row (length (run_bits_of rs)) r in
    let at : 3 * (so.runs - 1) ≡ length (run_rows 0 rs) = omega arith in
    let row = run_row (length (run_bits_of rs)) r in
    let z = zeros (12288 - length (run_rows 0 rs ++ row)) in
    ap₂ (λ x j. get_or x (j + i) 0) (h.rows ∙ ap (pad 12288) (rows_last rs r) ∙ append_assoc (run_rows 0 rs) row z) at
    ∙ get_or-append-add (run_rows 0 rs) (row ++ z) i 0
    ∙ get_or-append row z 0 i (omega arith)

-- clear regions hold no runs
pub hold_none : Holds [] (zeros 12288) (zeros 262656) (record { runs = 0; trits = 0 })
unfolding run_rows joined pad
hold_none = record { rows = refl; bits = refl; count = refl; filled = refl; long = omega arith }
