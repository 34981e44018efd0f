-- The cell rows, settled one after the other.
use mathlib.Core.Path.{◌≡◌, refl, sym, ap, ◌∙◌}
use mathlib.Core.List.{List, [], ◌∷◌, ◌++◌}
use Prim.Native.Nat.{ℕ, ◌+◌, ◌-◌, ◌*◌, ◌<◌, ◌≤◌}
use native.Mathlib.Nat.{zero-add}
use native.Mathlib.Omega.{arith}
use lib.ListN.{length, take, drop, get_or, length-append}
use lib.Seq.{sets}
use Rattle.ground.specs.Lists.{joined}
use Rattle.ground.specs.Regions.{pad, zeros}
use Rattle.ground.proofs.Writes.{sets_append}
use Rattle.ground.proofs.Regions.{length_pad}
use Rattle.ground.proofs.Counts.{length_mapped}
use Rattle.netlist.specs.Netlist.{Cell, cell_runs, runs_of}
use Rattle.netlist.specs.Tables.{cell_row, cell_rows}
use Rattle.netlist.proofs.Lengths.{length_cell_rows}
use Rattle.saying.specs.Notes.{CellNote, cell_note, cells_said, spelled, Spells, SpellCells, none, more}
use Rattle.settling.specs.Settling.{CellHere, cell_started, cell_laid, cell_next, cell_strings, CellsNoted, CellsSettled}
use Rattle.settling.specs.declared.CellStarts.{CellStarts}
use Rattle.settling.proofs.Left.{Left, left_row, left_more, left_end}

-- the rows that are left to settle
abbrev CellRowsLeft : List CellNote → ℕ → ℕ → ℕ → List ℕ → CellStarts → List CellNote → Type 0
CellRowsLeft ns first n i cells so rest = Left 9 cell_note (λ xs. cell_rows so.strings so.runs (cells_said xs)) n i cells (pad 4608 (cell_rows first 0 (cells_said ns))) rest

-- what is left to settle gives what the whole gives
pub record CellsLeft (text : List ℕ) (ns : List CellNote) (first : ℕ) (strings₀ : List ℕ) (n i : ℕ) (cells strings : List ℕ) (so : CellStarts) : Type 0 where
  pub rest : List CellNote
  pub rows : CellRowsLeft ns first n i cells so rest
  pub laid : sets strings so.strings (cell_strings (cells_said rest)) ≡ sets strings₀ first (cell_strings (cells_said ns))
  pub bytes : so.strings + length (cell_strings (cells_said rest)) ≡ first + length (cell_strings (cells_said ns))
  pub runs : so.runs + length (runs_of (cells_said rest)) ≡ length (runs_of (cells_said ns))
  pub spelled : SpellCells text rest

note_long : (x : CellNote) → length (cell_note x) ≡ 9
unfolding cell_note
note_long x = refl

length_notes : (ns : List CellNote) → length (joined cell_note ns) ≡ length ns * 9
unfolding joined
length_notes [] = refl
length_notes (x ∷ ns) = length-append (cell_note x) (joined cell_note ns) ∙ omega (arith, note_long x, length_notes ns)

runs_long : (c : Cell) → length (cell_runs c) ≡ length c.a + length c.b + length c.c
runs_long c = omega (arith, length-append c.a (c.b ++ c.c), length-append c.b c.c)

pub cells_start : (text : List ℕ) (ns : List CellNote) (first n : ℕ) (cells strings : List ℕ) (so : CellStarts) → so.strings ≡ first → so.runs ≡ 0 → CellsNoted text ns n first cells → CellsLeft text ns first strings n 0 cells strings so
unfolding pad
cells_start text ns first n cells strings so p q d =
    let e : length (joined cell_note ns) ≡ length (cell_rows first 0 (cells_said ns)) =
    length_notes ns ∙ ap (λ (k : ℕ). k * 9) (sym (length_mapped (λ (x : CellNote). x.cell) ns)) ∙ sym (length_cell_rows first 0 (cells_said ns)) in
    record {
      rest = ns;
      rows = record {
        front = [];
        behind = zeros (4608 - length (joined cell_note ns));
        at = refl;
        left = zero-add (length ns) ∙ d.count;
        rows = d.rows;
        goal = rw (p, q, e);
      };
      laid = rw p;
      bytes = rw p;
      runs = rw q (zero-add _);
      spelled = d.spelled;
    }

module _ (text : List ℕ) (ns : List CellNote) (first : ℕ) (strings₀ : List ℕ) (n i : ℕ) (cells strings : List ℕ) (so : CellStarts) (some : i < n) where
  row_here : (rest : List CellNote) → CellRowsLeft ns first n i cells so rest → so.strings + length (cell_strings (cells_said rest)) ≤ 16384 → so.runs + length (runs_of (cells_said rest)) ≤ 4096 → length strings ≡ 16384 → SpellCells text rest
      → CellHere text (take 9 (drop (i * 9) cells)) strings so
  unfolding cell_note joined
  row_here [] l a r long sp = let e = l.left in absurd (omega arith)
  row_here (x ∷ xs) l a r long (more p sp) =
      rw (left_row 9 cell_note _ n i cells _ x xs l (note_long x))
      record {
        long = refl;
        name = ap length p.is;
        room = omega (arith, length-append x.cell.name (cell_strings (cells_said xs)));
        pool = omega arith;
        runs = omega (arith, runs_long x.cell, length-append (cell_runs x.cell) (runs_of (cells_said xs)));
      }

  pub cells_here : first + length (cell_strings (cells_said ns)) ≤ 16384 → length (runs_of (cells_said ns)) ≤ 4096 → length strings ≡ 16384 → CellsLeft text ns first strings₀ n i cells strings so → CellHere text (take 9 (drop (i * 9) cells)) strings so
  cells_here lim few long l = row_here l.rest l.rows (omega (arith, l.bytes)) (omega (arith, l.runs)) long l.spelled

  row_more : (rest : List CellNote) → CellRowsLeft ns first n i cells so rest → sets strings so.strings (cell_strings (cells_said rest)) ≡ sets strings₀ first (cell_strings (cells_said ns))
      → so.strings + length (cell_strings (cells_said rest)) ≡ first + length (cell_strings (cells_said ns)) → so.runs + length (runs_of (cells_said rest)) ≡ length (runs_of (cells_said ns)) → SpellCells text rest → (row : List ℕ) → take 9 (drop (i * 9) cells) ≡ row
      → CellsLeft text ns first strings₀ n (i + 1) (take (i * 9) cells ++ (cell_started row so ++ drop 9 (drop (i * 9) cells))) (cell_laid text row strings so) (cell_next row so)
  unfolding cell_note cell_rows joined
  row_more [] l g a r sp row is = let e = l.left in absurd (omega arith)
  row_more (x ∷ xs) l g a r (more p sp) row is =
      let k : so.runs + length x.cell.a + length x.cell.b + length x.cell.c ≡ so.runs + length (cell_runs x.cell) = omega (arith, runs_long x.cell) in
      let e : row ≡ cell_note x = sym is ∙ left_row 9 cell_note _ n i cells _ x xs l (note_long x) in
      rw e record {
        rest = xs;
        rows = left_more 9 cell_note _ n i cells _ x xs l (λ ys. cell_rows (so.strings + length x.cell.name) (so.runs + length x.cell.a + length x.cell.b + length x.cell.c) (cells_said ys)) (cell_started (cell_note x) so) (note_long x) refl (rw k);
        laid = ap (λ (t : List ℕ). sets (sets strings so.strings t) (so.strings + length x.cell.name) (cell_strings (cells_said xs))) (sym p.is)
            ∙ sym (sets_append strings so.strings x.cell.name (cell_strings (cells_said xs))) ∙ g;
        bytes = omega (arith, length-append x.cell.name (cell_strings (cells_said xs)));
        runs = omega (arith, k, length-append (cell_runs x.cell) (runs_of (cells_said xs)));
        spelled = sp;
      }

  pub cells_more : CellsLeft text ns first strings₀ n i cells strings so → (w : ℕ) → w ≡ 9
      → let row = take w (drop (i * 9) cells) in
      CellsLeft text ns first strings₀ n (i + 1) (take (i * 9) cells ++ (cell_started row so ++ drop w (drop (i * 9) cells))) (cell_laid text row strings so) (cell_next row so)
  cells_more l w e = rw e (row_more l.rest l.rows l.laid l.bytes l.runs l.spelled _ refl)

pub cells_end : (text : List ℕ) (ns : List CellNote) (first : ℕ) (strings₀ : List ℕ) (n i : ℕ) (cells strings : List ℕ) (so : CellStarts) → n ≤ i → CellsLeft text ns first strings₀ n i cells strings so
    → CellsSettled ns first strings₀ cells strings so.strings
unfolding cell_rows joined
cells_end text ns first strings₀ n i cells strings so h l = ended l.rest l.rows l.laid l.bytes
  where
    ended : (rest : List CellNote) → CellRowsLeft ns first n i cells so rest → sets strings so.strings (cell_strings (cells_said rest)) ≡ sets strings₀ first (cell_strings (cells_said ns))
        → so.strings + length (cell_strings (cells_said rest)) ≡ first + length (cell_strings (cells_said ns)) → CellsSettled ns first strings₀ cells strings so.strings
    ended [] l g a = record { rows = left_end 9 cell_note _ n i cells _ [] l h refl; laid = g; next = omega arith }
    ended (x ∷ xs) l g a = let e = l.left in absurd (omega arith)

-- so it goes for whatever notes stand there
abbrev pub Lefts : List ℕ → ℕ → ℕ → List ℕ → List ℕ → ℕ → List ℕ → List ℕ → CellStarts → Type 0
Lefts text n first cells₀ strings₀ i cells strings so = (ns : List CellNote) → CellsNoted text ns n first cells₀ → CellsLeft text ns first strings₀ n i cells strings so

pub noted_long : (text : List ℕ) (ns : List CellNote) (n first : ℕ) (cells : List ℕ) → CellsNoted text ns n first cells → length cells ≡ 4608
noted_long text ns n first cells d = ap length d.rows ∙ length_pad 4608 (joined cell_note ns) (omega (arith, length_notes ns, d.count, d.few))
