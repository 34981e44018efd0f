-- Lent tables that are long enough and sound: what each writer asks of the regions that it cuts out of them, and what it then wrote.
use Prim.Native.Nat.{ℕ, ◌-◌, ◌≤◌}
use mathlib.Core.Path.{◌≡◌, refl, sym, ap, ◌∙◌}
use mathlib.Core.Bool.{true}
use mathlib.Core.List.{List, [], ◌++◌}
use native.Mathlib.Omega.{arith}
use lib.ListN.{length, take, get_or}
use Rattle.ground.specs.Lists.{every}
use Rattle.ground.specs.Regions.{part}
use Rattle.ground.proofs.Regions.{part_length}
use Rattle.netlist.specs.Netlist.{Run, Meta, Io, Cell}
use Rattle.netlist.specs.Rules.{is_trit}
use Rattle.netlist.specs.Tables.{Tables, tables_in}
use Rattle.netlist.specs.View.{metas_in, ios_in, runs_in, cells_in, pool_in, view}
use Rattle.netlist.specs.Good.{netlist_in}
use Rattle.writing.specs.Stands.{Wrote}
use Rattle.writing.proofs.Stands.{same_text}
use Rattle.operands.specs.Operands.{holding, held_runs}
use Rattle.numbering.specs.Numbers.{row_widths, numbers_by, narrow}
use Rattle.numbering.proofs.Laws.{widths_length, numbers_length}
use Rattle.celllines.specs.CellLines.{cell_lines, naming}
use Rattle.lines.specs.Lines.{meta_lines, io_lines, lines}
use Rattle.lines.specs.Pools.{pools}
use Rattle.printing.specs.Whole.{cell_widths, Ready}
use Rattle.printing.proofs.Views.{metas_by_pools, ios_by_pools, runs_by_trits, cells_by_strings}
use Rattle.printing.proofs.Whole.{joined_lines, front_length, front_again}

-- the strings are the front of what was lent
front_is : (n : ℕ) (strings : List ℕ) → part 0 n strings ≡ take n strings
unfolding part
front_is n strings = refl

-- I/O
module _ (rows strings : List ℕ) {is ss : List ℕ} (e : is ≡ part 9219 192 rows) (f : ss ≡ part 0 16384 strings) where
  pub ios_wrote : {l l' : List ℕ} {n r : ℕ} → Wrote l n (io_lines (ios_in (pools ss [] []) (get_or rows 1 0) is)) l' r → Wrote l n (io_lines (netlist_in rows strings []).ios) l' r
  unfolding tables_in view
  ios_wrote w =
      let g = f ∙ front_is 16384 strings in
      let T : Tables = tables_in rows strings [] in
      same_text w (λ k. (λ i. io_lines (ios_in (pools (g i) [] []) (get_or rows 1 0) (e i)) k) ∙ ap (λ (l : List Io). io_lines l k) (sym (ios_by_pools T T.io_count T.ios)))

  pub ios_asked : 26307 ≤ length rows → length is ≡ 192
  ios_asked h = ap (λ (l : List ℕ). length l) e ∙ part_length 9219 192 rows (omega arith)

module _ {rows strings bits : List ℕ} (p : Ready rows strings bits) where
  abbrev tables : Tables
  tables = tables_in rows strings bits

  pub few_ios : get_or rows 1 0 ≤ 64
  unfolding tables_in
  few_ios = p.sound.few.1

  pub few_cells : get_or rows 2 0 ≤ 512
  unfolding tables_in
  few_cells = p.sound.few.2

  -- metadata
  module _ {ms me ss ts : List ℕ} (e : ms ≡ part 3 8192 rows) (f : me ≡ part 8195 1024 rows) (g : ss ≡ part 0 16384 strings) (h : ts ≡ part 0 131072 bits) where
    pub metas_asked : (length ms ≡ 8192) × (get_or rows 0 0 ≤ 512) × (every is_trit ts ≡ true)
    unfolding tables_in
    metas_asked = (ap (λ (l : List ℕ). length l) e ∙ p.sound.metas, p.sound.few.0, ap (every is_trit) h ∙ p.sound.trits.0)

    pub metas_wrote : {l l' : List ℕ} {n r : ℕ} → Wrote l n (meta_lines 0 (metas_in (pools ss me ts) (get_or rows 0 0) ms)) l' r → Wrote l n (meta_lines 0 (netlist_in rows strings bits).metas) l' r
    unfolding tables_in view
    metas_wrote w =
        let s = g ∙ front_is 16384 strings in
        same_text w (λ k. (λ i. meta_lines 0 (metas_in (pools (s i) (f i) (h i)) (get_or rows 0 0) (e i)) k) ∙ ap (λ (l : List Meta). meta_lines 0 l k) (sym (metas_by_pools tables tables.meta_count tables.metas)))

  -- cells
  module _ {cs rs ss ts : List ℕ} (e : cs ≡ part 9411 4608 rows) (f : rs ≡ part 14019 12288 rows) (g : ss ≡ part 0 16384 strings) (h : ts ≡ part 131072 262656 bits) (numbers : List ℕ) (m : length numbers ≡ get_or rows 2 0) where
    pub cells_asked : (length cs ≡ 4608) × (length numbers ≤ 512) × (length rs ≡ 12288) × (every is_trit ts ≡ true)
    unfolding tables_in
    cells_asked = (ap (λ (l : List ℕ). length l) e ∙ p.sound.cells, omega (arith, m, few_cells), ap (λ (l : List ℕ). length l) f ∙ p.sound.runs, ap (every is_trit) h ∙ p.sound.trits.1)

    cells_held : cells_in (naming ss) (held_runs rs ts) (length numbers) cs ≡ (netlist_in rows strings bits).cells
    unfolding tables_in view held_runs
    cells_held =
        let s = g ∙ front_is 16384 strings in
        (λ i. cells_in (naming (s i)) (runs_in (holding (h i)) 4096 (f i)) (m i) (e i))
        ∙ ap (λ (q : List Run). cells_in (naming tables.strings) q tables.cell_count tables.cells) (sym (runs_by_trits tables 4096 tables.runs))
        ∙ sym (cells_by_strings tables (pool_in tables) tables.cell_count tables.cells)

    pub cells_wrote : (widths : List ℕ) {l l' : List ℕ} {n r : ℕ} → Wrote l n (cell_lines numbers widths numbers (cells_in (naming ss) (held_runs rs ts) (length numbers) cs)) l' r
        → Wrote l n (cell_lines numbers widths numbers (netlist_in rows strings bits).cells) l' r
    cells_wrote widths w = same_text w (λ k. ap (λ (l : List Cell). cell_lines numbers widths numbers l k) cells_held)

  -- the widths and numbers of all cells
  module _ {widths : List ℕ} (e : widths ≡ cell_widths rows) where
    pub widths_many : length widths ≡ get_or rows 2 0
    widths_many = ap (λ (l : List ℕ). length l) e ∙ widths_length (get_or rows 2 0) (part 9411 4608 rows)

    pub widths_few : length widths ≤ 512
    widths_few = omega (arith, widths_many, few_cells)

    pub all_narrow : every narrow widths ≡ true
    unfolding tables_in
    all_narrow = ap (every narrow) e ∙ p.sound.widths

    module _ {numbers : List ℕ} (f : numbers ≡ numbers_by 0 widths) where
      pub numbers_many : length numbers ≡ get_or rows 2 0
      numbers_many = ap (λ (l : List ℕ). length l) f ∙ numbers_length 0 widths ∙ widths_many

      pub lines_wrote : {l l₁ l₂ l₃ : List ℕ} {n₁ n₂ n₃ : ℕ} → Wrote l 0 (meta_lines 0 (netlist_in rows strings bits).metas) l₁ n₁
          → Wrote l₁ n₁ (io_lines (netlist_in rows strings []).ios) l₂ n₂ → Wrote l₂ n₂ (cell_lines numbers widths numbers (netlist_in rows strings bits).cells) l₃ n₃
          → Wrote l 0 (lines (netlist_in rows strings bits)) l₃ n₃
      unfolding tables_in view
      lines_wrote u v w =
          let without : Tables = tables_in rows strings [] in
          let io = ios_by_pools without without.io_count without.ios ∙ sym (ios_by_pools tables tables.io_count tables.ios) in
          joined_lines tables e f u (same_text v (λ k. ap (λ (is : List Io). io_lines is k) io)) w

  -- widths at the front of work space
  module _ {n : ℕ} (q : n ≡ get_or rows 2 0) {cs : List ℕ} (e : cs ≡ part 9411 4608 rows) (old : List ℕ) (h : length old ≡ 512) where
    front_many : length (take (n - 0) old) ≡ n
    front_many = front_length old n h (omega (arith, q, few_cells))

    pub widths_asked : (length cs ≡ 4608) × (length (take (n - 0) old) ≤ 512)
    unfolding tables_in
    widths_asked = (ap (λ (l : List ℕ). length l) e ∙ p.sound.cells, omega (arith, front_many, q, few_cells))

    pub widths_again : (xs ys : List ℕ) → xs ≡ row_widths (length (take (n - 0) old)) cs → take (n - 0) (xs ++ ys) ≡ cell_widths rows
    widths_again xs ys w =
        let f : xs ≡ cell_widths rows = w ∙ (λ i. row_widths ((front_many ∙ q) i) (e i)) in
        front_again xs ys n (widths_many f ∙ sym q) ∙ f

-- numbers at the front of work space
pub numbers_again : (xs ys ws : List ℕ) → xs ≡ numbers_by 0 ws → take (length ws - 0) (xs ++ ys) ≡ numbers_by 0 ws
numbers_again xs ys ws e = front_again xs ys (length ws) (ap (λ (l : List ℕ). length l) e ∙ numbers_length 0 ws) ∙ e
