-- The regions of a layout have their lengths, and constant trits never run out of room.
use mathlib.Core.Path.{◌≡◌, refl, ap, ◌∙◌, sym}
use mathlib.Core.Bool.{Bool, true, false, not, ◌&&◌, ◌||◌}
use mathlib.Core.List.{List, [], ◌∷◌, ◌++◌}
use Prim.Native.Nat.{ℕ, zero, suc, ◌+◌, ◌-◌, ◌*◌, ◌<◌, ◌≤◌}
use native.Mathlib.Omega.{arith}
use lib.Dec.{eqb, leb, eqb-suc-zero}
use lib.ListN.{length, length-append}
use borrow.Author.Tests.{eqb-true, leb-true}
use Rattle.ground.specs.Lists.{every, total, joined}
use Rattle.ground.proofs.Bools.{bool_cases, and_true, never_both, fact}
use Rattle.ground.proofs.Regions.{length_pad}
use Rattle.kinds.specs.Kinds.{kind_at, wide}
use Rattle.kinds.proofs.Widths.{Fits, bounded, wide_is}
use Rattle.netlist.specs.Netlist.{Run, const, piece, Meta, Io, Cell, Netlist, bits_meta, run_width, operand_width, members_of, attr_bits_of, cell_runs, runs_of, bits_in, run_bits_of}
use Rattle.netlist.specs.Rules.{runless, meta_sound, metas_sound, cell_width, operand_sound, cell_sound, widths_of, valid}
use Rattle.netlist.specs.Tables.{Tables, meta_row, meta_rows, io_row, io_rows, cell_row, cell_rows, run_row, run_rows, io_start, cell_start, layout}
use Rattle.netlist.proofs.Laying.{Roomy, valid_roomy, valid_metas, valid_cells, Long}

-- ROWS
pub length_meta_rows : (s m b : ℕ) (ms : List Meta) → length (meta_rows s m b ms) ≡ length ms * 16
unfolding meta_rows
length_meta_rows s m b [] = refl
length_meta_rows s m b (x ∷ ms) = omega (arith, length_meta_rows (s + length (x.name ++ x.text)) (m + length x.members) (b + length x.bits) ms)

pub length_io_rows : (s : ℕ) (is : List Io) → length (io_rows s is) ≡ length is * 3
unfolding io_rows
length_io_rows s [] = refl
length_io_rows s (i ∷ is) = omega (arith, length_io_rows (s + length i.name) is)

pub length_cell_rows : (s r : ℕ) (cs : List Cell) → length (cell_rows s r cs) ≡ length cs * 9
unfolding cell_rows
length_cell_rows s r [] = refl
length_cell_rows s r (c ∷ cs) = omega (arith, length_cell_rows (s + length c.name) (r + length (cell_runs c)) cs)

pub length_run_rows : (b : ℕ) (rs : List Run) → length (run_rows b rs) ≡ length rs * 3
unfolding run_rows
length_run_rows b [] = refl
length_run_rows b (const ts ∷ rs) = omega (arith, length_run_rows (b + length ts) rs)
length_run_rows b (piece row o w ∷ rs) = omega (arith, length_run_rows (b + 0) rs)

-- TRITS OF ATTRIBUTES: 256 a row at most
attr_bound : (kind n : ℕ) → eqb kind bits_meta || eqb n 0 ≡ true → not (eqb kind bits_meta) || wide n ≡ true → n ≤ 256
attr_bound kind n s w = bool_cases (eqb kind bits_meta)
    (λ e. omega (arith, wide_is n (rw e at w)))
    (λ e. omega (arith, eqb-true n 0 (rw e at s)))

meta_bound : (kinds : List ℕ) (m : Meta) → meta_sound kinds m ≡ true → length m.bits ≤ 256
meta_bound kinds m h = attr_bound m.kind (length m.bits) (fact _ (fact _ h 0) 4) (fact _ h 4)

pub attrs_bound : (kinds : List ℕ) (ms : List Meta) → metas_sound kinds ms ≡ true → length (attr_bits_of ms) ≤ length ms * 256
unfolding metas_sound joined
attrs_bound kinds [] h = omega arith
attrs_bound kinds (m ∷ ms) h = bool_cases (meta_sound kinds m)
    (λ e. omega (arith, length-append m.bits (attr_bits_of ms), meta_bound kinds m e, attrs_bound (kinds ++ (m.kind ∷ [])) ms (rw (e, metas_sound) at h)))
    (λ e. never_both (rw (e, metas_sound) at h) refl)

-- TRITS OF RUNS: a cell's constants are no wider than its operands, which are at most 513 wide in all
trits_bound : (rs : List Run) → length (run_bits_of rs) ≤ operand_width rs
unfolding joined total
trits_bound [] = omega arith
trits_bound (const ts ∷ rs) = omega (arith, length-append ts (run_bits_of rs), trits_bound rs)
trits_bound (piece row o w ∷ rs) = omega (arith, trits_bound rs)

pub run_bits_append : (rs qs : List Run) → length (run_bits_of (rs ++ qs)) ≡ length (run_bits_of rs) + length (run_bits_of qs)
unfolding joined
run_bits_append [] qs = omega arith
run_bits_append (r ∷ rs) qs = omega (arith, length-append (bits_in r) (run_bits_of (rs ++ qs)), length-append (bits_in r) (run_bits_of rs), run_bits_append rs qs)

unused : (n : ℕ) (rs : List Run) (k : ℕ) → leb (suc n) k || runless rs ≡ true → k < suc n → operand_width rs ≡ 0
unfolding total
unused n [] k h l = refl
unused n (r ∷ rs) k h l = bool_cases (leb (suc n) k) (λ e. absurd (omega (arith, leb-true (suc n) k e))) (λ e. never_both {b = runless (r ∷ rs)} (rw e at h) (eqb-suc-zero (length rs)))

-- the widths of a sound cell's operands pass its kind's rule
pub cell_fits : (widths : List ℕ) (metas : ℕ) (c : Cell) → cell_sound widths metas c ≡ true → Fits (kind_at c.kind) c.width (operand_width c.a) (operand_width c.b) (operand_width c.c)
cell_fits widths metas c h = record {
  widths = fact _ h 7;
  first = unused 0 c.a _ (fact _ h 4);
  second = unused 1 c.b _ (fact _ h 5);
  third = unused 2 c.c _ (fact _ h 6);
}

cell_bound : (widths : List ℕ) (metas : ℕ) (c : Cell) → cell_sound widths metas c ≡ true → length (run_bits_of (cell_runs c)) ≤ 513
cell_bound widths metas c h =
    omega (
      arith,
      run_bits_append c.a (c.b ++ c.c),
      run_bits_append c.b c.c,
      trits_bound c.a,
      trits_bound c.b,
      trits_bound c.c,
      bounded c.kind c.width (operand_width c.a) (operand_width c.b) (operand_width c.c) (cell_fits widths metas c h),
    )

pub trits_room : (widths : List ℕ) (metas : ℕ) (cs : List Cell) → every (cell_sound widths metas) cs ≡ true → length (run_bits_of (runs_of cs)) ≤ length cs * 513
unfolding every joined
trits_room widths metas [] h = omega arith
trits_room widths metas (c ∷ cs) h = bool_cases (cell_sound widths metas c)
    (λ e. omega (arith, run_bits_append (cell_runs c) (runs_of cs), cell_bound widths metas c e, trits_room widths metas cs (rw (e, every) at h)))
    (λ e. never_both (rw (e, every) at h) refl)

-- THE REGIONS OF A LAYOUT have their lengths
pub layout_long : (N : Netlist) → valid N ≡ true → Long (layout N)
unfolding layout
layout_long N v =
    let w = valid_roomy N v in
    let a : metas_sound [] N.metas ≡ true = valid_metas N v in
    let c : every (cell_sound (widths_of N.cells) (length N.metas)) N.cells ≡ true = valid_cells N v in
    record {
      metas = length_pad 8192 _ (omega (arith, length_meta_rows 0 0 0 N.metas, w.metas));
      members = length_pad 1024 _ w.members;
      ios = length_pad 192 _ (omega (arith, length_io_rows (io_start N) N.ios, w.ios));
      cells = length_pad 4608 _ (omega (arith, length_cell_rows (cell_start N) 0 N.cells, w.cells));
      runs = length_pad 12288 _ (omega (arith, length_run_rows 0 (runs_of N.cells), w.runs));
      strings = length_pad 16384 _ w.strings;
      attr_bits = length_pad 131072 _ (omega (arith, attrs_bound [] N.metas a, w.metas));
      run_bits = length_pad 262656 _ (omega (arith, trits_room (widths_of N.cells) (length N.metas) N.cells c, w.cells));
    }
