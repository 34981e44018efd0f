-- When all is settled, the slices are the layout of the netlist that the text says.
use mathlib.Core.Path.{◌≡◌, refl, sym, ap, ap₂, ◌∙◌}
use mathlib.Core.List.{List, [], ◌∷◌, ◌++◌, map}
use Prim.Native.Nat.{ℕ, suc, ◌+◌, ◌-◌, ◌*◌, ◌<◌, ◌≤◌}
use native.Mathlib.Omega.{arith}
use lib.ListN.{length, take, drop, get_or, length-append, length-take, length-drop}
use lib.Seq.{take_all, take-add, drop-cons, drop-drop}
use Rattle.ground.specs.Lists.{joined}
use Rattle.ground.specs.Regions.{pad, part}
use Rattle.ground.proofs.Counts.{length_mapped}
use Rattle.netlist.specs.Netlist.{Run, const, piece, Cell, Netlist, strings_of, meta_strings, members_of, attr_bits_of, cell_runs, runs_of, bits_in, run_bits_of}
use Rattle.netlist.specs.Tables.{meta_rows, io_rows, cell_row, cell_rows, run_rows, io_start, cell_start, layout, rows_of, bits_of}
use Rattle.saying.specs.Values.{row_run, row_cell}
use Rattle.saying.specs.Rules.{Sofar}
use Rattle.noting.specs.Noted.{metas_in, members_in, ios_in, cells_in, runs_in, attr_trits_in, run_trits_in}
use Rattle.declaring.specs.Reading.{netlist_of}
use Rattle.finishing.specs.Finish.{Settled}

-- ROWS FOR NUMBERS change no length, no name and no trit
module _ (numbers : List ℕ) where
  map_append : (rs qs : List Run) → map (row_run numbers) (rs ++ qs) ≡ map (row_run numbers) rs ++ map (row_run numbers) qs
  map_append [] qs = refl
  map_append (r ∷ rs) qs = ap (λ (l : List Run). row_run numbers r ∷ l) (map_append rs qs)

  pub runs_rowed : (cs : List Cell) → runs_of (map (row_cell numbers) cs) ≡ map (row_run numbers) (runs_of cs)
  unfolding joined
  runs_rowed [] = refl
  runs_rowed (c ∷ cs) =
      ap₂ (λ (x y : List Run). x ++ y) (sym (map_append c.a (c.b ++ c.c) ∙ ap (λ (l : List Run). map (row_run numbers) c.a ++ l) (map_append c.b c.c))) (runs_rowed cs)
      ∙ sym (map_append (cell_runs c) (runs_of cs))

  pub trits_rowed : (rs : List Run) → run_bits_of (map (row_run numbers) rs) ≡ run_bits_of rs
  unfolding joined
  trits_rowed [] = refl
  trits_rowed (const ts ∷ rs) = ap (λ (l : List ℕ). ts ++ l) (trits_rowed rs)
  trits_rowed (piece n o w ∷ rs) = trits_rowed rs

  runs_long : (c : Cell) → length (cell_runs (row_cell numbers c)) ≡ length (cell_runs c)
  runs_long c =
      let m = length_mapped (row_run numbers) in
      length-append (row_cell numbers c).a ((row_cell numbers c).b ++ (row_cell numbers c).c)
      ∙ omega (arith, length-append (row_cell numbers c).b (row_cell numbers c).c, m c.a, m c.b, m c.c, length-append c.a (c.b ++ c.c), length-append c.b c.c)

  pub cells_rowed : (s r : ℕ) (cs : List Cell) → cell_rows s r (map (row_cell numbers) cs) ≡ cell_rows s r cs
  unfolding cell_rows
  cells_rowed s r [] = refl
  cells_rowed s r (c ∷ cs) =
      let m = length_mapped (row_run numbers) in
      rw (m c.a, m c.b, m c.c, runs_long c) (ap (λ (l : List ℕ). cell_row s r c ++ l) (cells_rowed (s + length c.name) (r + length (cell_runs c)) cs))

  pub names_rowed : (cs : List Cell) → joined (λ (c : Cell). c.name) (map (row_cell numbers) cs) ≡ joined (λ (c : Cell). c.name) cs
  unfolding joined
  names_rowed [] = refl
  names_rowed (c ∷ cs) = ap (λ (l : List ℕ). c.name ++ l) (names_rowed cs)

-- A SLICE is its regions, one behind the other
regions : (l : List ℕ) (s n m : ℕ) → part s (n + m) l ≡ part s n l ++ part (s + n) m l
unfolding part
regions l s n m = take-add n m (drop s l) ∙ ap (λ (t : List ℕ). take n (drop s l) ++ take m t) (drop-drop n s l)

whole_part : (l : List ℕ) (n : ℕ) → length l ≡ n → part 0 n l ≡ l
unfolding part
whole_part l n e = take_all n l (omega arith)

three : (l : List ℕ) → 3 ≤ length l → l ≡ get_or l 0 0 ∷ get_or l 1 0 ∷ get_or l 2 0 ∷ drop 3 l
three [] h = absurd (omega arith)
three (x ∷ []) h = absurd (omega arith)
three (x ∷ y ∷ []) h = absurd (omega arith)
three (x ∷ y ∷ z ∷ l) h = refl

last : (l : List ℕ) → length l ≡ 26307 → part 3 26304 l ≡ drop 3 l
unfolding part
last l e = take_all 26304 (drop 3 l) (rw length-drop (omega arith))

rows_regions : (l : List ℕ) → length l ≡ 26307 → drop 3 l ≡ metas_in l ++ (members_in l ++ (ios_in l ++ (cells_in l ++ runs_in l)))
rows_regions l e =
    let all : part 3 26304 l ≡ drop 3 l = last l e in
    sym all ∙ regions l 3 8192 18112 ∙ ap (λ (t : List ℕ). metas_in l ++ t)
    (regions l 8195 1024 17088 ∙ ap (λ (t : List ℕ). members_in l ++ t)
    (regions l 9219 192 16896 ∙ ap (λ (t : List ℕ). ios_in l ++ t)
    (regions l 9411 4608 12288)))

module _ (so : Sofar) (rows strings bits : List ℕ) (d : Settled so rows strings bits) where
  pub rows_final : rows ≡ rows_of (layout (netlist_of so))
  unfolding rows_of layout netlist_of
  rows_final =
      let cs = so.netlist.cells in
      let ns = so.cell_numbers in
      three rows (omega (arith, d.long_rows))
      ∙ rw (
        rows_regions rows d.long_rows,
        d.meta_count,
        d.io_count,
        d.cell_count,
        d.metas,
        d.members,
        d.ios,
        d.cells,
        d.runs,
        length_mapped (row_cell ns) cs,
        cells_rowed ns (cell_start so.netlist) 0 cs,
        runs_rowed ns cs,
      )

  pub bits_final : bits ≡ bits_of (layout (netlist_of so))
  unfolding bits_of layout netlist_of
  bits_final =
      let cs = so.netlist.cells in
      let ns = so.cell_numbers in
      sym (whole_part bits 393728 d.long_bits) ∙ regions bits 0 131072 262656
      ∙ rw (d.attr_trits, d.run_trits, runs_rowed ns cs, trits_rowed ns (runs_of cs))

  pub strings_final : strings ≡ (layout (netlist_of so)).strings
  unfolding layout netlist_of
  strings_final = d.strings ∙ rw (names_rowed so.cell_numbers so.netlist.cells)
