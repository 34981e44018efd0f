-- Good tables are the layouts of valid netlists, each of just one.
use mathlib.Core.Path.{◌≡◌, refl, ap, ◌∙◌, sym, subst}
use mathlib.Core.Bool.{Bool, true, false, ◌&&◌}
use mathlib.Core.List.{List, [], ◌∷◌, ◌++◌, append_assoc}
use Prim.Native.Nat.{ℕ, zero, suc, ◌+◌, ◌-◌, ◌≤◌}
use native.Mathlib.Omega.{arith}
use native.Mathlib.Nat.{zero-add}
use lib.Dec.{leb}
use lib.ListN.{length, drop, take, length-append, length-take, length-drop}
use lib.Seq.{drop-append_seam}
use borrow.Author.Tests.{leb-true, le-leb}
use Rattle.ground.specs.Lists.{every, all_of, total, joined}
use Rattle.ground.specs.Regions.{part, pad, zeros, fits}
use Rattle.ground.proofs.Bools.{and_true, fact, facts, no_facts}
use Rattle.ground.proofs.Regions.{fits_pad, fits_at, part_length, length_pad, part_front, part_next}
use Rattle.netlist.specs.Netlist.{Run, Meta, Io, Cell, Netlist, meta_strings, strings_of, members_of, attr_bits_of, runs_of, run_bits_of}
use Rattle.netlist.specs.Rules.{short_string, output_bits, roomy, metas_sound, cell_sound, widths_of, valid}
use Rattle.netlist.specs.Tables.{Tables, meta_rows, io_rows, cell_rows, run_rows, io_start, cell_start, layout, tables_in, rows_of, bits_of}
use Rattle.netlist.specs.View.{metas_in, ios_in, runs_in, cells_in, pool_in, view}
use Rattle.netlist.specs.Good.{laid, good}
use Rattle.netlist.proofs.Back.{metas_back, ios_back, runs_back, cells_back}

-- what the limits say
pub record Roomy (N : Netlist) : Type 0 where
  pub cells : length N.cells ≤ 512
  pub bits : total (λ (c : Cell). c.width) N.cells ≤ 4096
  pub outputs : total output_bits N.cells ≤ 4096
  pub runs : length (runs_of N.cells) ≤ 4096
  pub metas : length N.metas ≤ 512
  pub members : length (members_of N.metas) ≤ 1024
  pub ios : length N.ios ≤ 64
  pub meta_strings : every (λ (m : Meta). short_string m.name && short_string m.text) N.metas ≡ true
  pub io_strings : every (λ (i : Io). short_string i.name) N.ios ≡ true
  pub cell_strings : every (λ (c : Cell). short_string c.name) N.cells ≡ true
  pub strings : length (strings_of N) ≤ 16384

pub roomy_is : (N : Netlist) → roomy N ≡ true → Roomy N
unfolding roomy
roomy_is N h =
    record {
      cells = leb-true _ _ (fact _ h 0);
      bits = leb-true _ _ (fact _ h 1);
      outputs = leb-true _ _ (fact _ h 2);
      runs = leb-true _ _ (fact _ h 3);
      metas = leb-true _ _ (fact _ h 4);
      members = leb-true _ _ (fact _ h 5);
      ios = leb-true _ _ (fact _ h 6);
      meta_strings = fact _ h 7;
      io_strings = fact _ h 8;
      cell_strings = fact _ h 9;
      strings = leb-true _ _ (fact _ h 10);
    }

pub is_roomy : (N : Netlist) → Roomy N → roomy N ≡ true
unfolding roomy
is_roomy N r =
    facts _ _ (le-leb _ _ r.cells)
    (facts _ _ (le-leb _ _ r.bits)
    (facts _ _ (le-leb _ _ r.outputs)
    (facts _ _ (le-leb _ _ r.runs)
    (facts _ _ (le-leb _ _ r.metas)
    (facts _ _ (le-leb _ _ r.members)
    (facts _ _ (le-leb _ _ r.ios)
    (facts _ _ r.meta_strings
    (facts _ _ r.io_strings
    (facts _ _ r.cell_strings
    (facts _ _ (le-leb _ _ r.strings) no_facts))))))))))

-- the strings are those of metadata, I/O and cells
pub strings_long : (N : Netlist) → length (strings_of N) ≡ length (meta_strings N.metas) + length (joined (λ (i : Io). i.name) N.ios) + length (joined (λ (c : Cell). c.name) N.cells)
strings_long N =
    let is = joined (λ (i : Io). i.name) N.ios in
    let cs = joined (λ (c : Cell). c.name) N.cells in
    omega (arith, length-append (meta_strings N.metas) (is ++ cs), length-append is cs)

pub valid_roomy : (N : Netlist) → valid N ≡ true → Roomy N
unfolding valid
valid_roomy N v = roomy_is N (fact _ v 0)

pub valid_metas : (N : Netlist) → valid N ≡ true → metas_sound [] N.metas ≡ true
unfolding valid
valid_metas N v = fact _ v 1

pub valid_cells : (N : Netlist) → valid N ≡ true → every (cell_sound (widths_of N.cells) (length N.metas)) N.cells ≡ true
unfolding valid
valid_cells N v = fact _ v 4

abbrev netlist : List Meta → List Io → List Cell → Netlist
netlist ms is cs = record { metas = ms; ios = is; cells = cs }

-- THE VIEW OF A LAYOUT IS THE NETLIST
pub view_layout : (N : Netlist) → valid N ≡ true → view (layout N) ≡ N
unfolding view layout pad
view_layout N v =
    let w = valid_roomy N v in
    let T = layout N in
    let is = joined (λ (i : Io). i.name) N.ios in
    let cs = joined (λ (c : Cell). c.name) N.cells in
    let z = zeros (16384 - length (strings_of N)) in
    let s : T.strings ≡ meta_strings N.metas ++ (is ++ (cs ++ z)) = simp append_assoc in
    let t : drop (io_start N) T.strings ≡ is ++ (cs ++ z) = rw (s, drop-append_seam) in
    let u : drop (cell_start N) T.strings ≡ cs ++ z = part_next T.strings (io_start N) is (cs ++ z) t in
    let m = metas_back T N.metas 0 0 0 (zeros (8192 - length (meta_rows 0 0 0 N.metas))) _ _ _ s refl refl in
    let i = ios_back T N.ios (io_start N) (zeros (192 - length (io_rows (io_start N) N.ios))) _ t in
    let e : 4096 ≡ length (runs_of N.cells) + (4096 - length (runs_of N.cells)) = omega (arith, w.runs) in
    let p = runs_back T (runs_of N.cells) 0 (4096 - length (runs_of N.cells)) (zeros (12288 - length (run_rows 0 (runs_of N.cells)))) _ refl in
    let c = cells_back T (pool_in T) N.cells (cell_start N) 0 (zeros (4608 - length (cell_rows (cell_start N) 0 N.cells))) _ _ u (rw (← e) at p) in
    λ k. netlist (m k) (i k) (c k)

pub laid_layout : (N : Netlist) → laid N (layout N) ≡ true
unfolding laid layout all_of
laid_layout N =
    rw (
      fits_pad (meta_rows 0 0 0 N.metas) 8192,
      fits_pad (members_of N.metas) 1024,
      fits_pad (io_rows (io_start N) N.ios) 192,
      fits_pad (cell_rows (cell_start N) 0 N.cells) 4608,
      fits_pad (run_rows 0 (runs_of N.cells)) 12288,
      fits_pad (strings_of N) 16384,
      fits_pad (attr_bits_of N.metas) 131072,
      fits_pad (run_bits_of (runs_of N.cells)) 262656,
    )

-- tables whose regions have their lengths
pub record Long (T : Tables) : Type 0 where
  pub metas : length T.metas ≡ 8192
  pub members : length T.members ≡ 1024
  pub ios : length T.ios ≡ 192
  pub cells : length T.cells ≡ 4608
  pub runs : length T.runs ≡ 12288
  pub strings : length T.strings ≡ 16384
  pub attr_bits : length T.attr_bits ≡ 131072
  pub run_bits : length T.run_bits ≡ 262656

module _ (T : Tables) where
  length_metas_in : (n : ℕ) (t : List ℕ) → length (metas_in T n t) ≡ n
  unfolding metas_in
  length_metas_in zero t = refl
  length_metas_in (suc n) t = ap suc (length_metas_in n (drop 16 t))

  length_ios_in : (n : ℕ) (t : List ℕ) → length (ios_in T n t) ≡ n
  unfolding ios_in
  length_ios_in zero t = refl
  length_ios_in (suc n) t = ap suc (length_ios_in n (drop 3 t))

  length_cells_in : (pool : List Run) (n : ℕ) (t : List ℕ) → length (cells_in T pool n t) ≡ n
  unfolding cells_in
  length_cells_in pool zero t = refl
  length_cells_in pool (suc n) t = ap suc (length_cells_in pool n (drop 9 t))

abbrev tables : ℕ → ℕ → ℕ → List ℕ → List ℕ → List ℕ → List ℕ → List ℕ → List ℕ → List ℕ → List ℕ → Tables
tables nm ni nc ms me is cs rs ss ab rb =
    record { meta_count = nm; io_count = ni; cell_count = nc; metas = ms; members = me; ios = is; cells = cs; runs = rs; strings = ss; attr_bits = ab; run_bits = rb }

pub tables_eq : (T U : Tables) → T.meta_count ≡ U.meta_count → T.io_count ≡ U.io_count → T.cell_count ≡ U.cell_count
    → T.metas ≡ U.metas → T.members ≡ U.members → T.ios ≡ U.ios → T.cells ≡ U.cells → T.runs ≡ U.runs
    → T.strings ≡ U.strings → T.attr_bits ≡ U.attr_bits → T.run_bits ≡ U.run_bits → T ≡ U
tables_eq T U a b c d e f g h i j k = λ x. tables (a x) (b x) (c x) (d x) (e x) (f x) (g x) (h x) (i x) (j x) (k x)

-- what is laid as the netlist that it shows is that netlist's layout
pub laid_is : (T : Tables) → Long T → laid (view T) T ≡ true → T ≡ layout (view T)
unfolding laid layout view
laid_is T l h =
    tables_eq T (layout (view T))
    (sym (length_metas_in T T.meta_count T.metas)) (sym (length_ios_in T T.io_count T.ios)) (sym (length_cells_in T (pool_in T) T.cell_count T.cells))
    (fits_at 8192 _ _ l.metas (fact _ h 0)) (fits_at 1024 _ _ l.members (fact _ h 1)) (fits_at 192 _ _ l.ios (fact _ h 2)) (fits_at 4608 _ _ l.cells (fact _ h 3))
    (fits_at 12288 _ _ l.runs (fact _ h 4)) (fits_at 16384 _ _ l.strings (fact _ h 5)) (fits_at 131072 _ _ l.attr_bits (fact _ h 6)) (fits_at 262656 _ _ l.run_bits (fact _ h 7))

-- GOOD TABLES ARE THE LAYOUTS OF VALID NETLISTS
pub record Layout (T : Tables) : Type 0 where
  pub of : Netlist
  pub valid : valid of ≡ true
  pub is : T ≡ layout of

pub good_layout : (N : Netlist) → valid N ≡ true → good (layout N) ≡ true
unfolding good
good_layout N v = rw (view_layout N v, laid_layout N, v)

pub good_is : (T : Tables) → Long T → good T ≡ true → Layout T
unfolding good
good_is T l h = let p = and_true _ _ h in record { of = view T; valid = p.1; is = laid_is T l p.0 }

pub layout_good : (T : Tables) → Layout T → good T ≡ true
layout_good T w = rw w.is (good_layout w.of w.valid)

-- and each of one
pub layout_one : (M N : Netlist) → valid M ≡ true → valid N ≡ true → layout M ≡ layout N → M ≡ N
layout_one M N v w e = sym (view_layout M v) ∙ ap view e ∙ view_layout N w
