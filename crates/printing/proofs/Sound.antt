-- Good tables have what printing asks.
use Prim.Native.Nat.{ℕ, ◌≤◌}
use mathlib.Core.Path.{◌≡◌, refl, sym, ap, ◌∙◌}
use mathlib.Core.Bool.{Bool, true}
use mathlib.Core.List.{List, [], ◌∷◌, ◌++◌}
use native.Mathlib.Omega.{arith}
use lib.Dec.{leb}
use lib.ListN.{length}
use borrow.Author.Tests.{le-leb}
use Rattle.ground.specs.Lists.{every, total}
use Rattle.ground.proofs.Bools.{bool_cases, never_both, and_true, fact, every_first, every_more}
use Rattle.netlist.specs.Netlist.{Run, const, piece, Meta, Cell, cell_runs, runs_of, bits_in, run_bits_of, attr_bits_of}
use Rattle.netlist.specs.Rules.{is_trit, run_sound, operand_sound, meta_sound, metas_sound, cell_sound, widths_of, valid}
use Rattle.netlist.specs.Runs.{longest}
use Rattle.netlist.specs.Tables.{Tables}
use Rattle.netlist.specs.View.{pool_in, view}
use Rattle.netlist.specs.Good.{laid, good}
use Rattle.netlist.proofs.Laying.{Long, valid_roomy, valid_metas, valid_cells}
use Rattle.numbering.specs.Numbers.{narrow}
use Rattle.numbering.proofs.Laws.{widths_of_lem}
use Rattle.printing.specs.Whole.{Sound}
use Rattle.printing.proofs.Trits.{every_joins, joined_every, fits_every}
use Rattle.printing.proofs.Whole.{metas_many, ios_many, cells_many}

-- what passes one test passes another
every_gives : {A : Type 0} (p q : A → Bool) → ((x : A) → p x ≡ true → q x ≡ true) → (xs : List A) → every p xs ≡ true → every q xs ≡ true
unfolding every
every_gives p q f [] h = refl
every_gives p q f (x ∷ xs) h = let k = every_first p x xs h in every_more q x xs (f x k.0) (every_gives p q f xs k.1)

-- the trits of sound metadata
meta_trits : (kinds : List ℕ) (ms : List Meta) → metas_sound kinds ms ≡ true → every (λ (m : Meta). every is_trit m.bits) ms ≡ true
unfolding metas_sound every
meta_trits kinds [] h = refl
meta_trits kinds (m ∷ ms) h = bool_cases (meta_sound kinds m)
    (λ e. every_more (λ (x : Meta). every is_trit x.bits) m ms (fact _ (fact _ e 1) 2) (meta_trits (kinds ++ (m.kind ∷ [])) ms (rw (e, metas_sound) at h)))
    (λ e. never_both (rw (e, metas_sound) at h) refl)

-- and of sound cells
abbrev trit_run : Run → Bool
trit_run r = every is_trit (bits_in r)

run_trits : (widths : List ℕ) (r : Run) → run_sound widths r ≡ true → trit_run r ≡ true
unfolding every
run_trits widths (const ts) h = (and_true (leb 1 (length ts)) (every is_trit ts) h).1
run_trits widths (piece row o w) h = refl

operand_trits : (widths : List ℕ) (rs : List Run) → operand_sound widths rs ≡ true → every trit_run rs ≡ true
operand_trits widths rs h = every_gives (run_sound widths) trit_run (run_trits widths) rs (and_true (every (run_sound widths) rs) (longest rs) h).0

cell_trits : (widths : List ℕ) (metas : ℕ) (c : Cell) → cell_sound widths metas c ≡ true → every trit_run (cell_runs c) ≡ true
cell_trits widths metas c h =
    every_joins trit_run c.a (c.b ++ c.c) (operand_trits widths c.a (fact _ h 8))
    (every_joins trit_run c.b c.c (operand_trits widths c.b (fact _ h 9)) (operand_trits widths c.c (fact _ h 10)))

-- no cell is wider than all together
each_narrow : (cs : List Cell) → total (λ (c : Cell). c.width) cs ≤ 4096 → every narrow (widths_of cs) ≡ true
unfolding total every
each_narrow [] h = refl
each_narrow (c ∷ cs) h = every_more narrow c.width (widths_of cs) (le-leb c.width 4096 (omega arith)) (each_narrow cs (omega arith))

-- GOOD TABLES ARE SOUND
pub good_sound : (T : Tables) → Long T → good T ≡ true → Sound T
unfolding good laid view
good_sound T l g =
    let p = and_true (laid (view T) T) (valid (view T)) g in
    let v = p.1 in
    let w = valid_roomy (view T) v in
    let N = view T in
    let m : length N.metas ≤ 512 = w.metas in
    let o : length N.ios ≤ 64 = w.ios in
    let c : length N.cells ≤ 512 = w.cells in
    let at : every is_trit (attr_bits_of N.metas) ≡ true = joined_every is_trit (λ (x : Meta). x.bits) N.metas (meta_trits [] N.metas (valid_metas (view T) v)) in
    let ct : every trit_run (runs_of N.cells) ≡ true = joined_every trit_run cell_runs N.cells (every_gives _ _ (cell_trits _ _) N.cells (valid_cells (view T) v)) in
    let rt : every is_trit (run_bits_of (runs_of N.cells)) ≡ true = joined_every is_trit bits_in (runs_of N.cells) ct in
    record {
      metas = l.metas;
      ios = l.ios;
      cells = l.cells;
      runs = l.runs;
      few = (omega (arith, m, metas_many T T.meta_count T.metas), omega (arith, o, ios_many T T.io_count T.ios), omega (arith, c, cells_many T (pool_in T) T.cell_count T.cells));
      trits = (fits_every is_trit refl (attr_bits_of N.metas) T.attr_bits at (fact _ p.0 6), fits_every is_trit refl (run_bits_of (runs_of N.cells)) T.run_bits rt (fact _ p.0 7));
      widths = ap (every narrow) (sym (widths_of_lem T (pool_in T) T.cell_count T.cells)) ∙ each_narrow N.cells w.bits;
    }
