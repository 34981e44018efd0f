-- Lent tables that were checked, cut into their regions.
use Rattle.ground.specs.declared.Refusal.{Refusal}
use Rattle.std.specs.Prelude.{Result, Ok}
use mathlib.Core.Path.{◌≡◌, ap, ap₂, ◌∙◌}
use mathlib.Core.Bool.{true}
use mathlib.Core.List.{List}
use Prim.Native.Nat.{ℕ, ◌+◌}
use native.Mathlib.Omega.{arith}
use lib.ListN.{take, drop, get_or, length-take, length-drop}
use Rattle.ground.specs.Regions.{part}
use Rattle.netlist.specs.Netlist.{Run}
use Rattle.netlist.specs.Tables.{Tables, tables_in}
use Rattle.netlist.specs.Good.{good, check_of, netlist_in}
use Rattle.netlist.proofs.Laying.{Long}
use Rattle.checking.proofs.Top.{checked_good}
use Rattle.cells.specs.Held.{held_runs}
use Rattle.placing.specs.InTables.{order_in, ring_in}
use Rattle.placing.proofs.Tabled.{good_order, good_ring}
use Rattle.assigning.specs.Rows.{rows_total}
use Rattle.evaluating.proofs.Tables.{pool_held}
use Rattle.translating.specs.InTables.{row_sum, translation_in}
use Rattle.translating.specs.Outcome.{made, translated_of}
use Rattle.translating.specs.Answered.{answered, Answers}
use Rattle.translating.specs.Sound.{Sound}
use Rattle.translating.proofs.Tabled.{sum_shown, translation_shown, sound}
use Rattle.translating.proofs.Ways.{answered_is}

-- the answer for good tables, by their words, is that for their netlist
tables_translated : (T : Tables) → Long T → good T ≡ true → (room work : List ℕ)
    → answered (ring_in T.cells T.runs T.cell_count) (3 + rows_total (row_sum (held_runs T.runs T.run_bits)) T.cell_count T.cells)
    (translation_in T.cells (held_runs T.runs T.run_bits) T.cell_count (order_in T.cells T.runs T.cell_count)) room work
    ≡ translated_of (Rattle.netlist.specs.View.view T) room work
tables_translated T l g room work =
    answered_is (Rattle.netlist.specs.View.view T) _ _ _ room work (good_ring T l g)
    (ap (λ (p : List Run). 3 + rows_total (row_sum p) T.cell_count T.cells) (pool_held T) ∙ sum_shown T g)
    (λ free. ap₂ (λ (p : List Run) (L : List ℕ). translation_in T.cells p T.cell_count L) (pool_held T) (good_order T l g) ∙ translation_shown T g free)

module _ (rows strings bits : List ℕ) (h : check_of rows strings bits ≡ Ok tt) where
  is_good : good (tables_in rows strings bits) ≡ true
  is_good = (checked_good rows strings bits h).1

  long : Long (tables_in rows strings bits)
  unfolding tables_in part
  long = let k = (checked_good rows strings bits h).0 in record {
    metas = simp (length-take, length-drop) (omega (arith, k.rows_long));
    members = simp (length-take, length-drop) (omega (arith, k.rows_long));
    ios = simp (length-take, length-drop) (omega (arith, k.rows_long));
    cells = simp (length-take, length-drop) (omega (arith, k.rows_long));
    runs = simp (length-take, length-drop) (omega (arith, k.rows_long));
    strings = simp length-take (omega (arith, k.strings_long));
    attr_bits = simp length-take (omega (arith, k.bits_long));
    run_bits = simp (length-take, length-drop) (omega (arith, k.bits_long));
  }

  abbrev cells : List ℕ
  cells = take 4608 (drop 9411 rows)

  abbrev runs : List ℕ
  runs = take 12288 (drop 14019 rows)

  abbrev trits : List ℕ
  trits = take 262656 (drop 131072 bits)

  abbrev n : ℕ
  n = get_or rows 2 0

  pub cut_sound : Sound cells runs trits n
  unfolding tables_in part
  cut_sound = sound (tables_in rows strings bits) is_good long

  pub is_translated : (m : ℕ) → m ≡ get_or rows 2 0 → {r : Result ℕ Refusal} {room' work' room work : List ℕ} → Answers cells runs trits m room work r room' work'
      → made r room' work' ≡ translated_of (netlist_in rows strings bits) room work
  unfolding tables_in part
  is_translated m q {r} {room'} {work'} {room} {work} e =
      e.is
      ∙ ap (λ (k : ℕ). answered (ring_in cells runs k) (3 + rows_total (row_sum (held_runs runs trits)) k cells) (translation_in cells (held_runs runs trits) k (order_in cells runs k)) room work) q
      ∙ tables_translated (tables_in rows strings bits) long is_good room work
