-- The limits of Room for a netlist with one cell more.
-- Assumes nothing.
use mathlib.Core.Path.{◌≡◌, refl, sym, ap, ◌∙◌}
use mathlib.Core.Bool.{Bool, true, false, ◌&&◌}
use mathlib.Core.List.{List, [], ◌∷◌, ◌++◌, append_assoc}
use Prim.Native.Nat.{ℕ, zero, suc, ◌+◌, ◌-◌, ◌*◌, ◌<◌, ◌≤◌}
use native.Mathlib.Omega.{arith}
use lib.Dec.{leb}
use lib.ListN.{length, length-append}
use borrow.Author.Tests.{le-leb, leb-true}
use Rattle.ground.specs.Lists.{every, all_of, total, joined}
use Rattle.ground.proofs.Bools.{bool_cases, facts, no_facts}
use Rattle.netlist.specs.Netlist.{Run, Meta, Io, Cell, Netlist, meta_strings, strings_of, cell_runs, runs_of, run_bits_of}
use Rattle.netlist.specs.Rules.{output_bits, short_string, roomy}
use Rattle.netlist.proofs.Laying.{Roomy, roomy_is}
use Rattle.netlist.proofs.Lengths.{run_bits_append}
use Rattle.noting.specs.Noted.{Tallied}
use Rattle.noting.specs.declared.Tally.{Tally}
use Rattle.wiring.proofs.CellLists.{joined_more, total_more, every_last}

abbrev pub with_row : Netlist → Cell → Netlist
with_row N c = record { metas = N.metas; ios = N.ios; cells = N.cells ++ (c ∷ []) }

module _ (N : Netlist) (c : Cell) where
  one_more : length (N.cells ++ (c ∷ [])) ≡ length N.cells + 1
  one_more = length-append N.cells (c ∷ [])

  runs_more : length (runs_of (N.cells ++ (c ∷ []))) ≡ length (runs_of N.cells) + length (cell_runs c)
  runs_more = ap length (joined_more cell_runs N.cells c) ∙ length-append (runs_of N.cells) (cell_runs c)

  known_more : length (run_bits_of (runs_of (N.cells ++ (c ∷ [])))) ≡ length (run_bits_of (runs_of N.cells)) + length (run_bits_of (cell_runs c))
  known_more = ap (λ (rs : List Run). length (run_bits_of rs)) (joined_more cell_runs N.cells c) ∙ run_bits_append (runs_of N.cells) (cell_runs c)

  strings_more : length (strings_of (with_row N c)) ≡ length (strings_of N) + length c.name
  strings_more =
      let ms = meta_strings N.metas in
      let is = joined (λ (i : Io). i.name) N.ios in
      let cs = joined (λ (d : Cell). d.name) N.cells in
      let e : joined (λ (d : Cell). d.name) (N.cells ++ (c ∷ [])) ≡ cs ++ c.name = joined_more (λ (d : Cell). d.name) N.cells c in
      ap (λ (l : List ℕ). length (ms ++ (is ++ l))) e ∙ simp length-append (omega arith)

  -- no limit is passed
  module _ (r : Roomy N) where
    pub roomy_more : length N.cells + 1 ≤ 512 → total (λ (d : Cell). d.width) N.cells + c.width ≤ 4096 → total output_bits N.cells + output_bits c ≤ 4096
        → length (runs_of N.cells) + length (cell_runs c) ≤ 4096 → length c.name ≤ 255 → length (strings_of N) + length c.name ≤ 16384 → roomy (with_row N c) ≡ true
    unfolding roomy
    roomy_more cells bits outputs runs name strings =
        let M = with_row N c in
        let h0 : length M.cells ≤ 512 = omega (arith, one_more) in
        let h1 : total (λ (d : Cell). d.width) M.cells ≤ 4096 = omega (arith, total_more (λ (d : Cell). d.width) N.cells c) in
        let h2 : total output_bits M.cells ≤ 4096 = omega (arith, total_more output_bits N.cells c) in
        let h3 : length (runs_of M.cells) ≤ 4096 = omega (arith, runs_more) in
        let h9 : every (λ (d : Cell). short_string d.name) M.cells ≡ true = every_last (λ (d : Cell). short_string d.name) N.cells c r.cell_strings ∙ le-leb (length c.name) 255 name in
        let h10 : length (strings_of M) ≤ 16384 = omega (arith, strings_more) in
        facts _ _ (le-leb _ _ h0)
        (facts _ _ (le-leb _ _ h1)
        (facts _ _ (le-leb _ _ h2)
        (facts _ _ (le-leb _ _ h3)
        (facts _ _ (le-leb _ _ r.metas)
        (facts _ _ (le-leb _ _ r.members)
        (facts _ _ (le-leb _ _ r.ios)
        (facts _ _ r.meta_strings
        (facts _ _ r.io_strings
        (facts _ _ h9
        (facts _ _ (le-leb _ _ h10) no_facts))))))))))

    -- one is passed
    cramped : (Roomy (with_row N c) → ⊥) → roomy (with_row N c) ≡ false
    cramped h = bool_cases (roomy (with_row N c)) (λ e. absurd (h (roomy_is (with_row N c) e))) (λ e. e)

    pub cells_cramped : 512 ≤ length N.cells → roomy (with_row N c) ≡ false
    cells_cramped h = cramped (λ m. let a = m.cells in omega (arith, one_more))

    pub bits_cramped : 4096 < total (λ (d : Cell). d.width) N.cells + c.width → roomy (with_row N c) ≡ false
    bits_cramped h = cramped (λ m. let a = m.bits in omega (arith, total_more (λ (d : Cell). d.width) N.cells c))

    pub outputs_cramped : 4096 < total output_bits N.cells + output_bits c → roomy (with_row N c) ≡ false
    outputs_cramped h = cramped (λ m. let a = m.outputs in omega (arith, total_more output_bits N.cells c))

    pub runs_cramped : 4096 < length (runs_of N.cells) + length (cell_runs c) → roomy (with_row N c) ≡ false
    runs_cramped h = cramped (λ m. let a = m.runs in omega (arith, runs_more))

    pub name_cramped : 255 < length c.name → roomy (with_row N c) ≡ false
    name_cramped h = cramped (λ m.
        let a : leb (length c.name) 255 ≡ true = sym (every_last (λ (d : Cell). short_string d.name) N.cells c r.cell_strings) ∙ m.cell_strings in
        omega (arith, leb-true (length c.name) 255 a))

    pub strings_cramped : 16384 < length (strings_of N) + length c.name → roomy (with_row N c) ≡ false
    strings_cramped h = cramped (λ m. let a = m.strings in omega (arith, strings_more))

-- THE TALLY with one cell more
pub tallied_more : (N : Netlist) (c : Cell) (n m : Tally) → Tallied N n → roomy (with_row N c) ≡ true
    → m.metas ≡ n.metas → m.ios ≡ n.ios → m.cells ≡ n.cells + 1 → m.members ≡ n.members → m.trits ≡ n.trits
    → m.runs ≡ n.runs + length (cell_runs c) → m.known ≡ n.known + length (run_bits_of (cell_runs c))
    → m.declared ≡ n.declared + c.width → m.outputs ≡ n.outputs + output_bits c → m.strings ≡ n.strings + length c.name
    → Tallied (with_row N c) m
tallied_more N c n m t room metas ios cells members trits runs known declared outputs strings = record {
  metas = metas ∙ t.metas;
  ios = ios ∙ t.ios;
  cells = omega (arith, t.cells, one_more N c);
  members = members ∙ t.members;
  trits = trits ∙ t.trits;
  runs = omega (arith, t.runs, runs_more N c);
  known = omega (arith, t.known, known_more N c);
  declared = omega (arith, t.declared, total_more (λ (d : Cell). d.width) N.cells c);
  outputs = omega (arith, t.outputs, total_more output_bits N.cells c);
  strings = omega (arith, t.strings, strings_more N c);
  roomy = room;
}
