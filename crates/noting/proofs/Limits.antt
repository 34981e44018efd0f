-- The limits of Room, for a netlist with one I/O row or one row of metadata more.
use mathlib.Core.Path.{◌≡◌, refl, sym, ap, ◌∙◌}
use mathlib.Core.Bool.{Bool, true, false, ◌&&◌}
use mathlib.Core.List.{List, [], ◌∷◌, ◌++◌}
use Prim.Native.Nat.{ℕ, zero, suc, ◌+◌, ◌*◌, ◌<◌, ◌≤◌}
use native.Mathlib.Omega.{arith}
use lib.Dec.{leb}
use lib.ListN.{length, length-append}
use borrow.Author.Tests.{leb-true, le-leb}
use Rattle.ground.specs.Lists.{joined, every, all_of, total}
use Rattle.ground.proofs.Bools.{bool_cases, facts, and_true, true_and}
use Rattle.netlist.specs.Netlist.{Meta, Io, Cell, Netlist, meta_strings, strings_of, members_of, attr_bits_of}
use Rattle.netlist.specs.Rules.{short_string, output_bits, roomy}
use Rattle.netlist.proofs.Laying.{Roomy, roomy_is, is_roomy}
use Rattle.saying.specs.Rules.{Sofar}
use Rattle.noting.specs.Noted.{Tallied}
use Rattle.noting.specs.Rulings.{io_more, meta_more}
use Rattle.noting.specs.declared.Tally.{Tally}
use Rattle.noting.proofs.Growing.{joined_last, joined_long, length_last, every_last, last_of_every}

-- a limit that is passed
pub not_roomy : (N : Netlist) → (Roomy N → ⊥) → roomy N ≡ false
not_roomy N f = bool_cases (roomy N) (λ e. absurd (f (roomy_is N e))) (λ e. e)

-- AN I/O ROW MORE
module _ (N : Netlist) (i : Io) where
  pub io_strings_lem : length (strings_of (io_more N i)) ≡ length (strings_of N) + length i.name
  io_strings_lem =
      length-append (meta_strings N.metas) (joined (λ (i : Io). i.name) (N.ios ++ (i ∷ [])) ++ joined (λ (c : Cell). c.name) N.cells)
      ∙ omega (
        arith,
        length-append (joined (λ (i : Io). i.name) (N.ios ++ (i ∷ []))) (joined (λ (c : Cell). c.name) N.cells),
        joined_long (λ (i : Io). i.name) N.ios i,
        length-append (meta_strings N.metas) (joined (λ (i : Io). i.name) N.ios ++ joined (λ (c : Cell). c.name) N.cells),
        length-append (joined (λ (i : Io). i.name) N.ios) (joined (λ (c : Cell). c.name) N.cells),
      )

  module _ (n : Tally) (t : Tallied N n) where
    pub io_fits : n.ios < 64 → length i.name ≤ 255 → n.strings + length i.name ≤ 16384 → roomy (io_more N i) ≡ true
    io_fits a b c =
        let r = roomy_is N t.roomy in
        is_roomy (io_more N i)
        record {
          cells = r.cells;
          bits = r.bits;
          outputs = r.outputs;
          runs = r.runs;
          metas = r.metas;
          members = r.members;
          ios = omega (arith, length_last N.ios i, t.ios);
          meta_strings = r.meta_strings;
          io_strings = every_last (λ (i : Io). short_string i.name) N.ios i r.io_strings (le-leb _ _ b);
          cell_strings = r.cell_strings;
          strings = omega (arith, io_strings_lem, t.strings);
        }

    pub io_many : 64 ≤ n.ios → roomy (io_more N i) ≡ false
    io_many h = not_roomy (io_more N i) (λ r. omega (arith, r.ios, length_last N.ios i, t.ios))

    pub io_long : 255 < length i.name → roomy (io_more N i) ≡ false
    io_long h = not_roomy (io_more N i) (λ r. let e : length i.name ≤ 255 = leb-true (length i.name) 255 (last_of_every (λ (i : Io). short_string i.name) N.ios i r.io_strings) in omega arith)

    pub io_full : 16384 < n.strings + length i.name → roomy (io_more N i) ≡ false
    io_full h = not_roomy (io_more N i) (λ r. omega (arith, r.strings, io_strings_lem, t.strings))

-- A ROW OF METADATA MORE
module _ (N : Netlist) (m : Meta) where
  pub meta_strings_lem : length (strings_of (meta_more N m)) ≡ length (strings_of N) + length m.name + length m.text
  meta_strings_lem =
      let rest = joined (λ (i : Io). i.name) N.ios ++ joined (λ (c : Cell). c.name) N.cells in
      length-append (meta_strings (N.metas ++ (m ∷ []))) rest
      ∙ omega (
        arith,
        joined_long (λ (m : Meta). m.name ++ m.text) N.metas m,
        length-append m.name m.text,
        length-append (meta_strings N.metas) rest,
      )

  pub meta_members : length (members_of (N.metas ++ (m ∷ []))) ≡ length (members_of N.metas) + length m.members
  meta_members = joined_long (λ (m : Meta). m.members) N.metas m

  pub meta_trits : length (attr_bits_of (N.metas ++ (m ∷ []))) ≡ length (attr_bits_of N.metas) + length m.bits
  meta_trits = joined_long (λ (m : Meta). m.bits) N.metas m

  abbrev brief : Meta → Bool
  brief m = short_string m.name && short_string m.text

  module _ (n : Tally) (t : Tallied N n) where
    pub meta_fits : n.metas < 512 → n.members + length m.members ≤ 1024 → length m.name ≤ 255 → length m.text ≤ 255
        → n.strings + length m.name + length m.text ≤ 16384 → roomy (meta_more N m) ≡ true
    meta_fits a b c d e =
        let r = roomy_is N t.roomy in
        is_roomy (meta_more N m)
        record {
          cells = r.cells;
          bits = r.bits;
          outputs = r.outputs;
          runs = r.runs;
          metas = omega (arith, length_last N.metas m, t.metas);
          members = omega (arith, meta_members, t.members);
          ios = r.ios;
          meta_strings = every_last brief N.metas m r.meta_strings (true_and _ _ (le-leb _ _ c) (le-leb _ _ d));
          io_strings = r.io_strings;
          cell_strings = r.cell_strings;
          strings = omega (arith, meta_strings_lem, t.strings);
        }

    pub meta_many : 512 ≤ n.metas → roomy (meta_more N m) ≡ false
    meta_many h = not_roomy (meta_more N m) (λ r. omega (arith, r.metas, length_last N.metas m, t.metas))

    pub meta_crowded : 1024 < n.members + length m.members → roomy (meta_more N m) ≡ false
    meta_crowded h = not_roomy (meta_more N m) (λ r. omega (arith, r.members, meta_members, t.members))

    pub meta_long : 255 < length m.name → roomy (meta_more N m) ≡ false
    meta_long h = not_roomy (meta_more N m) (λ r. let e : length m.name ≤ 255 = leb-true _ 255 (and_true (short_string m.name) (short_string m.text) (last_of_every brief N.metas m r.meta_strings)).0 in omega arith)

    pub meta_wordy : 255 < length m.text → roomy (meta_more N m) ≡ false
    meta_wordy h = not_roomy (meta_more N m) (λ r. let e : length m.text ≤ 255 = leb-true _ 255 (and_true (short_string m.name) (short_string m.text) (last_of_every brief N.metas m r.meta_strings)).1 in omega arith)

    pub meta_full : 16384 < n.strings + length m.name + length m.text → roomy (meta_more N m) ≡ false
    meta_full h = not_roomy (meta_more N m) (λ r. omega (arith, r.strings, meta_strings_lem, t.strings))
