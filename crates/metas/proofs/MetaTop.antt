-- A declaration of metadata that passes is noted.
use Rattle.std.specs.Prelude.{Ok}
use mathlib.Core.Path.{◌≡◌, refl, sym, ap, subst, ◌∙◌}
use mathlib.Core.Bool.{Bool, true, false, not, ◌&&◌}
use mathlib.Core.List.{List, [], ◌∷◌, ◌++◌}
use mathlib.Core.Option.{Option, none, some}
use Prim.Native.Nat.{ℕ, zero, suc, ◌+◌, ◌*◌, ◌<◌, ◌≤◌}
use native.Mathlib.Omega.{arith}
use lib.Dec.{leb}
use lib.ListN.{length, set}
use lib.Seq.{sets}
use borrow.Author.Tests.{leb-true, leb-false}
use Rattle.ground.specs.Choice.{pick}
use Rattle.ground.specs.Refusals.{refusal}
use Rattle.ground.specs.Regions.{part}
use Rattle.ground.proofs.Bools.{and_true}
use Rattle.ground.specs.declared.Refusal.{Refusal}
use Rattle.form.specs.declared.Declared.{Declared}
use Rattle.netlist.specs.Netlist.{Meta, Netlist, attr_bits_of}
use Rattle.netlist.specs.Rules.{short_string, complete, attr_width, roomy}
use Rattle.netlist.proofs.Laying.{Roomy, roomy_is}
use Rattle.saying.specs.Values.{row_of}
use Rattle.saying.specs.Rules.{Sofar, metadata, said_by, added, ruled_out}
use Rattle.noting.specs.Noted.{Noted, After}
use Rattle.noting.specs.Formed.{Formed}
use Rattle.noting.specs.Rulings.{ruling_of, meta_more}
use Rattle.metas.specs.MetaRows.{is_metadata, meta_said, row_for, RowSays, meta_limits, members_said, trits_said, meta_tally, MetaRoom, MetaAdds, MetaAdded, wrote, rows_with}
use Rattle.noting.specs.declared.Tally.{Tally}
use Rattle.metas.specs.declared.MetaRow.{MetaRow}
use Rattle.noting.proofs.Growing.{length_last, last_of_every}
use Rattle.noting.proofs.Limits.{meta_strings_lem, meta_members}
use Rattle.noting.proofs.Passing.{passes, passed_none, not_false}
use Rattle.metas.proofs.MetaLaws.{row_says}
use Rattle.metas.proofs.MetaNotes.{meta_noted}
use Rattle.metas.proofs.MetaAfter.{meta_said_lem, members_same, trits_same, members_long, meta_rules, meta_rules_lem, MetaPassed, meta_passed, bits_narrow}

module _ (text : List ℕ) (so : Sofar) (n : Tally) (rows bits work : List ℕ) (d : Declared) (row : MetaRow) (noted : Noted text so n rows bits work) (formed : Formed text d)
    (kind : is_metadata d.decl ≡ true) (says : row ≡ row_for so.meta_numbers d.decl) (passed : ruling_of (ruled_out text so d) ≡ Ok tt) where
  abbrev m : Meta
  m = meta_said text so.meta_numbers d.decl

  said : RowSays text row m
  said = subst (λ (r : MetaRow). RowSays text r m) (sym says) (row_says text so.meta_numbers d.decl kind formed.decl)

  passing : MetaPassed text so d
  passing = meta_passed text so d (sym (ap ruling_of (meta_rules_lem text so d kind)) ∙ passed)

  new : row_of so.meta_numbers d.index ≡ 0
  new = let h = leb-false 1 (row_of so.meta_numbers d.index) passing.new in omega arith

  limits : (not (attr_width m) ≡ false) × (not (roomy (meta_more so.netlist m)) ≡ false)
  limits =
      let c = pick (not (roomy (meta_more so.netlist m))) (some (refusal 13 d.place)) none in
      let b = pick (not (attr_width m)) (some (refusal 12 d.place)) c in
      let p = passes (not (complete m)) (refusal 11 d.place) b passing.limits in
      let q = passes (not (attr_width m)) (refusal 12 d.place) c p.1 in
      (q.0, (passes (not (roomy (meta_more so.netlist m))) (refusal 13 d.place) none q.1).0)

  fits : roomy (meta_more so.netlist m) ≡ true
  fits = not_false (roomy (meta_more so.netlist m)) limits.1

  narrow : length m.bits ≤ 256
  narrow = bits_narrow text so.meta_numbers d.decl (not_false (attr_width m) limits.0)

  pub meta_room : MetaRoom row n
  meta_room =
      let r = roomy_is (meta_more so.netlist m) fits in
      let t = noted.tally in
      let s = said in
      let k = narrow in
      let z = and_true (short_string m.name) (short_string m.text) (last_of_every (λ (m : Meta). short_string m.name && short_string m.text) so.netlist.metas m r.meta_strings) in
      let x : length m.name ≤ 255 = leb-true (length m.name) 255 z.0 in
      let y : length m.text ≤ 255 = leb-true (length m.text) 255 z.1 in
      record {
        room = omega (arith, r.metas, t.metas, length_last so.netlist.metas m);
        name = omega (arith, s.name);
        text = omega (arith, s.second);
        members = omega (arith, r.members, t.members, s.members, meta_members so.netlist m);
        trits = omega (arith, s.trits);
        strings = omega (arith, r.strings, t.strings, s.name, s.second, meta_strings_lem so.netlist m);
      }

  pub few_trits : n.trits + length m.bits ≤ 131072
  few_trits = let k = narrow in let r = meta_room.room in omega (arith, noted.metas.narrow, noted.tally.trits, noted.tally.metas)

  pub meta_adds : MetaAdds text d row n rows bits work
  meta_adds =
      let q = meta_room in record {
        long_rows = noted.long_rows;
        long_bits = noted.long_bits;
        long_work = noted.long_work;
        room = q;
        members = λ ns. let a = q.members in let b = said.members in let c : length m.members ≡ length (members_said text so.meta_numbers d.decl) = ap length (members_same text so.meta_numbers d.decl) in omega (arith, members_long text ns so.meta_numbers d.decl);
        trits = let c : length m.bits ≡ length (trits_said text d.decl) = ap length (trits_same text so.meta_numbers d.decl) in omega (arith, few_trits);
      }

  pub meta_after : (rows' bits' work' : List ℕ) → MetaAdded text d row n rows bits work rows' bits' work' → After text so d (Ok (meta_tally n row)) rows' bits' work'
  unfolding added
  meta_after rows' bits' work' a =
      let q = meta_room in
      let e : n.members + length m.members ≤ 1024 = omega (arith, q.members, said.members) in
      let w = meta_noted text so n rows bits work noted row m said d.index q.room e narrow new formed.index fits in
      let f : rows' ≡ rows_with rows n m.members row = a.in_rows so.meta_numbers noted.metas.maps ∙ ap (λ (x : List ℕ). rows_with rows n x row) (sym (members_same text so.meta_numbers d.decl)) in
      let g : bits' ≡ wrote 0 131072 bits (sets (part 0 131072 bits) n.trits m.bits) = a.in_bits ∙ ap (λ (x : List ℕ). wrote 0 131072 bits (sets (part 0 131072 bits) n.trits x)) (sym (trits_same text so.meta_numbers d.decl)) in
      (passed_none (ruled_out text so d) passed, rw (meta_said_lem text so d.decl kind, f, g, a.in_work) w)
