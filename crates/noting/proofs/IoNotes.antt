-- One I/O row more: the rules, the notes and the tally.
use Rattle.std.specs.Prelude.{Ok, Err}
use mathlib.Core.Path.{◌≡◌, refl, sym, ap, ◌∙◌}
use mathlib.Core.Bool.{Bool, true, false, not}
use mathlib.Core.List.{List, [], ◌∷◌, ◌++◌}
use mathlib.Core.Option.{Option, none, some}
use Prim.Native.Nat.{ℕ, zero, suc, ◌+◌, ◌*◌, ◌<◌, ◌≤◌}
use native.Mathlib.Omega.{arith}
use lib.Dec.{ltb}
use lib.ListN.{length}
use lib.Seq.{sets, length-sets}
use borrow.Author.Tests.{ltb-true, ltb-false, leb-true, eqb-false, eq-eqb, ne_eqb}
use Rattle.ground.specs.Lists.{joined}
use Rattle.ground.specs.Regions.{pad, part}
use Rattle.ground.proofs.Bools.{bool_cases, never_both}
use Rattle.ground.proofs.Regions.{pad_put, part_length}
use Rattle.ground.specs.Refusals.{refusal}
use Rattle.ground.specs.declared.Place.{Place}
use Rattle.ground.specs.declared.Refusal.{Refusal}
use Rattle.ground.proofs.Counts.{length_mapped}
use Rattle.brackets.specs.declared.Str.{Str}
use Rattle.signs.specs.Pieces.{decoded}
use Rattle.netlist.specs.Netlist.{Io, Netlist}
use Rattle.kinds.specs.Kinds.{wide}
use Rattle.netlist.specs.Rules.{taken, io_names, is_empty, short_string, roomy}
use Rattle.netlist.proofs.Laying.{Roomy, roomy_is}
use Rattle.saying.specs.Rules.{Sofar, with_io, said_by, added, first_misnamed, ruled_out}
use Rattle.saying.specs.Notes.{IoNote, io_note, ios_said, Spells, SpellIos, none, more}
use Rattle.asking.specs.Namesakes.{IosNoted}
use Rattle.asking.proofs.RowLaws.{joined_length}
use Rattle.noting.specs.Noted.{metas_in, members_in, ios_in, cells_in, runs_in, IosHeld, Tallied, Noted, After}
use Rattle.noting.specs.Rulings.{ruling_of, io_more, io_in, io_limits, io_rules, io_declared, io_tally, IoRoom}
use Rattle.noting.specs.Formed.{StrIn}
use Rattle.noting.specs.declared.Tally.{Tally}
use Rattle.noting.proofs.Flat.{put, length_put, part_put, part_before, part_after}
use Rattle.noting.proofs.Growing.{joined_last, map_last, length_last, last_of_every}
use Rattle.noting.proofs.Passing.{passes_four, not_false, positive, string_inside, spells_there, passed_none, refused_some}
use Rattle.noting.proofs.Limits.{io_strings_lem, io_fits, io_full}

-- THE RULES
pub io_rules_lem : (text : List ℕ) (so : Sofar) (place : Place) (index : ℕ) (name : Str) (width : ℕ)
    → ruled_out text so (io_declared place index name width) ≡ io_rules so.netlist (io_in text name width) place
unfolding ruled_out said_by added first_misnamed
io_rules_lem text so place index name width = refl

pub io_last_limit : (N : Netlist) (i : Io) (n : Tally) → Tallied N n → n.ios < 64 → length i.name ≤ 255 → ltb 16384 (n.strings + length i.name) ≡ not (roomy (io_more N i))
io_last_limit N i n t a b = bool_cases (ltb 16384 (n.strings + length i.name))
    (λ e. rw (e, io_full N i n t (ltb-true _ _ e)))
    (λ e. let h : n.strings + length i.name ≤ 16384 = ltb-false _ _ e in rw (e, io_fits N i n t a b h))

-- what passes all limits is within each
pub record IoPassed (N : Netlist) (i : Io) (n : Tally) : Type 0 where
  pub room : n.ios < 64
  pub name : length i.name ≤ 255
  pub some : 0 < length i.name
  pub strings : n.strings + length i.name ≤ 16384

-- THE NOTES
note_wide : (x : IoNote) → length (io_note x) ≡ 3
unfolding io_note
note_wide x = refl

spell_last : (text : List ℕ) (ns : List IoNote) (x : IoNote) → SpellIos text ns → Spells text x.name_at x.io.name → SpellIos text (ns ++ (x ∷ []))
spell_last text [] x none s = more s none
spell_last text (n ∷ ns) x (more p h) s = more p (spell_last text ns x h s)

pub held_count : {text : List ℕ} {is : List Io} {ios : List ℕ} (h : IosHeld text is ios) → length h.notes ≡ length is
held_count h = sym (length_mapped (λ (x : IoNote). x.io) h.notes) ∙ ap length h.said

pub ios_noted : {text : List ℕ} {N : Netlist} {ios : List ℕ} {n : Tally} → IosHeld text N.ios ios → Tallied N n → IosNoted text ios n.ios
ios_noted h t = record { notes = h.notes; rows = h.rows; count = t.ios ∙ sym (held_count h); names = h.spelled }

pub ios_held : (text : List ℕ) (is : List Io) (ios : List ℕ) (i : Io) (at k : ℕ) → IosHeld text is ios → Spells text at i.name → length is < 64 → k ≡ length is
    → IosHeld text (is ++ (i ∷ [])) (sets ios (k * 3) (at ∷ length i.name ∷ i.width ∷ []))
unfolding io_note
ios_held text is ios i at k h s room e =
    let x : IoNote = record { io = i; name_at = at } in
    let row = at ∷ length i.name ∷ i.width ∷ [] in
    let c = held_count h in
    let l : length (joined io_note h.notes) ≡ length h.notes * 3 = joined_length io_note 3 note_wide h.notes in
    record {
      notes = h.notes ++ (x ∷ []);
      said = map_last (λ (x : IoNote). x.io) h.notes x ∙ ap (λ (l : List Io). l ++ (i ∷ [])) h.said;
      rows = ap (λ (t : List ℕ). sets t (k * 3) row) h.rows
          ∙ pad_put 192 (k * 3) (joined io_note h.notes) row (omega arith) (omega arith)
          ∙ ap (pad 192) (sym (joined_last io_note h.notes x));
      spelled = spell_last text h.notes x h.spelled s;
    }

-- THE TALLY
pub io_tallied : (N : Netlist) (i : Io) (n : Tally) → Tallied N n → n.ios < 64 → length i.name ≤ 255 → n.strings + length i.name ≤ 16384 → Tallied (io_more N i) (io_tally n (length i.name))
io_tallied N i n t a b c = record {
  metas = t.metas;
  ios = omega (arith, t.ios, length_last N.ios i);
  cells = t.cells;
  members = t.members;
  trits = t.trits;
  runs = t.runs;
  known = t.known;
  declared = t.declared;
  outputs = t.outputs;
  strings = omega (arith, t.strings, io_strings_lem N i);
  roomy = io_fits N i n t a b c;
}

-- ALL OF IT
pub io_noted : (text : List ℕ) (so : Sofar) (n : Tally) (rows bits work : List ℕ) (i : Io) (at : ℕ) → Noted text so n rows bits work → Spells text at i.name
    → n.ios < 64 → length i.name ≤ 255 → n.strings + length i.name ≤ 16384
    → Noted text (with_io so i) (io_tally n (length i.name)) (put 9219 192 rows (sets (part 9219 192 rows) (n.ios * 3) (at ∷ length i.name ∷ i.width ∷ []))) bits work
io_noted text so n rows bits work i at d s a b c =
    let new = sets (part 9219 192 rows) (n.ios * 3) (at ∷ length i.name ∷ i.width ∷ []) in
    let long = d.long_rows in
    let r : 9219 + 192 ≤ length rows = omega arith in
    let e : length new ≡ 192 = length-sets (part 9219 192 rows) (n.ios * 3) (at ∷ length i.name ∷ i.width ∷ []) ∙ part_length 9219 192 rows r in
    let few : length so.netlist.ios < 64 = omega (arith, d.tally.ios) in
    record {
      long_rows = length_put 9219 192 rows new r e ∙ long;
      long_bits = d.long_bits;
      long_work = d.long_work;
      metas = rw (part_before 9219 192 rows new r e 3 8192 (omega arith), part_before 9219 192 rows new r e 8195 1024 (omega arith)) d.metas;
      ios = rw (part_put 9219 192 rows new r e) (ios_held text so.netlist.ios (part 9219 192 rows) i at n.ios d.ios s few d.tally.ios);
      cells = rw (part_after 9219 192 rows new r e 9411 4608 (omega arith), part_after 9219 192 rows new r e 14019 12288 (omega arith)) d.cells;
      tally = io_tallied so.netlist i n d.tally a b c;
    }

-- HOW THE RULES COME OUT
module _ (N : Netlist) (i : Io) (place : Place) where
  pub io_nameless : length i.name ≡ 0 → Err (refusal 11 place) ≡ ruling_of (io_limits N i place)
  io_nameless e = rw (eq-eqb (length i.name) 0 e)

  module _ (e : length i.name ≡ 0 → ⊥) where
    pub io_misfit : wide i.width ≡ false → Err (refusal 12 place) ≡ ruling_of (io_limits N i place)
    io_misfit w = rw (ne_eqb (length i.name) 0 e, w)

    pub io_cramps : wide i.width ≡ true → not (roomy (io_more N i)) ≡ true → Err (refusal 13 place) ≡ ruling_of (io_limits N i place)
    io_cramps w r = rw (ne_eqb (length i.name) 0 e, w, r)

    pub io_passes : wide i.width ≡ true → not (roomy (io_more N i)) ≡ false → Ok tt ≡ ruling_of (io_limits N i place)
    io_passes w r = rw (ne_eqb (length i.name) 0 e, w, r)

  pub io_twice : taken i.name (io_names N.ios) ≡ true → Err (refusal 9 place) ≡ ruling_of (io_rules N i place)
  io_twice e = rw e

  pub io_once : taken i.name (io_names N.ios) ≡ false → ruling_of (io_limits N i place) ≡ ruling_of (io_rules N i place)
  io_once e = rw e

  -- what passes is within each limit
  pub io_passed : (n : Tally) → Tallied N n → ruling_of (io_rules N i place) ≡ Ok tt → IoPassed N i n
  io_passed n t p =
      let f = passes_four (taken i.name (io_names N.ios)) (is_empty i.name) (not (wide i.width)) (not (roomy (io_more N i))) (refusal 9 place) (refusal 11 place) (refusal 12 place) (refusal 13 place) p in
      let r = roomy_is (io_more N i) (not_false (roomy (io_more N i)) f.3) in
      let z = eqb-false (length i.name) 0 f.1 in
      let s : length i.name ≤ 255 = leb-true (length i.name) 255 (last_of_every (λ (i : Io). short_string i.name) N.ios i r.io_strings) in
      record {
        room = omega (arith, r.ios, length_last N.ios i, t.ios);
        name = s;
        some = positive (length i.name) z;
        strings = omega (arith, r.strings, io_strings_lem N i, t.strings);
      }

-- the walk over the rows finds what the rule asks
pub held_taken : {text : List ℕ} {ios : List ℕ} {n : Tally} {r : Bool} (N : Netlist) (i : Io) (h : IosHeld text N.ios ios) → Tallied N n
    → ((ns : List IoNote) → ios ≡ pad 192 (joined io_note ns) → n.ios ≡ length ns → SpellIos text ns → r ≡ taken i.name (io_names (ios_said ns)))
    → taken i.name (io_names N.ios) ≡ r
held_taken N i h t f = ap (λ (is : List Io). taken i.name (io_names is)) (sym h.said) ∙ sym (f h.notes h.rows (t.ios ∙ sym (held_count h)) h.spelled)

pub io_room : (text : List ℕ) (N : Netlist) (name : Str) (width : ℕ) (n : Tally) → length text ≤ 65536 → StrIn text name → IoPassed N (io_in text name width) n → IoRoom name n
io_room text N name width n short s p =
    let e = s.size in
    let k = string_inside text name.from p.some in
    record {
      room = p.room;
      from = omega (arith, k);
      size = omega (arith, p.name, e);
      strings = omega (arith, p.strings, e);
    }

-- a declaration that passes is noted
pub io_after : (text : List ℕ) (so : Sofar) (n : Tally) (rows bits work : List ℕ) (place : Place) (index : ℕ) (name : Str) (width : ℕ) → Noted text so n rows bits work → StrIn text name
    → ruling_of (io_rules so.netlist (io_in text name width) place) ≡ Ok tt
    → After text so (io_declared place index name width) (Ok (io_tally n name.size)) (put 9219 192 rows (sets (part 9219 192 rows) (n.ios * 3) (name.from ∷ name.size ∷ width ∷ []))) bits work
unfolding said_by added
io_after text so n rows bits work place index name width d s r =
    let i = io_in text name width in
    let p = io_passed so.netlist i place n d.tally r in
    let w = io_noted text so n rows bits work i name.from d (spells_there text name.from p.some) p.room p.name p.strings in
    (io_rules_lem text so place index name width ∙ passed_none (io_rules so.netlist i place) r, rw s.size w)

pub io_refused : (text : List ℕ) (so : Sofar) (place : Place) (index : ℕ) (name : Str) (width : ℕ) (g : Refusal)
    → ruling_of (io_rules so.netlist (io_in text name width) place) ≡ Err g → ruled_out text so (io_declared place index name width) ≡ some g
io_refused text so place index name width g r = io_rules_lem text so place index name width ∙ refused_some (io_rules so.netlist (io_in text name width) place) g r

-- what the ruling asks stands there
pub io_asks : (text : List ℕ) (so : Sofar) (n : Tally) (rows bits work : List ℕ) → Noted text so n rows bits work → (n.strings ≤ 16384) × IosNoted text (part 9219 192 rows) n.ios
io_asks text so n rows bits work d = let r = roomy_is so.netlist d.tally.roomy in (omega (arith, r.strings, d.tally.strings), ios_noted d.ios d.tally)
