-- One row of metadata more: the map, the notes and the tally.
use mathlib.Core.Path.{◌≡◌, refl, sym, ap, ◌∙◌}
use mathlib.Core.Bool.{Bool, true, false, not}
use mathlib.Core.List.{List, [], ◌∷◌, ◌++◌}
use Prim.Native.Nat.{ℕ, zero, suc, ◌+◌, ◌*◌, ◌<◌, ◌≤◌}
use native.Mathlib.Omega.{arith}
use lib.Dec.{eqb}
use lib.ListN.{length, get_or, set, length-set, length-append}
use lib.Seq.{sets, length-sets, get_or-set_same, get_or-set_other}
use borrow.Author.Tests.{eqb-true, eqb-false, eq-eqb, ne_eqb}
use Rattle.ground.specs.Lists.{joined}
use Rattle.ground.specs.Regions.{pad, part}
use Rattle.ground.proofs.Bools.{bool_cases, never_both}
use Rattle.ground.proofs.Regions.{pad_put, part_length}
use Rattle.ground.proofs.Counts.{length_mapped}
use Rattle.netlist.specs.Netlist.{Meta, Netlist, members_of, attr_bits_of}
use Rattle.netlist.specs.Rules.{roomy}
use Rattle.saying.specs.Values.{row_from, row_of}
use Rattle.saying.specs.Rules.{Sofar, with_meta}
use Rattle.saying.specs.Notes.{MetaNote, meta_note, metas_said, Spells, SpellMetas, none, more, Maps}
use Rattle.asking.proofs.RowLaws.{joined_length}
use Rattle.noting.specs.Noted.{MetasHeld, Tallied, Noted}
use Rattle.noting.specs.Rulings.{meta_more}
use Rattle.metas.specs.MetaRows.{meta_words, RowSays, meta_tally, MetaRoom, wrote, rows_with}
use Rattle.noting.specs.declared.Tally.{Tally}
use Rattle.metas.specs.declared.MetaRow.{MetaRow}
use Rattle.noting.proofs.Flat.{put, length_put, part_put, part_before, part_after}
use Rattle.noting.proofs.Growing.{joined_last, map_last, length_last}
use Rattle.noting.proofs.Limits.{meta_strings_lem, meta_members, meta_trits, meta_fits}

-- THE MAP: a number that is not declared yet gets the next row
row_new : (ns : List ℕ) (i row : ℕ) → row_from ns i (suc row) ≡ 0 → row_from (ns ++ (i ∷ [])) i (suc row) ≡ suc row + length ns
unfolding row_from
row_new [] i row e = rw (eq-eqb i i refl, row_from) (omega arith)
row_new (n ∷ ns) i row e = bool_cases (eqb n i)
    (λ t. let z : suc row ≡ 0 = rw (t, row_from) at e in absurd (omega arith))
    (λ f. rw (f, row_from) (let h : suc (suc row) ≡ suc row + 1 = omega arith in rw (← h) (row_new ns i (suc row) (rw (f, row_from, ← h) at e) ∙ omega arith)))

row_old : (ns : List ℕ) (i j row : ℕ) → (j ≡ i → ⊥) → row_from (ns ++ (i ∷ [])) j row ≡ row_from ns j row
unfolding row_from
row_old [] i j row h = rw (ne_eqb i j (λ e. h (sym e)), row_from)
row_old (n ∷ ns) i j row h = bool_cases (eqb n j) (λ t. rw (t, row_from)) (λ f. rw (f, row_from) (row_old ns i j (row + 1) h))

pub maps_more : (ns m : List ℕ) (i k : ℕ) → Maps ns m → row_of ns i ≡ 0 → i < 65536 → k ≡ length ns → Maps (ns ++ (i ∷ [])) (set m i (k + 1))
maps_more ns m i k h e l c =
    let inside : i < length m = omega (arith, h.long) in
    record {
      long = length-set m i (k + 1) ∙ h.long;
      is = λ j b. bool_cases (eqb j i)
          (λ t. let q : j ≡ i = eqb-true j i t in rw q (get_or-set_same m i (k + 1) 0 inside ∙ sym (row_new ns i 0 e ∙ omega arith)))
          (λ f. let q = eqb-false j i f in get_or-set_other m i j (k + 1) 0 q ∙ h.is j b ∙ sym (row_old ns i j 1 q));
    }

-- THE NOTES
note_wide : (x : MetaNote) → length (meta_note x) ≡ 16
unfolding meta_note
note_wide x = refl

spell_last : (text : List ℕ) (ns : List MetaNote) (x : MetaNote) → SpellMetas text ns → Spells text x.name_at x.meta.name → Spells text x.text_at x.meta.text → SpellMetas text (ns ++ (x ∷ []))
spell_last text [] x none s t = more s t none
spell_last text (n ∷ ns) x (more p q h) s t = more p q (spell_last text ns x h s t)

pub held_count : {text : List ℕ} {ms : List Meta} {numbers metas pool trits numbered : List ℕ} (h : MetasHeld text ms numbers metas pool trits numbered) → length h.notes ≡ length ms
held_count h = sym (length_mapped (λ (x : MetaNote). x.meta) h.notes) ∙ ap length h.said

module _ (text : List ℕ) (ms : List Meta) (numbers metas pool trits numbered : List ℕ) (h : MetasHeld text ms numbers metas pool trits numbered)
    (r : MetaRow) (m : Meta) (s : RowSays text r m) (index k j b : ℕ) (few : length ms < 512) (at : k ≡ length ms) (atMembers : j ≡ length (members_of ms)) (atTrits : b ≡ length (attr_bits_of ms))
    (room : length (members_of ms) + length m.members ≤ 1024) (narrow : length m.bits ≤ 256) (new : row_of numbers index ≡ 0) (small : index < 65536) where
  pub metas_held : MetasHeld text (ms ++ (m ∷ [])) (numbers ++ (index ∷ [])) (sets metas (k * 16) (meta_words r)) (sets pool j m.members) (sets trits b m.bits) (set numbered index (k + 1))
  metas_held =
      let x : MetaNote = record { meta = m; name_at = r.name.at; text_at = r.text.at } in
      let c = held_count h in
      let n = h.narrow in
      let l : length (joined meta_note h.notes) ≡ length h.notes * 16 = joined_length meta_note 16 note_wide h.notes in
      let w = note_wide x in
      let f : k * 16 ≡ length (joined meta_note h.notes) = omega arith in
      let g : length (joined meta_note h.notes) + length (meta_note x) ≤ 8192 = omega arith in
      let o : length (attr_bits_of ms) + length m.bits ≤ 131072 = omega arith in
      let q : length numbers ≡ length ms = h.count in
      record {
        notes = h.notes ++ (x ∷ []);
        said = map_last (λ (x : MetaNote). x.meta) h.notes x ∙ ap (λ (l : List Meta). l ++ (m ∷ [])) h.said;
        rows = ap (λ (t : List ℕ). sets t (k * 16) (meta_words r)) h.rows
            ∙ ap (sets (pad 8192 (joined meta_note h.notes)) (k * 16)) s.words
            ∙ pad_put 8192 (k * 16) (joined meta_note h.notes) (meta_note x) f g
            ∙ ap (pad 8192) (sym (joined_last meta_note h.notes x));
        spelled = spell_last text h.notes x h.spelled s.name_there s.text_there;
        members = ap (λ (t : List ℕ). sets t j m.members) h.members ∙ pad_put 1024 j (members_of ms) m.members atMembers room
            ∙ ap (pad 1024) (sym (joined_last (λ (m : Meta). m.members) ms m));
        bits = ap (λ (t : List ℕ). sets t b m.bits) h.bits ∙ pad_put 131072 b (attr_bits_of ms) m.bits atTrits o
            ∙ ap (pad 131072) (sym (joined_last (λ (m : Meta). m.bits) ms m));
        narrow = wider (length (attr_bits_of ms)) (length m.bits) (length ms) n narrow;
        maps = maps_more numbers numbered index k h.maps new small (at ∙ sym q);
        count = length_last numbers index ∙ ap (λ (n : ℕ). n + 1) q ∙ sym (length_last ms m);
      }
    where
      wider : (a c n : ℕ) → a ≤ n * 256 → c ≤ 256 → length (attr_bits_of (ms ++ (m ∷ []))) ≤ length (ms ++ (m ∷ [])) * 256
      wider a c n p q = omega (arith, meta_trits (record { metas = ms; ios = []; cells = [] }) m, length_last ms m, h.narrow, narrow)

-- THE TALLY
pub meta_tallied : (text : List ℕ) (N : Netlist) (m : Meta) (r : MetaRow) (n : Tally) → Tallied N n → RowSays text r m → roomy (meta_more N m) ≡ true → Tallied (meta_more N m) (meta_tally n r)
meta_tallied text N m r n t s h = record {
  metas = omega (arith, t.metas, length_last N.metas m);
  ios = t.ios;
  cells = t.cells;
  members = omega (arith, t.members, s.members, meta_members N m);
  trits = omega (arith, t.trits, s.trits, meta_trits N m);
  runs = t.runs;
  known = t.known;
  declared = t.declared;
  outputs = t.outputs;
  strings = omega (arith, t.strings, s.name, s.second, meta_strings_lem N m);
  roomy = h;
}

-- ALL OF IT
module _ (text : List ℕ) (so : Sofar) (n : Tally) (rows bits work : List ℕ) (d : Noted text so n rows bits work) (r : MetaRow) (m : Meta) (s : RowSays text r m) (index : ℕ)
    (room : n.metas < 512) (members : n.members + length m.members ≤ 1024) (narrow : length m.bits ≤ 256) (new : row_of so.meta_numbers index ≡ 0) (small : index < 65536)
    (fits : roomy (meta_more so.netlist m) ≡ true) where
  pub meta_noted : Noted text (with_meta so index m) (meta_tally n r) (rows_with rows n m.members r) (wrote 0 131072 bits (sets (part 0 131072 bits) n.trits m.bits)) (wrote 65536 65536 work (set (part 65536 65536 work) index (n.metas + 1)))
  meta_noted =
      let t = d.tally in
      let p = sets (part 8195 1024 rows) n.members m.members in
      let a = wrote 8195 1024 rows p in
      let q = sets (part 3 8192 a) (n.metas * 16) (meta_words r) in
      let b = sets (part 0 131072 bits) n.trits m.bits in
      let w = set (part 65536 65536 work) index (n.metas + 1) in
      let lr = d.long_rows in
      let lb = d.long_bits in
      let lw = d.long_work in
      let rp : 8195 + 1024 ≤ length rows = omega arith in
      let ep : length p ≡ 1024 = length-sets (part 8195 1024 rows) n.members m.members ∙ part_length 8195 1024 rows rp in
      let la : length a ≡ 26307 = length_put 8195 1024 rows p rp ep ∙ lr in
      let rq : 3 + 8192 ≤ length a = omega arith in
      let eq : length q ≡ 8192 = length-sets (part 3 8192 a) (n.metas * 16) (meta_words r) ∙ part_length 3 8192 a rq in
      let rb : 0 + 131072 ≤ length bits = omega arith in
      let eb : length b ≡ 131072 = length-sets (part 0 131072 bits) n.trits m.bits ∙ part_length 0 131072 bits rb in
      let rw' : 65536 + 65536 ≤ length work = omega arith in
      let ew : length w ≡ 65536 = length-set (part 65536 65536 work) index (n.metas + 1) ∙ part_length 65536 65536 work rw' in
      let few : length so.netlist.metas < 512 = omega (arith, t.metas) in
      let fit : length (members_of so.netlist.metas) + length m.members ≤ 1024 = omega (arith, t.members) in
      let x1 : part 3 8192 (wrote 3 8192 a q) ≡ sets (part 3 8192 rows) (n.metas * 16) (meta_words r) = part_put 3 8192 a q rq eq ∙ ap (λ (l : List ℕ). sets l (n.metas * 16) (meta_words r)) (part_before 8195 1024 rows p rp ep 3 8192 (omega arith)) in
      let x2 : part 8195 1024 (wrote 3 8192 a q) ≡ p = part_after 3 8192 a q rq eq 8195 1024 (omega arith) ∙ part_put 8195 1024 rows p rp ep in
      let h = metas_held text so.netlist.metas so.meta_numbers (part 3 8192 rows) (part 8195 1024 rows) (part 0 131072 bits) (part 65536 65536 work) d.metas r m s index n.metas n.members n.trits few t.metas t.members t.trits fit narrow new small in
      record {
        long_rows = length_put 3 8192 a q rq eq ∙ la;
        long_bits = length_put 0 131072 bits b rb eb ∙ lb;
        long_work = length_put 65536 65536 work w rw' ew ∙ lw;
        metas = rw (x1, x2, part_put 0 131072 bits b rb eb, part_put 65536 65536 work w rw' ew) h;
        ios = rw (part_after 3 8192 a q rq eq 9219 192 (omega arith), part_after 8195 1024 rows p rp ep 9219 192 (omega arith)) d.ios;
        cells = rw (part_after 3 8192 a q rq eq 9411 4608 (omega arith), part_after 8195 1024 rows p rp ep 9411 4608 (omega arith), part_after 3 8192 a q rq eq 14019 12288 (omega arith), part_after 8195 1024 rows p rp ep 14019 12288 (omega arith), part_after 0 131072 bits b rb eb 131072 262656 (omega arith), part_before 65536 65536 work w rw' ew 0 65536 (omega arith), part_after 65536 65536 work w rw' ew 131072 1536 (omega arith)) d.cells;
        tally = meta_tallied text so.netlist m r n t s fits;
      }
