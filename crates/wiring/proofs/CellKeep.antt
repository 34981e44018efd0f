-- A cell that passed the rules, kept: there is room for what is written, and afterwards it is noted with all that was.
-- Assumes nothing.
use Rattle.std.specs.Prelude.{Ok, Err, Some, None}
use mathlib.Core.Path.{◌≡◌, refl, sym, ap, subst, ◌∙◌}
use mathlib.Core.Bool.{Bool, true, false, ◌&&◌, ◌||◌}
use mathlib.Core.List.{List, [], ◌∷◌, ◌++◌}
use Prim.Native.Nat.{ℕ, ◌+◌, ◌*◌, ◌<◌, ◌≤◌}
use native.Mathlib.Omega.{arith}
use lib.Dec.{eqb, eqb-suc-zero}
use lib.ListN.{length, set, length-append}
use lib.Seq.{sets}
use borrow.Author.Tests.{eqb-false}
use Rattle.ground.specs.Choice.{pick}
use Rattle.ground.specs.Refusals.{refusal}
use Rattle.ground.proofs.Bools.{bool_cases, and_false, or_false}
use Rattle.ground.specs.declared.Place.{Place}
use Rattle.signs.specs.Pieces.{decoded}
use Rattle.kinds.specs.Kinds.{kind_at, output_kind}
use Rattle.brackets.specs.Parts.{parts_at}
use Rattle.form.specs.declared.Wiring.{Wiring}
use Rattle.netlist.specs.Netlist.{Run, Meta, Io, Cell, Netlist, cell_runs, runs_of, run_bits_of}
use Rattle.netlist.specs.Rules.{output_bits, roomy}
use Rattle.netlist.proofs.Laying.{roomy_is}
use Rattle.netlist.proofs.Lengths.{run_bits_append}
use Rattle.saying.specs.Values.{row_of, ref_row, name_in, operand_runs}
use Rattle.saying.specs.Pieces.{operand_pieces}
use Rattle.saying.specs.Notes.{cell_note, Spells}
use Rattle.saying.specs.Rules.{Sofar, cell_of, pieces_of}
use Rattle.laying.specs.Holding.{Holds, Held, Room, Counted}
use Rattle.laying.specs.Bare.{some_bare, cell_bare, Covers}
use Rattle.laying.proofs.Covering.{operand_covers, covers_join}
use Rattle.laying.specs.declared.Laid.{Laid}
use Rattle.laying.specs.declared.Counts.{Counts}
use Rattle.noting.specs.Formed.{WiringIn}
use Rattle.noting.specs.Noted.{metas_in, members_in, ios_in, cells_in, runs_in, attr_trits_in, run_trits_in, cell_map_in, meta_map_in, places_in, MetasHeld, IosHeld, CellsHeld, Tallied, Noted}
use Rattle.laying.proofs.Counting.{operand_trits}
use Rattle.wiring.specs.CellAdding.{SameBut, name_from, name_size, nameless, out_bits, tally_with, cell_words, RowFits, PlacesFit, WorkWith, RunsWith, laid_of, Passed, said_with, Kept}
use Rattle.noting.specs.declared.Tally.{Tally}
use Rattle.wiring.proofs.CellFits.{Fitting, fitting}
use Rattle.wiring.proofs.CellMore.{held_more}
use Rattle.wiring.proofs.CellPlaces.{string_inside}
use Rattle.wiring.proofs.CellRooms.{with_row, roomy_more, runs_cramped, tallied_more}
use Rattle.wiring.proofs.CellTight.{Loose, loose}
use Rattle.wiring.proofs.CellWidths.{operand_wide}

-- THE SAME METADATA AND I/O in other tables
metas_same : (text : List ℕ) (ms : List Meta) (numbers : List ℕ) {a b c d a' b' c' d' : List ℕ} → a' ≡ a → b' ≡ b → c' ≡ c → d' ≡ d → MetasHeld text ms numbers a b c d → MetasHeld text ms numbers a' b' c' d'
metas_same text ms numbers p q r s h = rw (p, q, r, s) h

ios_same : (text : List ℕ) (is : List Io) {a a' : List ℕ} → a' ≡ a → IosHeld text is a → IosHeld text is a'
ios_same text is p h = rw p h

-- THE NAME
itself : (s : List ℕ) → s ≡ pick (eqb (length s) 0) [] s
itself [] = refl
itself (x ∷ s) = rw (eqb-suc-zero (length s))

module _ (text : List ℕ) (w : Wiring) (i : WiringIn text w) where
  pub name_long : length (name_in text (kind_at w.kind).named w.name) ≡ name_size w
  name_long = bool_cases (kind_at w.kind).named (λ e. rw e (sym (i.name e).size)) (λ e. rw e)

  name_spells : Spells text (name_from w) (name_in text (kind_at w.kind).named w.name)
  name_spells = bool_cases (kind_at w.kind).named (λ e. rw e record { is = itself (decoded text w.name.from) }) (λ e. rw e record { is = refl })

  pub out_is : (so : Sofar) → output_bits (cell_of text so w) ≡ out_bits w
  out_is so = ap (λ (n : ℕ). pick (eqb w.kind output_kind) n 0) (operand_wide text w.a ∙ sym i.a.width)

  name_inside : nameless w ≡ false → length text ≤ 65536 → name_from w < 65536
  name_inside h short = bool_cases (kind_at w.kind).named
      (λ e.
      let z = eqb-false w.name.size 0 (and_false (kind_at w.kind).named (eqb w.name.size 0) h e) in
      let s = (i.name e).size in
      rw e (let k = string_inside text w.name.from (omega arith) in omega arith))
      (λ e. rw e (omega arith))

  known_most : (so : Sofar) → Fitting text w → length (run_bits_of (cell_runs (cell_of text so w))) ≤ 513
  known_most so f =
      let ra = operand_runs text w.a in
      let rb = operand_runs text w.b in
      let rc = operand_runs text w.c in
      omega (
        arith,
        run_bits_append ra (rb ++ rc),
        run_bits_append rb rc,
        operand_trits text w.a,
        operand_trits text w.b,
        operand_trits text w.c,
        i.a.width,
        i.b.width,
        i.c.width,
        f.all,
      )

-- THE RUNS of a cell without a bare part cover its pieces
cell_covers : (text : List ℕ) (w : Wiring) → cell_bare text w ≡ false
    → Covers (operand_runs text w.a ++ (operand_runs text w.b ++ operand_runs text w.c)) (operand_pieces text w.a ++ (operand_pieces text w.b ++ operand_pieces text w.c))
cell_covers text w e =
    let p = or_false (some_bare (parts_at text w.a)) (some_bare (parts_at text w.b) || some_bare (parts_at text w.c)) e in
    let q = or_false (some_bare (parts_at text w.b)) (some_bare (parts_at text w.c)) p.1 in
    covers_join (operand_covers text w.a p.0) (covers_join (operand_covers text w.b q.0) (operand_covers text w.c q.1))

-- A CELL TO BE KEPT
module _ (text : List ℕ) (so : Sofar) (n : Tally) (rows bits work : List ℕ) (h : Noted text so n rows bits work) (w : Wiring) (i : WiringIn text w) (short : length text ≤ 65536) (p : Passed w n) where
  pub keep_held : Held (runs_in rows) (run_trits_in bits) (laid_of n)
  keep_held = record { rs = runs_of so.netlist.cells; holds = h.cells.holds }

  pub keep_fits : Fitting text w
  keep_fits = fitting text w i p.fits

  pub keep_loose : Loose n w
  keep_loose = loose n w p.room

  pub keep_few : length so.netlist.cells < 512
  keep_few = omega (arith, keep_loose.cells, h.tally.cells)

  pub keep_room : Room text w (laid_of n)
  keep_room =
      let f = keep_fits in
      record {
        a = omega (arith, i.a.width, f.a_most);
        b = omega (arith, i.b.width, f.b_most);
        c = omega (arith, i.c.width, f.c_most);
        all = omega (arith, i.a.width, i.b.width, i.c.width, f.all, h.tally.known, h.cells.narrow, keep_few);
      }

  pub keep_places : PlacesFit w
  keep_places =
      let f = keep_fits in
      record {
        a = λ e. omega (arith, f.a_at e);
        b = λ e. omega (arith, f.b_at e);
        c = λ e. omega (arith, f.c_at e);
      }

  -- the operands are laid
  module _ (rows' bits' : List ℕ) where
    pub keep_row : (counts : Counts) → RunsWith text w (laid_of n) rows bits (Some counts) rows' bits' → RowFits w counts
    keep_row counts l =
        let rs = runs_of so.netlist.cells in
        let ra = operand_runs text w.a in
        let rb = operand_runs text w.b in
        let rc = operand_runs text w.c in
        let k = l.laid rs h.cells.holds in
        let m : length rs + (length ra + (length rb + length rc)) ≤ 4096 = simp length-append at k.holds.long in
        record {
          from = name_inside text w i p.named short;
          size = omega (arith, keep_loose.name);
          a = omega (arith, k.a);
          b = omega (arith, k.b);
          c = omega (arith, k.c);
        }

    pub keep_full : (index : ℕ) (place : Place) → RunsWith text w (laid_of n) rows bits None rows' bits' → (work' : List ℕ) → Kept text so index place w (Err (refusal 13 place)) rows' bits' work'
    keep_full index place l work' =
        let c = cell_of text so w in
        let k : 4096 < length (runs_of so.netlist.cells ++ cell_runs c) = l.laid (runs_of so.netlist.cells) h.cells.holds in
        (refl, runs_cramped so.netlist c (roomy_is so.netlist h.tally.roomy) (omega (arith, k, length-append (runs_of so.netlist.cells) (cell_runs c))))

    -- and all is written
    module _ (counts : Counts) (l : RunsWith text w (laid_of n) rows bits (Some counts) rows' bits') (index : ℕ) (small : index < 65536) (place : Place) (fresh : row_of so.cell_numbers index ≡ 0)
        (meta : ℕ) (is-meta : meta ≡ ref_row so.meta_numbers w.meta) (rows'' work' : List ℕ)
        (written : cells_in rows'' ≡ sets (cells_in rows') (n.cells * 9) (cell_words w meta counts)) (else : SameBut 9411 4608 rows' rows'') (worked : WorkWith n.cells index w work work') where
      abbrev c : Cell
      c = cell_of text so w

      counted : Counted (runs_of so.netlist.cells) (operand_runs text w.a) (operand_runs text w.b) (operand_runs text w.c) counts (runs_in rows') (run_trits_in bits')
      counted = l.laid (runs_of so.netlist.cells) h.cells.holds

      words_are : cell_words w meta counts ≡ cell_note (record { cell = c; name_at = name_from w })
      unfolding cell_note
      words_are = rw (is-meta, name_long text w i, counted.a, counted.b, counted.c)

      cells_are : cells_in rows'' ≡ sets (cells_in rows) (n.cells * 9) (cell_note (record { cell = c; name_at = name_from w }))
      cells_are = written ∙ ap (λ (t : List ℕ). sets t (n.cells * 9) (cell_words w meta counts)) (l.kept_rows.before 9411 4608 (omega arith)) ∙ ap (sets (cells_in rows) (n.cells * 9)) words_are

      runs_are : runs_in rows'' ≡ runs_in rows'
      runs_are = else.after 14019 12288 (omega arith)

      room_more : roomy (said_with text so index w).netlist ≡ true
      room_more =
          let r = roomy_is so.netlist h.tally.roomy in
          let t = h.tally in
          let o = keep_loose in
          roomy_more so.netlist c r (omega (arith, keep_few)) (omega (arith, o.bits, t.declared)) (omega (arith, o.outputs, t.outputs, out_is text w i so))
          (omega (arith, counted.holds.long, length-append (runs_of so.netlist.cells) (cell_runs c))) (omega (arith, o.name, name_long text w i)) (omega (arith, o.strings, t.strings, name_long text w i))

      pub keep_more : Kept text so index place w (Ok (tally_with n w counts.so counts.bare)) rows'' bits' work'
      keep_more = (
        room_more,
        record {
          long_rows = else.long ∙ l.kept_rows.long ∙ h.long_rows;
          long_bits = l.kept_bits.long ∙ h.long_bits;
          long_work = worked.long ∙ h.long_work;
          metas = metas_same text so.netlist.metas so.meta_numbers
              (else.before 3 8192 (omega arith) ∙ l.kept_rows.before 3 8192 (omega arith))
              (else.before 8195 1024 (omega arith) ∙ l.kept_rows.before 8195 1024 (omega arith))
              (l.kept_bits.before 0 131072 (omega arith)) worked.metas h.metas;
          ios = ios_same text so.netlist.ios (else.before 9219 192 (omega arith) ∙ l.kept_rows.before 9219 192 (omega arith)) h.ios;
          cells =
              held_more text so.netlist.cells so.cell_numbers so.pieces (cells_in rows) (runs_in rows) (run_trits_in bits) (cell_map_in work) (places_in work) (laid_of n) n.bare h.cells
              c (name_from w) index w.a w.b w.c keep_few (name_spells text w i) (known_most text w i so keep_fits) fresh small
              (n.cells * 9) (n.cells * 3) (n.cells + 1) (ap (λ (m : ℕ). m * 9) h.tally.cells) (ap (λ (m : ℕ). m * 3) h.tally.cells) (ap (λ (m : ℕ). m + 1) h.tally.cells)
              cells_are (subst (λ (t : List ℕ). Holds (runs_of so.netlist.cells ++ cell_runs c) t (run_trits_in bits') counts.so) (sym runs_are) counted.holds) worked.numbered worked.places
              (n.bare || counts.bare) (λ e. let b = or_false n.bare counts.bare e in (b.0, cell_covers text w (sym l.tells ∙ b.1)));
          tally =
              tallied_more so.netlist c n (tally_with n w counts.so counts.bare) h.tally room_more refl refl refl refl refl
              (omega (arith, counted.holds.count, h.tally.runs, length-append (runs_of so.netlist.cells) (cell_runs c)))
              (omega (arith, counted.holds.filled, h.tally.known, run_bits_append (runs_of so.netlist.cells) (cell_runs c)))
              refl (ap (λ (m : ℕ). n.outputs + m) (sym (out_is text w i so))) (ap (λ (m : ℕ). n.strings + m) (sym (name_long text w i)));
        },
      )
