-- WHAT READING ACCEPTS IS VALID: the netlist that a text says keeps every rule of 9 to 14, Text's number ranges and the limits of Room,
-- with operands as longest runs.
use Rattle.form.specs.Form.{Form}
use Rattle.std.specs.Prelude.{Result, Ok, Err, Some, None}
use mathlib.Core.Path.{◌≡◌, refl, ap, ap₂, subst, ◌∙◌}
use mathlib.Core.Bool.{Bool, true}
use mathlib.Core.List.{List, [], ◌∷◌, ◌++◌, map}
use mathlib.Core.Option.{Option, none, some}
use Prim.Native.Nat.{ℕ, zero, suc, ◌+◌}
use native.Mathlib.Omega.{arith}
use lib.Dec.{eqb}
use lib.ListN.{length}
use Rattle.ground.specs.Choice.{pick}
use Rattle.ground.specs.Lists.{every, total, joined}
use Rattle.ground.specs.declared.Place.{Place}
use Rattle.ground.specs.declared.Refusal.{Refusal}
use Rattle.ground.proofs.Bools.{facts, every_first, every_more, no_facts}
use Rattle.ground.proofs.Counts.{length_mapped}
use Rattle.kinds.specs.Kinds.{input_kind, output_kind}
use Rattle.scanning.specs.Whole.{whole_of}
use Rattle.form.specs.Forms.{form_at}
use Rattle.netlist.specs.Netlist.{Io, Cell, Netlist, runs_of, strings_of, meta_strings}
use Rattle.netlist.specs.Rules.{distinct, names_as, output_bits, short_string, roomy, is_byte, cell_sound, widths_of, valid}
use Rattle.netlist.proofs.Laying.{roomy_is, is_roomy}
use Rattle.saying.specs.Values.{row_run, row_cell}
use Rattle.saying.specs.Pieces.{first_unresolved}
use Rattle.saying.specs.Rules.{Sofar, nothing, said_by, added, ruled_out}
use Rattle.noting.proofs.Forming.{formed}
use Rattle.declaring.specs.Reading.{Declarations, all, stopped, declarations_from, netlist_of, Reading, says, refused, resolved, declared, read_sound, reading}
use Rattle.reading.proofs.Final as final
use Rattle.accepting.proofs.Bytes.{sound_bytes}
use Rattle.accepting.proofs.Forms.{meant}
use Rattle.accepting.proofs.Numbers.{width_rowed}
use Rattle.accepting.proofs.Names.{names_rowed}
use Rattle.accepting.proofs.Said.{said_sound}
use Rattle.accepting.proofs.Sound.{passed, Sound, nothing_sound, sound_more}

-- ROWS FOR NUMBERS change no width and no limit
module _ (ns : List ℕ) where
  widths_rowed : (cs : List Cell) → widths_of (map (row_cell ns) cs) ≡ widths_of cs
  widths_rowed [] = refl
  widths_rowed (c ∷ cs) = ap (λ (l : List ℕ). c.width ∷ l) (widths_rowed cs)

  bits_rowed : (cs : List Cell) → total (λ (c : Cell). c.width) (map (row_cell ns) cs) ≡ total (λ (c : Cell). c.width) cs
  unfolding total
  bits_rowed [] = refl
  bits_rowed (c ∷ cs) = ap (λ (n : ℕ). c.width + n) (bits_rowed cs)

  outputs_rowed : (cs : List Cell) → total output_bits (map (row_cell ns) cs) ≡ total output_bits cs
  unfolding total
  outputs_rowed [] = refl
  outputs_rowed (c ∷ cs) = ap₂ (λ (n m : ℕ). pick (eqb c.kind output_kind) n 0 + m) (width_rowed ns c.a) (outputs_rowed cs)

  every_rowed : (p : Cell → Bool) (cs : List Cell) → every (λ (c : Cell). p (row_cell ns c)) cs ≡ true → every p (map (row_cell ns) cs) ≡ true
  unfolding every
  every_rowed p [] h = refl
  every_rowed p (c ∷ cs) h = let f = every_first (λ (c : Cell). p (row_cell ns c)) c cs h in every_more p (row_cell ns c) (map (row_cell ns) cs) f.0 (every_rowed p cs f.1)

  strings_rowed : (N : Netlist) → strings_of (record { metas = N.metas; ios = N.ios; cells = map (row_cell ns) N.cells }) ≡ strings_of N
  strings_rowed N = ap (λ (l : List ℕ). meta_strings N.metas ++ (joined (λ (i : Io). i.name) N.ios ++ l)) (final.names_rowed ns N.cells)

  roomy_rowed : (N : Netlist) → roomy N ≡ true → roomy (record { metas = N.metas; ios = N.ios; cells = map (row_cell ns) N.cells }) ≡ true
  roomy_rowed N h =
      let r = roomy_is N h in
      let cs = N.cells in
      let runs : length (runs_of (map (row_cell ns) cs)) ≡ length (runs_of cs) = ap length (final.runs_rowed ns cs) ∙ length_mapped (row_run ns) (runs_of cs) in
      is_roomy (record { metas = N.metas; ios = N.ios; cells = map (row_cell ns) cs })
      record {
        cells = omega (arith, length_mapped (row_cell ns) cs, r.cells);
        bits = omega (arith, bits_rowed cs, r.bits);
        outputs = omega (arith, outputs_rowed cs, r.outputs);
        runs = omega (arith, runs, r.runs);
        metas = r.metas;
        members = r.members;
        ios = r.ios;
        meta_strings = r.meta_strings;
        io_strings = r.io_strings;
        cell_strings = every_rowed (λ (c : Cell). short_string c.name) cs r.cell_strings;
        strings = omega (arith, ap length (strings_rowed N), r.strings);
      }

-- WHERE EVERY PIECE RESOLVES
pub sound_valid : (so : Sofar) → Sound so → first_unresolved so.cell_numbers (widths_of so.netlist.cells) so.pieces ≡ none → valid (netlist_of so) ≡ true
unfolding valid netlist_of
sound_valid so h e =
    let ns = so.cell_numbers in
    let cs = so.netlist.cells in
    let cells : every (cell_sound (widths_of (map (row_cell ns) cs)) (length so.netlist.metas)) (map (row_cell ns) cs) ≡ true =
    rw (widths_rowed ns cs) (every_rowed ns (cell_sound (widths_of cs) (length so.netlist.metas)) cs (h.cells ns (widths_of cs) e)) in
    let inputs : distinct (names_as input_kind (map (row_cell ns) cs)) ≡ true = rw (names_rowed input_kind ns cs) h.inputs in
    let outputs : distinct (names_as output_kind (map (row_cell ns) cs)) ≡ true = rw (names_rowed output_kind ns cs) h.outputs in
    facts _ _ (roomy_rowed ns so.netlist h.room) (facts _ _ h.metas (facts _ _ h.ios (facts _ _ h.io_named (facts _ _ cells (facts _ _ inputs (facts _ _ outputs no_facts))))))

-- ALL DECLARATIONS
abbrev counted : Declarations → ℕ
counted (all so) = 0
counted (stopped g) = 1

abbrev said_in : Sofar → Declarations → Sofar
said_in old (all so) = so
said_in old (stopped g) = old

module _ (text : List ℕ) (bytes : every is_byte text ≡ true) where
  all_sound : (f k : ℕ) (so so' : Sofar) → Sound so → declarations_from f text k so ≡ all so' → Sound so'
  unfolding declarations_from
  all_sound zero k so so' h e = subst Sound (ap (said_in so) e) h
  all_sound (suc f) k so so' h e = go (form_at text k) refl (λ j so'' s. all_sound f j so'' so' s)
    where
      go : (v : Form) → form_at text k ≡ v → ((j : ℕ) (so'' : Sofar) → Sound so'' → declarations_from f text j so'' ≡ all so' → Sound so') → Sound so'
      go (Err g) v ih = let z : ◌≡◌ {A = ℕ} 1 0 = ap counted (rw (v, declarations_from) at e) in absurd (omega arith)
      go (Ok None) v ih = subst Sound (ap (said_in so) (rw (v, declarations_from) at e)) h
      go (Ok (Some (d, r))) v ih = ruling (ruled_out text so d) refl
        where
          ruling : (x : Option Refusal) → ruled_out text so d ≡ x → Sound so'
          ruling (some g) o = let z : ◌≡◌ {A = ℕ} 1 0 = ap counted (rw (v, declarations_from, o, declarations_from) at e) in absurd (omega arith)
          ruling none o =
              let p = passed text so d o in
              let s = said_sound text bytes so d.decl (formed text k d r v).decl (meant text k d r v) p.named in
              ih r.next.at (added so d.index (said_by text so d.decl)) (sound_more text so d h (said_by text so d.decl) s p) (rw (v, declarations_from, o, declarations_from) at e)

-- ACCEPTED
abbrev netlist_in : Netlist → Reading → Netlist
netlist_in old (says N) = N
netlist_in old (refused g) = old

never_says : {P : Type 0} (g : Refusal) (N : Netlist) → refused g ≡ says N → P
never_says g N e = let z : ◌≡◌ {A = ℕ} 0 1 = cc in absurd (omega arith)

resolved_valid : (so : Sofar) (N : Netlist) (x : Option Place) → first_unresolved so.cell_numbers (widths_of so.netlist.cells) so.pieces ≡ x → Sound so → resolved so x ≡ says N → valid N ≡ true
resolved_valid so N none f h e = subst (λ (M : Netlist). valid M ≡ true) (ap (netlist_in N) e) (sound_valid so h f)
resolved_valid so N (some p) f h e = never_says _ N e

declared_valid : (N : Netlist) (ds : Declarations) → ((so : Sofar) → ds ≡ all so → Sound so) → declared ds ≡ says N → valid N ≡ true
declared_valid N (all so) h e = resolved_valid so N (first_unresolved so.cell_numbers (widths_of so.netlist.cells) so.pieces) refl (h so refl) e
declared_valid N (stopped g) h e = never_says g N e

sound_accepted : (text : List ℕ) (N : Netlist) → every is_byte text ≡ true → read_sound text ≡ says N → valid N ≡ true
unfolding read_sound
sound_accepted text N bytes e = declared_valid N (declarations_from (suc (length text)) text 0 nothing) (λ so. all_sound text bytes (suc (length text)) 0 nothing so nothing_sound) e

pub accepted_valid : (text : List ℕ) (N : Netlist) → reading text ≡ says N → valid N ≡ true
unfolding reading
accepted_valid text N e = go (whole_of text) refl
  where
    go : (w : Result (Unit {0}) Refusal) → whole_of text ≡ w → valid N ≡ true
    go (Ok tt) f = sound_accepted text N (sound_bytes text f) (rw f at e)
    go (Err g) f = never_says g N (rw f at e)
