-- READING ACCEPTS EXACTLY THE LANGUAGE: a text says a netlist where its declarations stand and keep every rule, and nowhere else.
use Rattle.std.specs.Prelude.{Result, Ok, Err}
use mathlib.Core.Path.{◌≡◌, refl, ap}
use mathlib.Core.List.{List}
use mathlib.Core.Option.{Option, none, some}
use Prim.Native.Nat.{ℕ, suc, ◌<◌}
use native.Mathlib.Omega.{arith}
use lib.ListN.{length}
use Rattle.ground.specs.declared.Place.{Place}
use Rattle.ground.specs.declared.Refusal.{Refusal}
use Rattle.scanning.specs.Whole.{whole_of}
use Rattle.netlist.specs.Netlist.{Netlist}
use Rattle.netlist.specs.Rules.{widths_of}
use Rattle.saying.specs.Pieces.{first_unresolved}
use Rattle.saying.specs.Rules.{Sofar, nothing}
use Rattle.declaring.specs.Reading.{Declarations, all, stopped, declarations_from, Reading, says, refused, resolved, declared, read_sound, reading}
use Rattle.accepting.proofs.Bytes.{sound_bytes}
use Rattle.language.specs.Language.{Says, say}
use Rattle.language.proofs.Progress.{stand_short}
use Rattle.language.proofs.Firsts.{all_resolved, none_unresolved}
use Rattle.language.proofs.Telling.{Kept, all_told}
use Rattle.language.proofs.Taking.{Stood, all_stood}

-- RULE 14: the first piece that does not resolve
abbrev first_lost : Sofar → Option Place
first_lost so = first_unresolved so.cell_numbers (widths_of so.netlist.cells) so.pieces

-- A TEXT THAT SAYS A NETLIST is read so
pub says_read : (text : List ℕ) (N : Netlist) → Says text N → reading text ≡ says N
unfolding reading read_sound
says_read text N s =
    let so = say text s.declarations in
    let kept : Kept so = record { meta_numbers = s.meta_numbers; cell_numbers = s.cell_numbers; pads = s.pads; inputs = s.inputs; outputs = s.outputs; room = s.room } in
    let few : length s.declarations < suc (length text) = (let h = stand_short s.stand in omega arith) in
    let told : declarations_from (suc (length text)) text 0 nothing ≡ all so = all_told text s.stand (suc (length text)) nothing few kept s.references s.complete s.widths in
    let found : first_lost so ≡ none = all_resolved so.cell_numbers (widths_of so.netlist.cells) so.pieces s.pieces in
    rw (s.sound, told, found) (ap says s.is)

-- a refusal is no netlist
never_says : {P : Type 0} (g : Refusal) (N : Netlist) → refused g ≡ says N → P
never_says g N e = let z : ◌≡◌ {A = ℕ} 0 1 = cc in absurd (omega arith)

abbrev netlist_in : Netlist → Reading → Netlist
netlist_in old (says N) = N
netlist_in old (refused g) = old

-- with every piece resolved
resolved_says : (text : List ℕ) (N : Netlist) → whole_of text ≡ Ok tt → (so : Sofar) → Stood text 0 nothing so → (x : Option Place) → first_lost so ≡ x → resolved so x ≡ says N → Says text N
resolved_says text N sound so s (some p) f e = never_says _ N e
resolved_says text N sound so s none f e =
    let same = s.said in
    record {
      sound = sound;
      declarations = s.declarations;
      stand = s.stand;
      meta_numbers = rw same s.numbered.metas;
      cell_numbers = rw same s.numbered.cells;
      pads = rw same s.sound.io_named;
      inputs = rw same s.sound.inputs;
      outputs = rw same s.sound.outputs;
      references = s.references;
      complete = s.complete;
      widths = s.widths;
      room = rw same s.sound.room;
      pieces = rw same (none_unresolved so.cell_numbers (widths_of so.netlist.cells) so.pieces f);
      is = rw same (ap (netlist_in N) e);
    }

-- with every declaration taken
declared_says : (text : List ℕ) (N : Netlist) → whole_of text ≡ Ok tt → (ds : Declarations) → declarations_from (suc (length text)) text 0 nothing ≡ ds → declared ds ≡ says N → Says text N
declared_says text N sound (stopped g) f e = never_says g N e
declared_says text N sound (all so) f e = resolved_says text N sound so (all_stood text (sound_bytes text sound) so f) (first_lost so) refl e

-- A TEXT THAT IS READ says what is read
pub read_says : (text : List ℕ) (N : Netlist) → reading text ≡ says N → Says text N
unfolding reading read_sound
read_says text N e = go (whole_of text) refl
  where
    go : (w : Result (Unit {0}) Refusal) → whole_of text ≡ w → Says text N
    go (Ok tt) f = declared_says text N f (declarations_from (suc (length text)) text 0 nothing) refl (rw f at e)
    go (Err g) f = never_says g N (rw f at e)
