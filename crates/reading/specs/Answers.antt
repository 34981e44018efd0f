-- What the steps of a reading answer.
use Rattle.ground.specs.declared.Place.{Place}
use Rattle.ground.specs.declared.Refusal.{Refusal}
use Rattle.std.specs.Prelude.{◌≡◌, Bool, false, List, ℕ, Result, Ok, Err, Option}
use Rattle.ground.specs.Choice.{pick}
use Rattle.ground.specs.Regions.{zeros}
use Rattle.netlist.specs.Rules.{widths_of}
use Rattle.netlist.specs.Netlist.{Netlist}
use Rattle.netlist.specs.Tables.{layout, rows_of, bits_of, rows_length, strings_length, bits_length}
use Rattle.saying.specs.Pieces.{first_unresolved}
use Rattle.saying.specs.Rules.{Sofar}
use Rattle.noting.specs.Noted.{cells_in, runs_in, cell_map_in, Noted}
use Rattle.noting.specs.declared.Tally.{Tally}
use Rattle.resolving.specs.Resolving.{rows_resolve, lost_at}
use Rattle.declaring.specs.Reading.{says, refused, read_sound}
use Rattle.declaring.specs.Going.{Whole}

-- 14 of the run rows, where no part was bare
abbrev pub rows_found : Tally → List ℕ → List ℕ → Bool
rows_found n rows work = pick n.bare false (rows_resolve (cell_map_in work) (cells_in rows) n.runs (runs_in rows))

-- 14 of all that is noted
pub record FindsLost (text : List ℕ) (n : Tally) (rows work : List ℕ) (r : Option Place) : Type 0 where
  pub is : (so : Sofar) (bits : List ℕ) → Noted text so n rows bits work → r ≡ lost_at (first_unresolved so.cell_numbers (widths_of so.netlist.cells) so.pieces)

-- the netlist that the text says is laid
pub record Laid (text words pool trits : List ℕ) : Type 0 where
  pub netlist : Netlist
  pub is : read_sound text ≡ says netlist
  pub rows : words ≡ rows_of (layout netlist)
  pub strings : pool ≡ (layout netlist).strings
  pub bits : trits ≡ bits_of (layout netlist)

abbrev pub AnswersOf : List ℕ → Result (Unit {0}) Refusal → List ℕ → List ℕ → List ℕ → Type 0
AnswersOf text (Ok tt) rows strings bits = Laid text rows strings bits
AnswersOf text (Err g) rows strings bits = read_sound text ≡ refused g

pub record Answers (text : List ℕ) (r : Result (Unit {0}) Refusal) (rows strings bits : List ℕ) : Type 0 where
  pub of : AnswersOf text r rows strings bits

-- all declarations are noted, whatever the trits
pub record SomeWhole (text : List ℕ) (n : Tally) (rows work : List ℕ) : Type 0 where
  pub bits : List ℕ
  pub whole : Whole text n rows bits work

pub record Ends (text : List ℕ) (n : Tally) (rows work : List ℕ) (r : Result (Unit {0}) Refusal) (rows' strings' : List ℕ) : Type 0 where
  pub of : (bits : List ℕ) → Whole text n rows bits work → Answers text r rows' strings' bits

-- the tables stay as they are, or are zero
abbrev pub ClearsOf : Result (Unit {0}) Refusal → List ℕ → List ℕ → List ℕ → Result (Unit {0}) Refusal → List ℕ → List ℕ → List ℕ → Type 0
ClearsOf (Ok tt) rows strings bits v rows' strings' bits' = (v ≡ Ok tt) × (rows' ≡ rows) × (strings' ≡ strings) × (bits' ≡ bits)
ClearsOf (Err g) rows strings bits v rows' strings' bits' =
    (v ≡ Err g) × (rows' ≡ zeros rows_length) × (strings' ≡ zeros strings_length) × (bits' ≡ zeros bits_length)

pub record Clears (r : Result (Unit {0}) Refusal) (rows strings bits : List ℕ) (v : Result (Unit {0}) Refusal) (rows' strings' bits' : List ℕ) : Type 0 where
  pub of : ClearsOf r rows strings bits v rows' strings' bits'
