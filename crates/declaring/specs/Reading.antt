-- What a text says: a netlist, or a refusal. Document 01, Refusal numbers: "Reading: 1 to 4 over all the text; then each declaration,
-- first form (5 to 8, left to right, the smaller at one place), then 9 to 13 by number; last 14, left to right."
use Rattle.std.specs.Prelude.{ℕ, zero, suc, List, [], ◌∷◌, map, length, Result, Ok, Err, Some, None}
use Rattle.std.proofs.Math.Option.{Option, none, some}
use Rattle.ground.specs.Refusals.{at, refusal}
use Rattle.ground.specs.declared.Place.{Place}
use Rattle.ground.specs.declared.Refusal.{Refusal}
use Rattle.scanning.specs.Whole.{whole_of}
use Rattle.form.specs.Forms.{form_at}
use Rattle.netlist.specs.Netlist.{Netlist}
use Rattle.netlist.specs.Rules.{widths_of}
use Rattle.saying.specs.Values.{row_cell}
use Rattle.saying.specs.Pieces.{first_unresolved}
use Rattle.saying.specs.Rules.{Sofar, nothing, said_by, added, ruled_out}

-- the declarations from the place on
pub data Declarations : Type 0 where
  all : Sofar → Declarations
  stopped : Refusal → Declarations

-- each declaration takes a byte at least (language/proofs/Progress, `took_past`), so the first line is never met
unfoldable pub declarations_from : ℕ → List ℕ → ℕ → Sofar → Declarations
declarations_from zero text k so = all so
declarations_from (suc f) text k so = elim (form_at text k) [
  | Err g ↦ stopped g
  | Ok None ↦ all so
  | Ok (Some (d, r)) ↦ elim (ruled_out text so d) [
    | some g ↦ stopped g
    | none ↦ declarations_from f text r.next.at (added so d.index (said_by text so d.decl))
  ]
]

-- the netlist, its pieces by rows
unfoldable pub netlist_of : Sofar → Netlist
netlist_of so = record { metas = so.netlist.metas; ios = so.netlist.ios; cells = map (row_cell so.cell_numbers) so.netlist.cells }

-- THE READING
pub data Reading : Type 0 where
  says : Netlist → Reading
  refused : Refusal → Reading

abbrev pub resolved : Sofar → Option Place → Reading
resolved so none = says (netlist_of so)
resolved so (some p) = refused (refusal 14 p)

-- last 14: "piece doesn't resolve"
abbrev pub declared : Declarations → Reading
declared (all so) = resolved so (first_unresolved so.cell_numbers (widths_of so.netlist.cells) so.pieces)
declared (stopped g) = refused g

unfoldable pub read_sound : List ℕ → Reading
read_sound text = declared (declarations_from (suc (length text)) text 0 nothing)

abbrev read_whole : List ℕ → Result (Unit {0}) Refusal → Reading
read_whole text (Ok tt) = read_sound text
read_whole text (Err g) = refused g

unfoldable pub reading : List ℕ → Reading
reading text = read_whole text (whole_of text)
