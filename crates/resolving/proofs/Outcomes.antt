-- `first_lost` has one outcome; `row_runs` has one where the runs are those of declared cells and the map is that of their numbers.
use Rattle.ground.specs.declared.Place.{Place}
use Rattle.std.specs.Prelude.{Option}
use mathlib.Core.Path.{◌≡◌, sym, ◌∙◌}
use mathlib.Core.List.{List}
use Prim.Native.Nat.{ℕ}
use Rattle.ground.proofs.Outcome.{any_two}
use Rattle.netlist.specs.Netlist.{Run}
use Rattle.saying.specs.Notes.{Maps}
use Rattle.resolving.specs.Resolving.{Numbered, RowsRuns, lost_of}

pub one_lost : (text numbered cells : List ℕ) (n : ℕ) (places : List ℕ) (o p : Option Place) → o ≡ lost_of text numbered cells n places → p ≡ lost_of text numbered cells n places → o ≡ p
one_lost text numbered cells n = any_two (lost_of text numbered cells n)

pub one_rows : (numbers : List ℕ) (rs : List Run) (numbered : List ℕ) (n : ℕ) (runs o p : List ℕ) → Maps numbers numbered → Numbered numbers rs runs n
    → RowsRuns numbered n runs o → RowsRuns numbered n runs p → o ≡ p
one_rows numbers rs numbered n runs o p m h s t = s numbers rs m h ∙ sym (t numbers rs m h)
