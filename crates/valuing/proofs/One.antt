-- Each public function has one outcome: any two that its contract allows are equal.
use mathlib.Core.Path.{◌≡◌, sym, ◌∙◌}
use mathlib.Core.List.{List}
use Prim.Native.Nat.{ℕ}
use lib.ListN.{get_or}
use lib.Seq.{sets}
use Rattle.ground.specs.Writes.{Put}
use Rattle.ground.proofs.Outcome.{any_two}
use Rattle.netlist.specs.Netlist.{Run}
use Rattle.valuing.specs.Row.{row_value}

pub work_row_one : (cells : List ℕ) (pool : List Run) (starts : List ℕ) (row : ℕ) (values o p : List ℕ)
    → o ≡ sets values (get_or starts row 0) (row_value cells pool starts values row)
    → p ≡ sets values (get_or starts row 0) (row_value cells pool starts values row) → o ≡ p
work_row_one cells pool starts row = any_two (λ values. sets values (get_or starts row 0) (row_value cells pool starts values row))

-- what is given is the answer and the place behind it
module _ (old : List ℕ) (at : ℕ) (bits : List ℕ) (m n : ℕ) (o p : List ℕ) (f : Put old at bits m o) (g : Put old at bits n p) where
  pub give_row_one : o ≡ p
  give_row_one = f.holds ∙ sym g.holds

  pub give_row_next_one : m ≡ n
  give_row_next_one = f.next ∙ sym g.next
