-- What the making of a cell leaves: its records in a lent list, the slots of its bits in a lent row of slots, and their number.
use Rattle.std.specs.Prelude.{◌≡◌, List, ℕ, ◌+◌, ◌*◌, ◌≤◌, length}
use Rattle.std.proofs.lemmas.List.Edits.{sets}
use Rattle.loadlist.specs.Records.{list_bytes}
use Rattle.loadlist.specs.declared.Record.{Record}
use Rattle.cells.specs.Records.{Made}

-- `new` is `old` with the records written over it from record k on
pub record Puts (old : List ℕ) (k : ℕ) (rs : List Record) (new : List ℕ) : Type 0 where
  pub is : new ≡ sets old (8 * k) (list_bytes rs)

-- the number told, the list and the row of slots
pub record Recorded : Type 0 where
  pub count : ℕ
  pub list : List ℕ
  pub outs : List ℕ

abbrev pub recorded : ℕ → List ℕ → List ℕ → Recorded
recorded n list outs = record { count = n; list = list; outs = outs }

-- what is made, from record k on and from the front of the row on
abbrev pub recorded_of : Made → ℕ → List ℕ → List ℕ → Recorded
recorded_of m k list outs = recorded (length m.records) (sets list (8 * k) (list_bytes m.records)) (sets outs 0 m.outs)

-- there is room for what is made
pub record Room (m : Made) (k : ℕ) (list outs : List ℕ) : Type 0 where
  pub slots : k + length m.records ≤ 8192
  pub bytes : 8 * (k + length m.records) ≤ length list
  pub bits : length m.outs ≤ length outs
