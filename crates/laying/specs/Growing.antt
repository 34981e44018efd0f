-- An operand while it is laid: of its bits those before some place are laid, as longest runs.
use Rattle.std.specs.Prelude.{◌≡◌, List, [], ◌∷◌, ◌++◌, ℕ, ◌+◌, ◌-◌, ◌*◌, ◌≤◌, ◌<◌, Bool, false, ltb, eqb, length, get_or, Option, Some, None}
use Rattle.std.proofs.lemmas.List.Edits.{sets}
use Rattle.ground.specs.Choice.{pick}
use Rattle.brackets.specs.Parts.{PartAt}
use Rattle.brackets.specs.declared.Base.{Base}
use Rattle.brackets.specs.declared.Base.TheVariants as base
use Rattle.brackets.specs.declared.Part.{Part}
use Rattle.brackets.specs.declared.Part.TheVariants as part
use Rattle.netlist.specs.Netlist.{Run, run_bits_of}
use Rattle.netlist.specs.Runs.{Bit, cut}
use Rattle.laying.specs.Holding.{Holds}
use Rattle.laying.specs.declared.Laid.{Laid}

-- behind the runs rs stand those of the operand's bits `done`, its first run at the row `first`
pub record Open (rs : List Run) (done : List Bit) (first : ℕ) (runs trits : List ℕ) (so : Laid) : Type 0 where
  pub begun : first ≡ length rs
  pub holds : Holds (rs ++ cut done) runs trits so

-- .. some bits of it behind some runs, and there is room for n bits more
pub record Opened (first : ℕ) (runs trits : List ℕ) (so : Laid) (n : ℕ) : Type 0 where
  pub rs : List Run
  pub done : List Bit
  pub stands : Open rs done first runs trits so
  pub narrow : length done + n ≤ 256
  pub room : length (run_bits_of rs) + (length done + n) ≤ 262656

-- .. whatever the trits
pub record OpenedRows (first : ℕ) (runs : List ℕ) (so : Laid) (n : ℕ) : Type 0 where
  pub trits : List ℕ
  pub opened : Opened first runs trits so n

abbrev pub Grown : List Run → List Bit → ℕ → Option Laid → List ℕ → List ℕ → Type 0
Grown rs done first (Some so) runs trits = Open rs done first runs trits so
Grown rs done first None runs trits = 4096 < length (rs ++ cut done)

-- the bits `new` are laid behind whatever bits of the operand were laid; or the rows do not hold them
pub record Grows (first : ℕ) (runs trits : List ℕ) (so : Laid) (new : List Bit) (r : Option Laid) (runs' trits' : List ℕ) : Type 0 where
  pub behind : (rs : List Run) (done : List Bit) → Open rs done first runs trits so → Grown rs (done ++ new) first r runs' trits'

-- where the last run's row begins, and whether the operand has a last run that says `head`, and `from` where that matters
abbrev pub last_row : ℕ → ℕ
last_row n = 3 * (n - 1)

abbrev pub last_is : List ℕ → ℕ → ℕ → ℕ → Bool
last_is runs first n head = pick (ltb first n) (eqb (get_or runs (last_row n) 0) head) false

abbrev pub last_is_from : List ℕ → ℕ → ℕ → ℕ → ℕ → Bool
last_is_from runs first n head from = pick (last_is runs first n head) (eqb (get_or runs (last_row n + 1) 0) from) false

-- a row of its own behind those in use, with `size` trits; or all rows are in use
pub record NewRow (runs : List ℕ) (so : Laid) (row : List ℕ) (size : ℕ) (so' : Laid) (runs' : List ℕ) : Type 0 where
  pub few : so.runs < 4096
  pub is : runs' ≡ sets runs (3 * so.runs) row
  pub count : so'.runs ≡ so.runs + 1
  pub filled : so'.trits ≡ so.trits + size

abbrev pub Added : List ℕ → Laid → List ℕ → ℕ → Option Laid → List ℕ → Type 0
Added runs so row size (Some so') runs' = NewRow runs so row size so' runs'
Added runs so row size None runs' = so.runs ≡ 4096

-- a constant lies inside the text; the numbers of a piece are at most 65,535
abbrev pub BaseIn : List ℕ → Base → Type 0
BaseIn text (base.Constant s) = s.from + s.size ≤ length text
BaseIn text (base.Cell p) = (p.cell ≤ 65535) × (p.offset ≤ 65535)

abbrev pub PartIn : List ℕ → Part → Type 0
PartIn text (part.One b) = BaseIn text b
PartIn text (part.Repeated b n) = BaseIn text b

-- each of the parts
pub data PartsIn (text : List ℕ) : List PartAt → Type 0 where
  none : PartsIn text []
  more : {p : PartAt} {ps : List PartAt} → PartIn text p.part → PartsIn text ps → PartsIn text (p ∷ ps)
