-- Parts without bits, and what the runs of an operand tell of its pieces. A part without bits leaves no run, so rule 14 can't be asked
-- of the runs alone where an operand has one.
use Rattle.laying.specs.declared.Counts.{Counts}
use Rattle.std.specs.Prelude.{ℕ, ◌+◌, ◌-◌, ◌≤◌, ◌≡◌, Bool, true, false, ◌&&◌, ◌||◌, List, [], ◌∷◌, leb, eqb, Option, Some, None}
use Rattle.std.proofs.Math.Option.{none}
use Rattle.ground.specs.Lists.{every, joined}
use Rattle.lexis.specs.declared.Token.{Token}
use Rattle.brackets.specs.Parts.{PartAt, part_of, part_width, parts_at}
use Rattle.form.specs.declared.Wiring.{Wiring}
use Rattle.brackets.proofs.Sums.{widths}
use Rattle.netlist.specs.Netlist.{Run, const, piece}
use Rattle.netlist.specs.Rules.{resolves}
use Rattle.netlist.specs.Runs.{cut}
use Rattle.saying.specs.Values.{row_of, part_bits}
use Rattle.saying.specs.Pieces.{PieceAt, first_unresolved}
use Rattle.laying.specs.Holding.{Holds, Held, After}
use Rattle.laying.specs.declared.Laid.{Laid}

-- a piece of width 0, or a repetition by 0
abbrev pub is_bare : PartAt → Bool
is_bare p = eqb (part_width p.part) 0

unfoldable pub some_bare : List PartAt → Bool
some_bare [] = false
some_bare (p ∷ ps) = is_bare p || some_bare ps

-- a run over the author's numbers resolves: its cell is declared, and it ends within the cell's width
abbrev pub run_resolves : List ℕ → List ℕ → Run → Bool
run_resolves numbers widths (const ts) = true
run_resolves numbers widths (piece n o w) = leb 1 (row_of numbers n) && resolves widths (row_of numbers n - 1) o w

-- where each run resolves, each piece does
pub record Covers (rs : List Run) (pieces : List PieceAt) : Type 0 where
  pub all : (numbers widths : List ℕ) → every (run_resolves numbers widths) rs ≡ true → first_unresolved numbers widths pieces ≡ none

-- THE ANSWERS: an operand's, and a cell's, tell whether a part has no bits
abbrev pub TellsBare : Bool → Option (Laid × Bool) → Type 0
TellsBare b (Some (so, bare)) = bare ≡ b
TellsBare b None = Unit {0}

abbrev pub cell_bare : List ℕ → Wiring → Bool
cell_bare text w = some_bare (parts_at text w.a) || (some_bare (parts_at text w.b) || some_bare (parts_at text w.c))

abbrev pub CellTellsBare : Bool → Option Counts → Type 0
CellTellsBare b (Some n) = n.bare ≡ b
CellTellsBare b None = Unit {0}

-- the part that a token is
abbrev pub token_part : Token → PartAt
token_part t = record { part = part_of t; place = t.place }

-- parts of an operand, no wider than one may be, and there is room for their trits
pub record PartsFit (ps : List PartAt) (runs trits : List ℕ) (so : Laid) : Type 0 where
  pub held : Held runs trits so
  pub narrow : widths ps ≤ 256
  pub room : so.trits + widths ps ≤ 262656

-- their runs stand behind those that stood, or there are too many; and the answer tells whether one has no bits
pub record PartsLaid (text : List ℕ) (ps : List PartAt) (runs trits : List ℕ) (so : Laid) (r : Option (Laid × Bool)) (runs' trits' : List ℕ) : Type 0 where
  pub laid : (rs : List Run) → Holds rs runs trits so → After rs (cut (joined (λ p. part_bits text p.part) ps)) r runs' trits'
  pub tells : TellsBare (some_bare ps) r
