-- The pieces of an operand as the text has them, each with its place. Document 01, Text: a piece resolves "also for w = 0 or a
-- repetition by 0".
use Rattle.std.specs.Prelude.{ℕ, ◌-◌, Bool, true, false, not, ◌&&◌, List, [], ◌∷◌, leb}
use Rattle.std.proofs.Math.Option.{Option, none, some}
use Rattle.ground.specs.Lists.{joined}
use Rattle.ground.specs.declared.Place.{Place}
use Rattle.brackets.specs.Parts.{parts_at}
use Rattle.brackets.specs.declared.Piece.{Piece}
use Rattle.brackets.specs.declared.Base.{Base}
use Rattle.brackets.specs.declared.Base.TheVariants as base
use Rattle.brackets.specs.declared.Part.{Part}
use Rattle.brackets.specs.declared.Part.TheVariants as part
use Rattle.brackets.specs.declared.Operand.{Operand}
use Rattle.netlist.specs.Rules.{resolves}
use Rattle.saying.specs.Values.{row_of}

pub record PieceAt : Type 0 where
  pub piece : Piece
  pub place : Place

abbrev pub base_pieces : Place → Base → List PieceAt
base_pieces k (base.Constant s) = []
base_pieces k (base.Cell p) = record { piece = p; place = k } ∷ []

abbrev pub base_in : Part → Base
base_in (part.One b) = b
base_in (part.Repeated b n) = b

unfoldable pub operand_pieces : List ℕ → Operand → List PieceAt
operand_pieces text o = joined (λ p. base_pieces p.place (base_in p.part)) (parts_at text o)

-- RULE 14: "piece doesn't resolve". The author's cell numbers and the cells' widths are given by row.
abbrev pub unresolved : List ℕ → List ℕ → PieceAt → Bool
unresolved numbers widths p =
    let row = row_of numbers p.piece.cell in
    not (leb 1 row && resolves widths (row - 1) p.piece.offset p.piece.width)

unfoldable pub first_unresolved : List ℕ → List ℕ → List PieceAt → Option Place
first_unresolved numbers widths [] = none
first_unresolved numbers widths (p ∷ ps) = elim (unresolved numbers widths p) [
  | true ↦ some p.place
  | false ↦ first_unresolved numbers widths ps
]
