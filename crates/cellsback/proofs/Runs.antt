-- Printed runs back: each is one part of an operand, with the run's width and bits, and its piece resolves.
use mathlib.Core.Path.{◌≡◌, refl, ap}
use mathlib.Core.Bool.{Bool, true, false, not, ◌&&◌}
use mathlib.Core.List.{List}
use mathlib.Core.Option.{none}
use Prim.Native.Nat.{ℕ, ◌+◌, ◌-◌, ◌<◌, ◌≤◌}
use native.Mathlib.Omega.{arith}
use lib.Dec.{eqb, leb, ltb}
use lib.ListN.{drop, length, get_or}
use borrow.Author.Tests.{eqb-true, leb-true, le-leb, ltb-true}
use Rattle.ground.specs.Lists.{every, joined}
use Rattle.ground.proofs.Bools.{and_true}
use Rattle.lexis.specs.Tokens.{written, token, constant, cell}
use Rattle.lexis.specs.declared.Token.{Token}
use Rattle.brackets.specs.Parts.{PartAt, is_part, part_of, part_width}
use Rattle.netlist.specs.Netlist.{Run, const, piece, run_width}
use Rattle.netlist.specs.Runs.{Bit, run_bits, known_bits}
use Rattle.netlist.specs.Rules.{is_trit, resolves, run_sound}
use Rattle.saying.specs.Values.{row_of, part_bits}
use Rattle.saying.specs.Pieces.{PieceAt, base_pieces, base_in, first_unresolved}
use Rattle.operands.specs.Operands.{run}
use Rattle.fronts.specs.Fronts.{number_run}
use Rattle.tokensback.proofs.Standing.{Stands, Takes, ends}
use Rattle.tokensback.proofs.Tokens.{constant_back, constant_meant, piece_back}

-- numbers and widths of the same cells; a number tells its row
pub record Numbered (numbers widths : List ℕ) : Type 0 where
  pub long : length widths ≡ length numbers
  pub small : (row : ℕ) → (get_or numbers row 0 ≤ 65535) × (get_or widths row 0 ≤ 65535)
  pub apart : (row : ℕ) → row < length numbers → row_of numbers (get_or numbers row 0) ≡ row + 1

-- what parts say: their bits, and their pieces with their places
abbrev pub said_bits : List ℕ → List PartAt → List Bit
said_bits text ps = joined (λ p. part_bits text p.part) ps

abbrev pub said_pieces : List PartAt → List PieceAt
said_pieces ps = joined (λ p. base_pieces p.place (base_in p.part)) ps

-- a token that is one part, and says the run by the numbers of cells
pub record IsRun (text numbers widths : List ℕ) (r : Run) (t : Token) : Type 0 where
  pub part : is_part t ≡ true
  pub wide : part_width (part_of t) ≡ run_width r
  pub bits : part_bits text (part_of t) ≡ run_bits (number_run numbers r)
  pub found : first_unresolved numbers widths (base_pieces t.place (base_in (part_of t))) ≡ none

-- a run is next
pub record TakesRun (text numbers widths : List ℕ) (k : ℕ) (r : Run) (s : List ℕ) : Type 0 where
  pub token : Token
  pub takes : Takes text k token s
  pub is : IsRun text numbers widths r token

module _ (text numbers widths : List ℕ) (numbered : Numbered numbers widths) where
  -- a written piece is no repetition
  once : (a b : Bool) → leb 4 (written a b false) ≡ false
  once true true = refl
  once true false = refl
  once false true = refl
  once false false = refl

  piece_found : (row o w : ℕ) → resolves widths row o w ≡ true
      → (leb 1 (row_of numbers (get_or numbers row 0)) && resolves widths (row_of numbers (get_or numbers row 0) - 1) o w) ≡ true
  piece_found row o w p =
      let q = and_true (ltb row (length widths)) (leb (o + w) (get_or widths row 0)) p in
      let l : row < length numbers = (let m = ltb-true row (length widths) q.0 in let e = numbered.long in omega arith) in
      let e : row + 1 - 1 ≡ row = omega arith in
      rw (numbered.apart row l, e, le-leb 1 (row + 1) (omega arith)) p

  piece_is : (k row o w : ℕ) (a b : Bool) → resolves widths row o w ≡ true
      → IsRun text numbers widths (piece row o w) (token cell k (get_or numbers row 0) 0 0 (written a b false) o w 0)
  unfolding first_unresolved
  piece_is k row o w a b p = record {
    part = refl;
    wide = rw (once a b);
    bits = rw (once a b);
    found = rw (once a b, piece_found row o w p, first_unresolved);
  }

  const_is : (k : ℕ) (ts s : List ℕ) → every is_trit ts ≡ true → drop k text ≡ run numbers widths (const ts) s
      → IsRun text numbers widths (const ts) (token constant k 0 k (length ts) 0 0 0 0)
  unfolding first_unresolved
  const_is k ts s p h = record { part = refl; wide = refl; bits = ap known_bits (constant_meant text k ts s p h); found = refl }

  -- a printed run, read again
  pub run_back : {k : ℕ} {s : List ℕ} (r : Run) → run_sound widths r ≡ true → ends s ≡ true → Stands text k (run numbers widths r s) → TakesRun text numbers widths k r s
  run_back (const ts) p e h =
      let q = and_true (leb 1 (length ts)) (every is_trit ts) p in
      record { token = _; takes = constant_back text _ ts (leb-true 1 (length ts) q.0) q.1 e h; is = const_is _ ts _ q.1 h.rest }
  run_back (piece row o w) p e h =
      let q = and_true (leb 1 w) (resolves widths row o w) p in
      let m = and_true (ltb row (length widths)) (leb (o + w) (get_or widths row 0)) q.1 in
      let l = leb-true (o + w) (get_or widths row 0) m.1 in
      let b = numbered.small row in
      let whole = eqb o 0 && eqb w (get_or widths row 0) in
      record {
        token = _;
        takes = piece_back text _ (get_or numbers row 0) o w whole (λ t. eqb-true o 0 (and_true (eqb o 0) (eqb w (get_or widths row 0)) t).0) b.0 (omega arith) (omega arith) e h;
        is = piece_is _ row o w (not whole) (not (eqb w 1)) q.1;
      }
