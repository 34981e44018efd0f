-- Worked cases, computed: longest runs, and netlists that are valid but for one thing.
use Prim.Native.Nat.{ℕ}
use mathlib.Core.Path.{◌≡◌, refl}
use mathlib.Core.Bool.{Bool, true, false}
use mathlib.Core.List.{List, [], ◌∷◌, ◌++◌, map}
use lib.ListN.{replicate}
use Rattle.ground.specs.Lists.{every, all_of, total, joined}
use Rattle.ground.specs.Text.{bytes, same}
use Rattle.kinds.specs.Kinds.{kind_at}
use Rattle.netlist.specs.Netlist.{Run, const, piece, Meta, Cell, Netlist}
use Rattle.netlist.specs.Runs.{Bit, known, bit, cut, longest}
use Rattle.netlist.specs.Rules.{taken, distinct, names_as, roomy, metas_sound, valid}

-- bits, and the runs that they are cut into
pub record Cutting : Type 0 where
  pub bits : List Bit
  pub runs : List Run

abbrev cutting : List Bit → List Run → Cutting
cutting bs rs = record { bits = bs; runs = rs }

abbrev cuttings : List Cutting
cuttings =
    cutting [] []
    ∷ cutting (known 1 ∷ known 2 ∷ bit 0 3 ∷ bit 0 2 ∷ []) (const (1 ∷ 2 ∷ []) ∷ piece 0 2 2 ∷ [])
    -- rising bits, and bits of another cell, are runs of their own
    ∷ cutting (bit 0 2 ∷ bit 0 3 ∷ bit 1 2 ∷ bit 1 1 ∷ []) (piece 0 2 1 ∷ piece 0 3 1 ∷ piece 1 1 2 ∷ [])
    ∷ cutting (bit 4 1 ∷ bit 4 0 ∷ bit 4 1 ∷ bit 4 0 ∷ known 0 ∷ []) (piece 4 0 2 ∷ piece 4 0 2 ∷ const (0 ∷ []) ∷ [])
    ∷ []

cut_right : map (λ (c : Cutting). cut c.bits) cuttings ≡ map (λ (c : Cutting). c.runs) cuttings
unfolding cut
cut_right = refl

-- netlists that are valid but for one thing
unfoldable pub meta : ℕ → List ℕ → List ℕ → ℕ → Meta
meta kind name members inside =
    record { kind = kind; name = name; text = []; members = members; bits = []; inside = inside; source = 0; number = 0; line = 0; column = 0; end_line = 0; end_column = 0 }

unfoldable pub cell : ℕ → ℕ → List ℕ → ℕ → List Run → Cell
cell kind width name m a = record { kind = kind; width = width; name = name; meta = m; a = a; b = []; c = [] }

-- a scope, an ident in it, a set of both; a pad; a buffer that reads a later input, the input, an output
unfoldable pub netlist : List Meta → ℕ → ℕ → List Run → Netlist
unfolding meta cell
netlist metas width pads v = record {
  metas = metas;
  ios = record { name = bytes "pin"; width = pads } ∷ [];
  cells = cell 3 4 [] 0 (piece 1 0 4 ∷ []) ∷ cell 1 width (bytes "size") 3 [] ∷ cell 2 0 (bytes "y") 1 v ∷ [];
}

unfoldable pub metas : List Meta
unfolding meta
metas = meta 3 (bytes "top") [] 0 ∷ meta 5 (bytes "clk") [] 1 ∷ meta 1 [] (1 ∷ 2 ∷ []) 0 ∷ []

unfoldable pub whole : Netlist
unfolding metas netlist
whole = netlist metas 4 8 (const (2 ∷ []) ∷ piece 0 1 3 ∷ [])

pub record Judged : Type 0 where
  pub netlist : Netlist
  pub valid : Bool

abbrev judged : Netlist → Bool → Judged
judged N b = record { netlist = N; valid = b }

judgements : List Judged
unfolding meta metas netlist whole
judgements =
    judged whole true
    -- a piece past a cell's width, a row that is not there, two runs that are one, a run of no width, a trit of 3
    ∷ judged (netlist metas 4 8 (piece 0 2 3 ∷ [])) false
    ∷ judged (netlist metas 4 8 (piece 3 0 1 ∷ [])) false
    ∷ judged (netlist metas 4 8 (piece 1 3 1 ∷ piece 1 2 1 ∷ [])) false
    ∷ judged (netlist metas 4 8 (piece 0 0 1 ∷ piece 0 4 0 ∷ [])) false
    ∷ judged (netlist metas 4 8 (const (3 ∷ []) ∷ [])) false
    -- widths: 257, a buffer of another width, an I/O row of none
    ∷ judged (netlist metas 257 8 (piece 0 0 1 ∷ [])) false
    ∷ judged (netlist metas 3 8 (piece 0 0 1 ∷ [])) false
    ∷ judged (netlist metas 4 0 (piece 0 0 1 ∷ [])) false
    -- metadata: a scope that names itself, a set of one, a set in a set, an ident without a scope, a scope without a name
    ∷ judged (netlist (meta 3 (bytes "top") [] 1 ∷ meta 5 (bytes "clk") [] 1 ∷ meta 1 [] (1 ∷ 2 ∷ []) 0 ∷ []) 4 8 (piece 0 0 1 ∷ [])) false
    ∷ judged (netlist (meta 3 (bytes "top") [] 0 ∷ meta 5 (bytes "clk") [] 1 ∷ meta 1 [] (1 ∷ []) 0 ∷ []) 4 8 (piece 0 0 1 ∷ [])) false
    ∷ judged (netlist (metas ++ (meta 1 [] (1 ∷ 3 ∷ []) 0 ∷ [])) 4 8 (piece 0 0 1 ∷ [])) false
    ∷ judged (netlist (meta 3 (bytes "top") [] 0 ∷ meta 5 (bytes "clk") [] 0 ∷ meta 1 [] (1 ∷ 2 ∷ []) 0 ∷ []) 4 8 (piece 0 0 1 ∷ [])) false
    ∷ judged (netlist (meta 3 [] [] 0 ∷ meta 5 (bytes "clk") [] 1 ∷ meta 1 [] (1 ∷ 2 ∷ []) 0 ∷ []) 4 8 (piece 0 0 1 ∷ [])) false
    -- a name of 256 bytes
    ∷ judged (netlist (meta 3 (replicate 255 97) [] 0 ∷ meta 5 (bytes "clk") [] 1 ∷ meta 1 [] (1 ∷ 2 ∷ []) 0 ∷ []) 4 8 (piece 0 0 1 ∷ [])) true
    ∷ judged (netlist (meta 3 (replicate 256 97) [] 0 ∷ meta 5 (bytes "clk") [] 1 ∷ meta 1 [] (1 ∷ 2 ∷ []) 0 ∷ []) 4 8 (piece 0 0 1 ∷ [])) false
    ∷ []

judged_right : map (λ (j : Judged). valid j.netlist) judgements ≡ map (λ (j : Judged). j.valid) judgements
unfolding judgements meta metas cell netlist whole every all_of total joined bytes same kind_at longest taken distinct names_as roomy metas_sound valid
judged_right = refl
