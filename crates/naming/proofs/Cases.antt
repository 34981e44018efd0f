-- Worked cases, computed: names over three levels with a negative index, rows that are no ident, and rooms too short, exact and longer.
use Rattle.std.specs.Prelude.{Ok, Err}
use Prim.Native.Nat.{ℕ}
use mathlib.Core.Path.{◌≡◌, refl}
use mathlib.Core.List.{List, [], ◌∷◌, map}
use lib.ListN.{replicate}
use Rattle.ground.specs.Lists.{total, joined}
use Rattle.ground.specs.Refusals.{at, refusal}
use Rattle.ground.specs.Regions.{zeros, pad, over, part}
use Rattle.ground.specs.Text.{bytes}
use Rattle.netlist.specs.Netlist.{Meta, Netlist}
use Rattle.netlist.specs.Tables.{meta_rows, io_rows, cell_rows, run_rows, layout}
use Rattle.writing.specs.Decimal.{digits, places, signed}
use Rattle.naming.specs.Names.{made, name_from, full_name, written}
use Rattle.naming.specs.Rows.{name_at}

meta : ℕ → List ℕ → ℕ → ℕ → Meta
meta kind name inside number =
    record { kind = kind; name = name; text = []; members = []; bits = []; inside = inside; source = 0; number = number; line = 0; column = 0; end_line = 0; end_column = 0 }

-- a scope, in it the scope #-3, in that an ident and a scope with a `/` of its own, in that an ident; the scope #7 and its ident
netlist : Netlist
unfolding meta
netlist = record {
  metas =
      meta 3 (bytes "top") 0 0 ∷ meta 4 [] 1 4294967293 ∷ meta 5 (bytes "clk") 2 0 ∷ meta 3 (bytes "a/b") 2 0 ∷ meta 5 (bytes "q") 4 0
      ∷ meta 4 [] 0 7 ∷ meta 5 (bytes "d") 6 0 ∷ [];
  ios = [];
  cells = [];
}

names_right : map (full_name netlist) (2 ∷ 4 ∷ 6 ∷ []) ≡ bytes "top/-3/clk" ∷ bytes "top/-3/a/b/q" ∷ bytes "7/d" ∷ []
unfolding meta netlist total bytes digits places signed name_from
names_right = refl

-- the same by the rows of the tables that hold the netlist
rows_right : map (λ (row : ℕ). name_at row (layout netlist).metas (layout netlist).strings row) (2 ∷ 4 ∷ 6 ∷ []) ≡ bytes "top/-3/clk" ∷ bytes "top/-3/a/b/q" ∷ bytes "7/d" ∷ []
unfolding meta netlist total joined bytes digits places signed zeros pad part meta_rows io_rows cell_rows run_rows layout name_at
rows_right = refl

-- room of 9, 10 and 12 bytes for 10; a scope, also where there is no room; a row behind the last
outcomes_right :
    (written netlist 2 (replicate 9 65) ≡ made (Err (refusal 24 (at 0))) (replicate 9 65))
    × (written netlist 2 (replicate 10 65) ≡ made (Ok 10) (bytes "top/-3/clk"))
    × (written netlist 2 (replicate 12 65) ≡ made (Ok 10) (bytes "top/-3/clkAA"))
    × (written netlist 3 [] ≡ made (Err (refusal 16 (at 0))) [])
    × (written netlist 7 (replicate 12 65) ≡ made (Err (refusal 16 (at 0))) (replicate 12 65))
unfolding meta netlist total bytes over digits places signed name_from written
outcomes_right = (refl, refl, refl, refl, refl)
