-- The rule of mux, alone: select, a, b.
use Rattle.std.specs.Prelude.{List, ℕ, eqb, length, replicate}
use Rattle.ground.specs.Choice.{pick}

-- "s 1: a; s 0: b; s X: all X"
unfoldable pub mux_bits : ℕ → List ℕ → List ℕ → List ℕ
mux_bits s xs ys = pick (eqb s 1) xs (pick (eqb s 0) ys (replicate (length xs) 2))
