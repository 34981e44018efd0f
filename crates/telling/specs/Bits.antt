-- Bits as letters.
use Rattle.std.specs.Prelude.{List, [], ◌∷◌, ℕ, eqb}
use Rattle.ground.specs.Choice.{pick}

-- The bit that a letter says: 0, 1, and 2 for X. Any other letter gives 3, which every evaluation and run refuses (23).
unfoldable pub bit_of : ℕ → ℕ
bit_of b = pick (eqb b 48) 0 (pick (eqb b 49) 1 (pick (eqb b 88) 2 3))

-- The bits that letters say, one after the other.
unfoldable pub bits_of : List ℕ → List ℕ
bits_of [] = []
bits_of (b ∷ s) = bit_of b ∷ bits_of s
