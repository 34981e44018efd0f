-- 0, 1 and X, as the numbers 0, 1 and 2; anything above 2 counts as X. The gates and the carry rule.
use Rattle.std.specs.Prelude.{List, [], ◌∷◌, ℕ, ◌+◌, ◌<◌, eqb, leb, ltb}
use Rattle.ground.specs.Choice.{pick}

-- Document 01, Cells: not, "X stays X"
unfoldable pub not_of : ℕ → ℕ
not_of a = pick (eqb a 0) 1 (pick (eqb a 1) 0 2)

-- "0 and X = 0", and "any other gate with an X gives X"
unfoldable pub and_of : ℕ → ℕ → ℕ
and_of a b = pick (eqb a 0) 0 (pick (eqb b 0) 0 (pick (ltb 1 a) 2 (pick (ltb 1 b) 2 1)))

-- "1 or X = 1; any other gate with an X gives X"
unfoldable pub or_of : ℕ → ℕ → ℕ
or_of a b = pick (eqb a 1) 1 (pick (eqb b 1) 1 (pick (ltb 1 a) 2 (pick (ltb 1 b) 2 0)))

-- "any other gate with an X gives X"; of known bits, whether they differ
unfoldable pub xor_of : ℕ → ℕ → ℕ
xor_of a b = pick (ltb 1 a) 2 (pick (ltb 1 b) 2 (pick (eqb a b) 0 1))

-- 1 where a is v, else 0
unfoldable pub holds : ℕ → ℕ → ℕ
holds v a = pick (eqb a v) 1 0

-- how many of the three are v
unfoldable pub count_of : ℕ → ℕ → ℕ → ℕ → ℕ
count_of v a b c = holds v a + holds v b + holds v c

-- "1 if two or more of the three are 1, 0 if two or more are 0, else X"
unfoldable pub carry_of : ℕ → ℕ → ℕ → ℕ
carry_of a b c = pick (leb 2 (count_of 1 a b c)) 1 (pick (leb 2 (count_of 0 a b c)) 0 2)

-- every bit is a trit
abbrev pub Trits : List ℕ → Type 0
Trits [] = Unit {0}
Trits (a ∷ xs) = (a < 3) × Trits xs
