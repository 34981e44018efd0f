-- Regions of tables: words at the front and zeros behind them, and parts of a pool.
use Rattle.std.specs.Prelude.{◌≡◌, Bool, true, false, List, [], ◌∷◌, ◌++◌, ℕ, ◌-◌, ◌*◌, eqb, length, take, drop, replicate}

unfoldable pub zeros : ℕ → List ℕ
zeros n = replicate n 0

unfoldable pub blank : List ℕ → Bool
blank [] = true
blank (x ∷ t) = elim (eqb x 0) [ true ↦ blank t | false ↦ false ]

-- the region t is the words xs, and zeros behind them
unfoldable pub fits : List ℕ → List ℕ → Bool
fits [] t = blank t
fits (x ∷ xs) [] = false
fits (x ∷ xs) (y ∷ t) = elim (eqb x y) [ true ↦ fits xs t | false ↦ false ]

-- xs in a region of n words
unfoldable pub pad : ℕ → List ℕ → List ℕ
pad n xs = xs ++ zeros (n - length xs)

-- Document 01, Room: "of a longer one only that much counts, the rest staying unchanged": n new words, then what was there
unfoldable pub over : ℕ → List ℕ → List ℕ → List ℕ
over n new old = new ++ drop n old

-- n elements of a pool, from s on
unfoldable pub part : {A : Type 0} → ℕ → ℕ → List A → List A
part s n p = take n (drop s p)

-- a table t of n words that holds k rows of w words, and zeros behind them
pub record Rows (w n : ℕ) (t : List ℕ) (k : ℕ) : Type 0 where
  pub words : List ℕ
  pub long : length words ≡ k * w
  pub is : t ≡ pad n words
