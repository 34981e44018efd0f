-- A run of the placing as a relation, and where a row stands in the order.
use Rattle.std.specs.Prelude.{◌≡◌, Bool, true, false, ◌||◌, List, [], ◌∷◌, ℕ, suc, ◌<◌, eqb}
use Rattle.graph.specs.Graph.{mem, ready, place}

-- no row below n has p
abbrev pub None : (ℕ → Bool) → ℕ → Type 0
None p n = (j : ℕ) → j < n → p j ≡ false

-- from the marks P, the rows in placing order, to the marks Q, at which no row is ready
pub data Placing (reads : ℕ → List ℕ) (n : ℕ) : (ℕ → Bool) → List ℕ → (ℕ → Bool) → Type 0 where
  done : {P : ℕ → Bool} → None (ready reads P) n → Placing reads n P [] P
  step : {P Q : ℕ → Bool} {r : ℕ} {L : List ℕ} → r < n → ready reads P r ≡ true → Placing reads n (place P r) L Q → Placing reads n P (r ∷ L) Q

-- the place of row i among the rows; past them where it is not there
unfoldable pub pos : List ℕ → ℕ → ℕ
pos [] i = 0
pos (r ∷ L) i = elim (eqb i r) [ true ↦ 0 | false ↦ suc (pos L i) ]

-- no row occurs twice
abbrev pub Once : List ℕ → Type 0
Once [] = Unit {0}
Once (r ∷ L) = (mem r L ≡ false) × Once L

-- row j stands among the rows, before row i
pub record Before (L : List ℕ) (j i : ℕ) : Type 0 where
  pub among : mem j L ≡ true
  pub earlier : pos L j < pos L i

-- row r may be placed after the rows A: below n, not marked at the start nor placed yet, and what it reads is
pub record Turn (reads : ℕ → List ℕ) (n : ℕ) (P : ℕ → Bool) (A : List ℕ) (r : ℕ) : Type 0 where
  pub below : r < n
  pub unmarked : P r ≡ false
  pub fresh : mem r A ≡ false
  pub reads_before : (j : ℕ) → mem j (reads r) ≡ true → P j || mem j A ≡ true
