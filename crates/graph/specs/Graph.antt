-- Rows 0 to n - 1; `reads i` lists the rows that row i reads. Rings, and the order of placing.
use Rattle.std.specs.Prelude.{◌≡◌, Bool, true, false, not, ◌&&◌, ◌||◌, List, [], ◌∷◌, ℕ, zero, suc, ◌<◌, eqb, ltb}

-- j is among the rows
unfoldable pub mem : ℕ → List ℕ → Bool
mem j [] = false
mem j (x ∷ xs) = eqb j x || mem j xs

-- row i reads row j, perhaps through others
pub data Reach (reads : ℕ → List ℕ) : ℕ → ℕ → Type 0 where
  one : {i j : ℕ} → mem j (reads i) ≡ true → Reach reads i j
  more : {i j k : ℕ} → mem j (reads i) ≡ true → Reach reads j k → Reach reads i k

-- "a cell reached from itself"
pub record Ring (reads : ℕ → List ℕ) (n : ℕ) : Type 0 where
  pub row : ℕ
  pub below : row < n
  pub round : Reach reads row row

-- every one of the rows is marked
unfoldable pub all_placed : (ℕ → Bool) → List ℕ → Bool
all_placed P [] = true
all_placed P (x ∷ xs) = P x && all_placed P xs

-- "unplaced .. whose cells are all placed": the marks P tell which rows are placed
unfoldable pub ready : (ℕ → List ℕ) → (ℕ → Bool) → ℕ → Bool
ready reads P r = not (P r) && all_placed P (reads r)

-- the lowest row with p of the f rows from k on; k + f where there is none
unfoldable pub lowest_from : (ℕ → Bool) → ℕ → ℕ → ℕ
lowest_from p zero k = k
lowest_from p (suc f) k = elim (p k) [ true ↦ k | false ↦ lowest_from p f (suc k) ]

-- the lowest row below n with p; n where there is none
unfoldable pub lowest : (ℕ → Bool) → ℕ → ℕ
lowest p n = lowest_from p n 0

-- the marks with row r placed too
unfoldable pub place : (ℕ → Bool) → ℕ → ℕ → Bool
place P r i = eqb i r || P i

-- at most f placings from the marks P on
unfoldable pub order_from : (ℕ → List ℕ) → ℕ → ℕ → (ℕ → Bool) → List ℕ
order_from reads n zero P = []
order_from reads n (suc f) P =
    let r = lowest (ready reads P) n in
    elim (ltb r n) [ true ↦ r ∷ order_from reads n f (place P r) | false ↦ [] ]

-- "each time the lowest unplaced row whose cells are all placed"; the rows marked in P are placed at the start
unfoldable pub order : (ℕ → List ℕ) → ℕ → (ℕ → Bool) → List ℕ
order reads n P = order_from reads n n P

-- some row below n has p
unfoldable pub some : (ℕ → Bool) → ℕ → Bool
some p zero = false
some p (suc n) = p n || some p n

-- some row below n is neither marked at the start nor in the order
unfoldable pub left_out : (ℕ → List ℕ) → ℕ → (ℕ → Bool) → Bool
left_out reads n P =
    let rows = order reads n P in
    some (λ i. not (P i || mem i rows)) n
