-- A placing under way. Each of 512 rows has a mark: 1 where it is placed, k + 2 where it is not and k is the lowest row known to wait for
-- it, else 0. From word 514 on each row has a note: one more than a place whose mark is not 1 as long as the row need not be looked at;
-- word 513 is such a place for rows that are placed.
use Rattle.std.specs.Prelude.{◌≡◌, Bool, true, false, not, ◌||◌, ◌⊎◌, List, [], ◌∷◌, ◌++◌, ℕ, ◌+◌, ◌-◌, ◌*◌, ◌<◌, ◌≤◌, eqb, ltb, length, get_or}
use Rattle.ground.specs.Choice.{pick}
use Rattle.ground.specs.Regions.{pad}
use Rattle.graph.specs.Graph.{mem, order_from}
use Rattle.graph.proofs.Order.{unplaced}
use Rattle.placing.specs.declared.turns.At.{At}
use Rattle.placing.specs.InTables.{reads_in, apart_in, order_in}

abbrev pub placed_in : List ℕ → ℕ → Bool
placed_in marks i = eqb (get_or marks i 0) 1

-- the first of the rows that is not placed; n where all are
unfoldable pub first_open : ℕ → (ℕ → Bool) → List ℕ → ℕ
first_open n P [] = n
first_open n P (x ∷ xs) = elim (P x) [ true ↦ first_open n P xs | false ↦ x ]

-- the mark of a row for which `row` waits too
abbrev pub waited_by : ℕ → ℕ → ℕ
waited_by mark row = pick (eqb mark 0) (row + 2) (pick (ltb mark (row + 2)) mark (row + 2))

-- where the search goes on once `row`, so marked, is placed: at the lowest row that waits for it, but not past the next
abbrev pub on_from : ℕ → ℕ → ℕ
on_from mark row = pick (eqb mark 0) (row + 1) (pick (ltb (row + 2) mark) (row + 1) (mark - 2))

-- row i reads the row `on`, which is not placed and is marked as waited for by i or a lower row
pub record Waits (reads : ℕ → List ℕ) (marks : List ℕ) (i on : ℕ) : Type 0 where
  pub read : mem on (reads i) ≡ true
  pub told : 2 ≤ get_or marks on 0
  pub least : get_or marks on 0 ≤ i + 2

pub record Waiting (reads : ℕ → List ℕ) (marks : List ℕ) (i : ℕ) : Type 0 where
  pub on : ℕ
  pub waits : Waits reads marks i on

-- a row's note, and whether it still tells that the row need not be looked at
abbrev pub note_of : List ℕ → ℕ → ℕ
note_of marks i = get_or marks (514 + i) 0

unfoldable pub noted : List ℕ → ℕ → Bool
noted marks i = pick (eqb (note_of marks i) 0) false (not (placed_in marks (note_of marks i - 1)))

pub record Noted (reads : ℕ → List ℕ) (marks : List ℕ) (i : ℕ) : Type 0 where
  pub most : note_of marks i ≤ 514
  pub tells : noted marks i ≡ true → (get_or marks i 0 ≡ 1) ⊎ Waits reads marks i (note_of marks i - 1)

-- each row below `low` is placed or waits
abbrev pub Looked : (ℕ → List ℕ) → List ℕ → ℕ → Type 0
Looked reads marks low = (i : ℕ) → i < low → (get_or marks i 0 ≡ 1) ⊎ Waiting reads marks i

-- the rows placed so far, and what is left gives what the whole gives
pub record Going (cells runs : List ℕ) (n : ℕ) (rows marks : List ℕ) (low count : ℕ) : Type 0 where
  pub so_far : List ℕ
  pub rows_are : rows ≡ pad 512 so_far
  pub counted : count ≡ length so_far
  pub long : length marks ≡ 1026
  pub below : low ≤ n
  pub looked : Looked (reads_in cells runs) marks low
  pub notes : (i : ℕ) → i < n → Noted (reads_in cells runs) marks i
  pub marked : (i : ℕ) → i < n → placed_in marks i ≡ apart_in cells i || mem i so_far
  pub room : count + unplaced (placed_in marks) n ≤ n
  pub rest : so_far ++ order_from (reads_in cells runs) n (n - count) (placed_in marks) ≡ order_in cells runs n

-- the marks at the start
pub record Begun (cells : List ℕ) (n : ℕ) (marks : List ℕ) : Type 0 where
  pub long : length marks ≡ 1026
  pub unnoted : (i : ℕ) → note_of marks i ≡ 0
  pub apart : (i : ℕ) → i < n → placed_in marks i ≡ apart_in cells i

-- each turn places a row, or looks one row further
abbrev pub left : ℕ → ℕ → ℕ → ℕ
left n low count = (512 - count) * 513 + (n - low)

pub record Further (n low count : ℕ) (at : At) : Type 0 where
  pub less : left n at.low at.count < left n low count
