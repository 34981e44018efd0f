-- Worked graphs, computed.
use mathlib.Core.Path.{◌≡◌, refl}
use mathlib.Core.Bool.{Bool, true, false}
use mathlib.Core.List.{List, [], ◌∷◌, map}
use Prim.Native.Nat.{ℕ}
use lib.ListN.{length, get_or}
use Rattle.graph.specs.Graph.{mem, all_placed, ready, lowest_from, lowest, place, order_from, order, some, left_out}

-- what each row reads, and the rows marked at the start
pub record Case : Type 0 where
  pub reads : List (List ℕ)
  pub start : List ℕ
  pub placed : List ℕ
  pub left : Bool

abbrev case : List (List ℕ) → List ℕ → List ℕ → Bool → Case
case r s p l = record { reads = r; start = s; placed = p; left = l }

abbrev reads_of : Case → ℕ → List ℕ
reads_of c i = get_or c.reads i []

abbrev told : Case → Case
told c = case c.reads c.start
    (order (reads_of c) (length c.reads) (λ i. mem i c.start))
    (left_out (reads_of c) (length c.reads) (λ i. mem i c.start))

abbrev pub cases : List Case
cases =
    -- no rows; rows that read nothing
    case [] [] [] false
    ∷ case ([] ∷ [] ∷ [] ∷ []) [] (0 ∷ 1 ∷ 2 ∷ []) false
    -- a chain, each row reads the next
    ∷ case ((1 ∷ []) ∷ (2 ∷ []) ∷ (3 ∷ []) ∷ [] ∷ []) [] (3 ∷ 2 ∷ 1 ∷ 0 ∷ []) false
    -- the lowest first, also where a higher one was ready before it
    ∷ case ((2 ∷ []) ∷ [] ∷ [] ∷ (0 ∷ 1 ∷ []) ∷ []) [] (1 ∷ 2 ∷ 0 ∷ 3 ∷ []) false
    -- a ring of one, of two, and rows that wait for one
    ∷ case ((0 ∷ []) ∷ []) [] [] true
    ∷ case ((1 ∷ []) ∷ (0 ∷ []) ∷ [] ∷ []) [] (2 ∷ []) true
    ∷ case ((1 ∷ []) ∷ (2 ∷ []) ∷ (1 ∷ 3 ∷ []) ∷ [] ∷ []) [] (3 ∷ []) true
    -- rows marked at the start are placed already
    ∷ case ([] ∷ (0 ∷ 3 ∷ []) ∷ (1 ∷ []) ∷ (0 ∷ []) ∷ []) (0 ∷ 2 ∷ []) (3 ∷ 1 ∷ []) false
    ∷ []

pub right : map told cases ≡ cases
unfolding mem all_placed ready lowest_from lowest place order_from order some left_out
right = refl
