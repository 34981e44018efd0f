-- What placing leaves: the order at the front of its rows, and work space that is clear again.
use Prim.Native.Nat.{ℕ, zero, suc, ◌+◌, ◌-◌, ◌<◌, ◌≤◌}
use mathlib.Core.Path.{◌≡◌, refl, sym, ap, ap₂, subst, ◌∙◌}
use mathlib.Core.Bool.{true}
use mathlib.Core.List.{List, [], ◌∷◌, ◌++◌}
use native.Mathlib.Omega.{arith}
use lib.ListN.{length, take, drop, get_or, length-append, replicate-append-replicate, get_or-append}
use lib.Seq.{take-append_seam}
use Rattle.ground.specs.Regions.{zeros, pad}
use Rattle.ground.proofs.Regions.{drop_zeros, length_zeros, length_pad}
use Rattle.graph.specs.Graph.{mem, order}
use Rattle.graph.proofs.Ready.{mem_here, mem_there}
use Rattle.graph.proofs.Order.{order_below}
use Rattle.placing.specs.InTables.{reads_in, apart_in, order_in, PlacedAll}
use Rattle.placing.specs.declared.Placed.{Placed}

pub clear_again : (marks work : List ℕ) → marks ≡ zeros 1026 → work ≡ zeros 8192 → marks ++ drop 1026 work ≡ zeros 8192
unfolding zeros
clear_again marks work m w = ap₂ (λ (a b : List ℕ). a ++ b) m (ap (drop 1026) w ∙ drop_zeros 1026 8192) ∙ replicate-append-replicate 1026 7166 0

-- the front of clear work space is clear
front_clear : (n m : ℕ) → take n (zeros (n + m)) ≡ zeros n
unfolding zeros
front_clear n m =
    ap (take n) (sym (replicate-append-replicate n m 0)) ∙ subst (λ (k : ℕ). take k (zeros n ++ zeros m) ≡ zeros n) (length_zeros n) (take-append_seam (zeros n) (zeros m))

pub marks_clear : (work : List ℕ) → work ≡ zeros 8192 → take 1026 work ≡ zeros 1026
marks_clear work w = ap (take 1026) w ∙ front_clear 1026 7166

pub member : (L : List ℕ) (i : ℕ) → i < length L → mem (get_or L i 0) L ≡ true
member [] i h = absurd (omega arith)
member (x ∷ L) zero h = mem_here x L
member (x ∷ L) (suc i) h = mem_there (get_or L i 0) x L (member L i (omega arith))

module _ {cells runs : List ℕ} {n : ℕ} {rows marks : List ℕ} {answer : Placed} (p : PlacedAll cells runs n rows marks answer) where
  pub placed_clear : PlacedAll cells runs n rows (zeros 1026) answer
  placed_clear = record { rows_are = p.rows_are; clear = refl; count = p.count; ring = p.ring }

  -- as many rows as are counted are the order
  pub ordered : take answer.count rows ≡ order_in cells runs n
  unfolding pad
  ordered =
      let L = order_in cells runs n in
      ap₂ (λ (k : ℕ) (l : List ℕ). take k l) p.count p.rows_are ∙ take-append_seam L (zeros (512 - length L))

  -- and stand among the tables' rows
  pub ordered_below : (i : ℕ) → i < answer.count → get_or rows i 0 < n
  unfolding pad order_in
  ordered_below i h =
      let L = order (reads_in cells runs) n (apart_in cells) in
      let l : i < length L = omega (arith, h, p.count) in
      let e : get_or rows i 0 ≡ get_or L i 0 = ap (λ (x : List ℕ). get_or x i 0) p.rows_are ∙ get_or-append L (zeros (512 - length L)) 0 i l in
      rw e (order_below (reads_in cells runs) n (apart_in cells) (get_or L i 0) (member L i l))

  -- no more than there is place for
  pub ordered_few : answer.count ≤ length rows
  unfolding pad
  ordered_few =
      let L = order_in cells runs n in
      let e : length rows ≡ length L + length (zeros (512 - length L)) = ap length p.rows_are ∙ length-append L (zeros (512 - length L)) in
      omega (arith, e, p.count)
