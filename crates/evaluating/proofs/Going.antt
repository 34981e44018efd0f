-- What each walk of the evaluation has done so far.
use Prim.Native.Nat.{ℕ, suc, ◌+◌, ◌-◌, ◌*◌, ◌<◌, ◌≤◌}
use mathlib.Core.Path.{◌≡◌, refl, sym, ap, ap₂, ◌∙◌}
use mathlib.Core.List.{List, ◌∷◌, ◌++◌}
use native.Mathlib.Omega.{arith}
use lib.ListN.{length, take, drop, get_or, length-append, length-take}
use lib.Seq.{sets, length-sets, get_or-take, length-take-le}
use Rattle.ground.specs.Writes.{Put}
use Rattle.ground.proofs.Rest.{rest_cons, rest_end}
use Rattle.ground.proofs.Writes.{sets_append, put_length}
use Rattle.netlist.specs.Netlist.{Run}
use Rattle.placing.specs.Placing.{output_from}
use Rattle.assigning.proofs.Laws.{row_next}
use Rattle.valuing.specs.Row.{cell_of, row_value}
use Rattle.evaluating.specs.InTables.{settled_in, outputs_in}

-- THE FIRST i ROWS OF THE ORDER ARE WORKED OUT
pub record Worked (cells : List ℕ) (pool : List Run) (starts order : List ℕ) (count : ℕ) (old : List ℕ) (i : ℕ) (values : List ℕ) : Type 0 where
  pub left : settled_in (drop i (take count order)) cells pool starts values ≡ settled_in (take count order) cells pool starts old
  pub long : length values ≡ length old

pub worked_none : (cells : List ℕ) (pool : List Run) (starts order : List ℕ) (count : ℕ) (old : List ℕ) → Worked cells pool starts order count old 0 old
worked_none cells pool starts order count old = record { left = refl; long = refl }

module _ {cells : List ℕ} {pool : List Run} {starts order : List ℕ} {count : ℕ} {old : List ℕ} {i : ℕ} {values : List ℕ} (w : Worked cells pool starts order count old i values) where
  pub worked_more : count ≤ length order → i < count → (row : ℕ) → row ≡ get_or order i 0 → (values' : List ℕ)
      → values' ≡ sets values (get_or starts row 0) (row_value cells pool starts values row) → Worked cells pool starts order count old (i + 1) values'
  unfolding settled_in
  worked_more c h row r values' v =
      let L = take count order in
      let l : i < length L = omega (arith, length-take-le count order c) in
      let e : drop i L ≡ row ∷ drop (i + 1) L = rest_cons L i l ∙ ap (λ (x : ℕ). x ∷ drop (i + 1) L) (get_or-take count order i 0 h ∙ sym r) in
      record {
        left = rw v (rw (e, settled_in) at w.left);
        long = ap length v ∙ length-sets values (get_or starts row 0) (row_value cells pool starts values row) ∙ w.long;
      }

  pub worked_all : count ≤ i → values ≡ settled_in (take count order) cells pool starts old
  unfolding settled_in
  worked_all h =
      let l : length (take count order) ≤ i = rw length-take (omega arith) in
      rw (rest_end (take count order) i l, settled_in) at w.left

-- THE OUTPUTS AMONG THE FIRST i ROWS ARE GIVEN
pub record Gave (cells : List ℕ) (pool : List Run) (held : ℕ → List ℕ) (n : ℕ) (old : List ℕ) (i at : ℕ) (answer : List ℕ) : Type 0 where
  pub left : sets answer at (outputs_in (n - i) (drop (i * 9) cells) pool held) ≡ sets old 0 (outputs_in n cells pool held)
  pub sum : at + length (outputs_in (n - i) (drop (i * 9) cells) pool held) ≡ length (outputs_in n cells pool held)
  pub long : length answer ≡ length old

pub gave_none : (cells : List ℕ) (pool : List Run) (held : ℕ → List ℕ) (n : ℕ) (old : List ℕ) → Gave cells pool held n old 0 0 old
gave_none cells pool held n old = let e : n - 0 ≡ n = omega arith in record { left = rw e; sum = rw e (omega arith); long = refl }

module _ {cells : List ℕ} {pool : List Run} {held : ℕ → List ℕ} {n : ℕ} {old : List ℕ} {i at : ℕ} {answer : List ℕ} (g : Gave cells pool held n old i at answer) (h : i < n) where
  abbrev rest : List ℕ
  rest = outputs_in (n - (i + 1)) (drop ((i + 1) * 9) cells) pool held

  abbrev mine : List ℕ
  mine = output_from held (cell_of pool (drop (i * 9) cells))

  more : outputs_in (n - i) (drop (i * 9) cells) pool held ≡ mine ++ rest
  unfolding outputs_in
  more = let e : n - i ≡ suc (n - (i + 1)) = omega arith in rw (e, row_next cells i)

  sums : at + (length mine + length rest) ≡ length (outputs_in n cells pool held)
  sums = ap (λ (k : ℕ). at + k) (sym (length-append mine rest) ∙ ap length (sym more)) ∙ g.sum

  pub gave_room : length (outputs_in n cells pool held) ≤ length old → at + length mine ≤ length answer
  gave_room l = omega (arith, sums, g.long)

  pub gave_more : {next : ℕ} {new : List ℕ} → Put answer at mine next new → Gave cells pool held n old (i + 1) next new
  gave_more {next} {new} p = record {
    left =
        ap₂ (λ (x : List ℕ) (k : ℕ). sets x k rest) p.holds p.next
        ∙ sym (sets_append answer at mine rest) ∙ ap (λ (x : List ℕ). sets answer at x) (sym more) ∙ g.left;
    sum = omega (arith, p.next, sums);
    long = put_length p ∙ g.long;
  }

pub gave_all : {cells : List ℕ} {pool : List Run} {held : ℕ → List ℕ} {n : ℕ} {old : List ℕ} {i at : ℕ} {answer : List ℕ} → Gave cells pool held n old i at answer → n ≤ i
    → Put old 0 (outputs_in n cells pool held) at answer
unfolding outputs_in
gave_all {cells} {pool} {held} {n} {old} {i} {at} g h =
    let e : n - i ≡ 0 = omega arith in
    let s : at + 0 ≡ length (outputs_in n cells pool held) = rw (e, outputs_in) at g.sum in
    record { next = omega (arith, s); holds = rw (e, outputs_in) at g.left }
