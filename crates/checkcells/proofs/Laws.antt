-- How the walks over runs and cells go on and end.
use Rattle.std.specs.Prelude.{Some, None}
use mathlib.Core.Path.{◌≡◌, refl, sym, ap, ◌∙◌}
use mathlib.Core.Bool.{true, false, not, ◌&&◌, ◌||◌}
use mathlib.Core.List.{List}
use Prim.Native.Nat.{ℕ, zero, suc, ◌+◌, ◌-◌, ◌*◌, ◌<◌, ◌≤◌}
use native.Mathlib.Omega.{arith}
use lib.Dec.{eqb, leb}
use lib.ListN.{length, drop, get_or}
use lib.Seq.{get_or-drop}
use borrow.Author.Tests.{lt-ltb, le-ltb, leb-true}
use Rattle.ground.specs.Choice.{pick}
use Rattle.ground.specs.Regions.{blank}
use Rattle.ground.proofs.Bools.{bool_cases, and_true}
use Rattle.kinds.specs.Kinds.{is_kind}
use Rattle.netlist.specs.Rules.{resolves}
use Rattle.netlist.specs.View.{word}
use Rattle.pools.specs.Lying.{lies}
use Rattle.checkmeta.proofs.Laws.{lies_is}
use Rattle.checkcells.specs.Runs.{widths_in, joins_next, run_good, head_good, run_trits, operand_walk}
use Rattle.checkcells.specs.Walk.{cell_placed, cell_head, cell_good, cells_walk}

-- THE WIDTHS of cells
pub widths_length : (n : ℕ) (rows : List ℕ) → length (widths_in n rows) ≡ n
unfolding widths_in
widths_length zero rows = refl
widths_length (suc n) rows = ap suc (widths_length n (drop 9 rows))

pub widths_at : (n i : ℕ) (rows : List ℕ) → i < n → get_or (widths_in n rows) i 0 ≡ get_or rows (i * 9 + 1) 0
unfolding widths_in
widths_at zero i rows h = absurd (omega arith)
widths_at (suc n) zero rows h = refl
widths_at (suc n) (suc i) rows h =
    let e : suc i * 9 + 1 ≡ 9 + (i * 9 + 1) = omega arith in
    rw e (widths_at n i (drop 9 rows) (omega arith) ∙ get_or-drop 9 rows (i * 9 + 1) 0)

module _ (n row o w : ℕ) (rows : List ℕ) where
  pub resolves_at : row < n → leb (o + w) (get_or rows (row * 9 + 1) 0) ≡ resolves (widths_in n rows) row o w
  resolves_at h = rw (widths_length n rows, lt-ltb row n h, widths_at n row rows h)

  pub resolves_past : n ≤ row → false ≡ resolves (widths_in n rows) row o w
  resolves_past h = rw (widths_length n rows, le-ltb row n h)

-- A RUN'S TRITS are there
pub head_run : (widths bits : List ℕ) (b more : ℕ) (row : List ℕ) → head_good widths bits b more row ≡ true → (run_good widths bits b row ≡ true) × (eqb more 0 || not (joins_next row) ≡ true)
unfolding head_good
head_run widths bits b more row h = and_true (run_good widths bits b row) _ h

pub run_room : (widths bits : List ℕ) (b : ℕ) (row : List ℕ) → run_good widths bits b row ≡ true → b ≤ 262656 → b + run_trits row ≤ 262656
run_room widths bits b row h l =
    let p = (and_true (leb 1 (word row 2)) _ h).1 in
    bool_cases (eqb (word row 0) 0)
    (λ e. rw e (lies_is b 262656 (word row 1) (word row 2) (and_true (lies b 262656 (word row 1) (word row 2)) _ (rw e at p)).0).1)
    (λ e. rw e (omega arith))

-- ONE TURN OF THE WALK OVER RUNS
module _ (widths bits runs : List ℕ) (r b w left : ℕ) (h : 0 < left) where
  pub operand_on : head_good widths bits b (left - 1) (drop (r * 3) runs) ≡ true
      → operand_walk widths bits runs (r + 1) (b + run_trits (drop (r * 3) runs)) (w + word (drop (r * 3) runs) 2) (left - 1) ≡ operand_walk widths bits runs r b w left
  unfolding operand_walk
  operand_on e = let k : left ≡ suc (left - 1) = omega arith in sym (ap (operand_walk widths bits runs r b w) k ∙ rw (e, operand_walk))

  pub operand_off : head_good widths bits b (left - 1) (drop (r * 3) runs) ≡ false → None ≡ operand_walk widths bits runs r b w left
  unfolding operand_walk
  operand_off e = let k : left ≡ suc (left - 1) = omega arith in sym (ap (operand_walk widths bits runs r b w) k ∙ rw (e, operand_walk))

pub operand_end : (widths bits runs : List ℕ) (r b w left : ℕ) → left ≤ 0 → Some (w, b) ≡ operand_walk widths bits runs r b w left
unfolding operand_walk
operand_end widths bits runs r b w left h = let k : left ≡ 0 = omega arith in rw k

-- the walk so far
pub record Walking (widths bits runs : List ℕ) (first count b₀ left r b w : ℕ) : Type 0 where
  pub most : left ≤ count
  pub at : r + left ≡ first + count
  pub b_room : b ≤ 262656
  pub w_room : w ≤ (count - left) * 4294967295
  pub is : operand_walk widths bits runs r b w left ≡ operand_walk widths bits runs first b₀ 0 count

pub walking_on : {widths bits runs : List ℕ} {first count b₀ left r b w : ℕ} → Walking widths bits runs first count b₀ left r b w → 0 < left
    → head_good widths bits b (left - 1) (drop (r * 3) runs) ≡ true → (t v : ℕ) → t ≡ run_trits (drop (r * 3) runs) → v ≡ get_or runs (r * 3 + 2) 0 → v < 4294967296
    → Walking widths bits runs first count b₀ (left - 1) (r + 1) (b + t) (w + v)
walking_on {widths} {bits} {runs} {first} {count} {b₀} {left} {r} {b} {w} k h g t v p q l =
    let e : word (drop (r * 3) runs) 2 ≡ v = get_or-drop (r * 3) runs 2 0 ∙ sym q in
    let m : b + run_trits (drop (r * 3) runs) ≤ 262656 = run_room widths bits b (drop (r * 3) runs) (head_run widths bits b (left - 1) (drop (r * 3) runs) g).0 k.b_room in
    let c₁ = k.most in
    let c₂ = k.at in
    let c₃ = k.w_room in
    record {
      most = omega arith;
      at = omega arith;
      b_room = rw p m;
      w_room = omega arith;
      is = rw (p, ← e) (operand_on widths bits runs r b w left h g ∙ k.is);
    }

-- A CELL'S ROW
pub kind_small : (k : ℕ) → is_kind k ≡ true → k < 256
kind_small k h = let p = and_true (leb 1 k) (leb k 12) h in let q = leb-true k 12 p.1 in omega arith

pub record Placed (s r : ℕ) (row : List ℕ) : Type 0 where
  pub name : word row 2 ≡ s
  pub strings : s + word row 3 ≤ 16384
  pub first : word row 5 ≡ r
  pub runs : r + (word row 6 + (word row 7 + word row 8)) ≤ 4096

pub placed_is : (s r : ℕ) (row : List ℕ) → cell_placed s r row ≡ true → Placed s r row
placed_is s r row h =
    let p = and_true (lies s 16384 (word row 2) (word row 3)) _ h in
    let a = lies_is s 16384 (word row 2) (word row 3) p.0 in
    let d = lies_is r 4096 (word row 5) (word row 6 + (word row 7 + word row 8)) p.1 in
    record { name = a.0; strings = a.1; first = d.0; runs = d.1 }

pub good_placed : (ws bits runs : List ℕ) (metas s r b : ℕ) (row : List ℕ) (out e : ℕ) → cell_good ws bits runs metas s r b row ≡ Some (out, e)
    → (is_kind (word row 0) ≡ true) × (cell_placed s r row && cell_head metas (word row 0) row ≡ true)
unfolding cell_good
good_placed ws bits runs metas s r b row out e h = bool_cases (is_kind (word row 0))
    (λ k. bool_cases (cell_placed s r row && cell_head metas (word row 0) row)
    (λ p. (k, p))
    (λ p. let z : ◌≡◌ {A = ℕ} 0 1 = cc (rw (k, p) at h) in absurd (omega arith)))
    (λ k. let z : ◌≡◌ {A = ℕ} 0 1 = cc (rw k at h) in absurd (omega arith))

-- ONE TURN OF THE WALK OVER CELLS
module _ (ws bits runs : List ℕ) (metas : ℕ) (rows : List ℕ) (i s r b d o n : ℕ) where
  pub cells_on : i < n → (out e : ℕ) → cell_good ws bits runs metas s r b (drop (i * 9) rows) ≡ Some (out, e)
      → cells_walk ws bits runs metas rows (i + 1) (s + word (drop (i * 9) rows) 3) (r + (word (drop (i * 9) rows) 6 + (word (drop (i * 9) rows) 7 + word (drop (i * 9) rows) 8))) e (d + word (drop (i * 9) rows) 1) (o + out) (n - (i + 1))
      ≡ cells_walk ws bits runs metas rows i s r b d o (n - i)
  unfolding cells_walk
  cells_on h out e g = let k : n - i ≡ suc (n - (i + 1)) = omega arith in rw k (sym (rw (g, cells_walk)))

  pub cells_off : i < n → cell_good ws bits runs metas s r b (drop (i * 9) rows) ≡ None → None ≡ cells_walk ws bits runs metas rows i s r b d o (n - i)
  unfolding cells_walk
  cells_off h g = let k : n - i ≡ suc (n - (i + 1)) = omega arith in rw k (sym (rw (g, cells_walk)))

  pub cells_end : n ≤ i → pick (blank (drop (i * 9) rows)) (Some (s, r, b, d, o)) None ≡ cells_walk ws bits runs metas rows i s r b d o (n - i)
  unfolding cells_walk
  cells_end h = let k : n - i ≡ 0 = omega arith in rw k

pub record Telling (ws bits runs : List ℕ) (metas : ℕ) (rows : List ℕ) (names n i s r b d o : ℕ) : Type 0 where
  pub row : i ≤ n
  pub s_room : s ≤ 16384
  pub r_room : r ≤ 4096
  pub b_room : b ≤ 262656
  pub d_room : d ≤ i * 4294967295
  pub o_room : o ≤ i * 17592186044416
  pub is : cells_walk ws bits runs metas rows i s r b d o (n - i) ≡ cells_walk ws bits runs metas rows 0 names 0 0 0 0 n

pub telling_on : {ws bits runs : List ℕ} {metas : ℕ} {rows : List ℕ} {names n i s r b d o : ℕ} → Telling ws bits runs metas rows names n i s r b d o → i < n
    → (out e : ℕ) → out < 17592186044417 → e ≤ 262656 → cell_good ws bits runs metas s r b (drop (i * 9) rows) ≡ Some (out, e) → (x y z w v : ℕ)
    → x ≡ get_or rows (i * 9 + 3) 0 → y ≡ get_or rows (i * 9 + 6) 0 → z ≡ get_or rows (i * 9 + 7) 0 → w ≡ get_or rows (i * 9 + 8) 0 → v ≡ get_or rows (i * 9 + 1) 0 → v < 4294967296
    → Telling ws bits runs metas rows names n (i + 1) (s + x) (r + (y + (z + w))) e (d + v) (o + out)
telling_on {ws} {bits} {runs} {metas} {rows} {names} {n} {i} {s} {r} {b} {d} {o} k h out e lo le g x y z w v p₁ p₂ p₃ p₄ p₅ lv =
    let R = drop (i * 9) rows in
    let q = placed_is s r R (and_true (cell_placed s r R) _ (good_placed ws bits runs metas s r b R out e g).1).0 in
    let a : word R 3 ≡ x = get_or-drop (i * 9) rows 3 0 ∙ sym p₁ in
    let a₂ : word R 6 ≡ y = get_or-drop (i * 9) rows 6 0 ∙ sym p₂ in
    let a₃ : word R 7 ≡ z = get_or-drop (i * 9) rows 7 0 ∙ sym p₃ in
    let a₄ : word R 8 ≡ w = get_or-drop (i * 9) rows 8 0 ∙ sym p₄ in
    let a₅ : word R 1 ≡ v = get_or-drop (i * 9) rows 1 0 ∙ sym p₅ in
    let c₁ = k.d_room in
    let c₂ = k.o_room in
    record {
      row = omega arith;
      s_room = rw a at q.strings;
      r_room = rw (a₂, a₃, a₄) at q.runs;
      b_room = le;
      d_room = omega arith;
      o_room = omega arith;
      is = (rw (a, a₂, a₃, a₄, a₅) at (cells_on ws bits runs metas rows i s r b d o n h out e g)) ∙ k.is;
    }
