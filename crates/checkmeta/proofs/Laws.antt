-- How the loops of the check go on and end.
use Rattle.std.specs.Prelude.{Some, None}
use mathlib.Core.Path.{◌≡◌, refl, sym, ap, ◌∙◌}
use mathlib.Core.Bool.{Bool, true, false, ◌&&◌}
use mathlib.Core.List.{List, [], ◌∷◌, ◌++◌}
use Prim.Native.Nat.{ℕ, zero, suc, ◌+◌, ◌-◌, ◌*◌, ◌<◌, ◌≤◌}
use native.Mathlib.Omega.{arith}
use lib.Dec.{eqb, leb}
use lib.ListN.{length, drop, take, get_or, length-drop}
use lib.Seq.{get_or-drop, take_all}
use borrow.Author.Tests.{le-leb, lt-leb, eqb-true, leb-true}
use Rattle.ground.specs.Choice.{pick}
use Rattle.ground.specs.Regions.{blank, part}
use Rattle.ground.proofs.Bools.{and_true}
use Rattle.ground.proofs.Rest.{rest_rest}
use Rattle.netlist.specs.Rules.{refers}
use Rattle.netlist.specs.View.{word}
use Rattle.checkmeta.specs.Fields.{kinds_in}
use Rattle.checkmeta.specs.Walk.{placed, meta_good, metas_walk}
use Rattle.pools.specs.Lying.{lies}

-- THE KINDS of the first rows
pub kinds_length : (n : ℕ) (rows : List ℕ) → length (kinds_in n rows) ≡ n
unfolding kinds_in
kinds_length zero rows = refl
kinds_length (suc n) rows = ap suc (kinds_length n (drop 16 rows))

pub kinds_at : (n i : ℕ) (rows : List ℕ) → i < n → get_or (kinds_in n rows) i 0 ≡ get_or rows (i * 16) 0
unfolding kinds_in
kinds_at zero i rows h = absurd (omega arith)
kinds_at (suc n) zero rows h = refl
kinds_at (suc n) (suc i) rows h =
    let e : suc i * 16 ≡ 16 + i * 16 = omega arith in
    rw e (kinds_at n i (drop 16 rows) (omega arith) ∙ get_or-drop 16 rows (i * 16) 0)

pub kinds_more : (n : ℕ) (rows : List ℕ) → kinds_in (suc n) rows ≡ kinds_in n rows ++ (get_or (drop (n * 16) rows) 0 0 ∷ [])
unfolding kinds_in
kinds_more zero rows = refl
kinds_more (suc n) rows =
    let e : 16 + n * 16 ≡ suc n * 16 = omega arith in
    ap (λ (l : List ℕ). get_or rows 0 0 ∷ l) (kinds_more n (drop 16 rows) ∙ rw (rest_rest rows 16 (n * 16), e))

-- a reference to one of the first n rows
module _ (p : ℕ → Bool) (rows : List ℕ) (n r : ℕ) where
  pub refers_in : 1 ≤ r → r ≤ n → p (get_or rows ((r - 1) * 16) 0) ≡ refers p (kinds_in n rows) r
  refers_in h k = rw (kinds_length n rows, le-leb 1 r h, le-leb r n k, kinds_at n (r - 1) rows (omega arith))

  pub refers_late : n < r → false ≡ refers p (kinds_in n rows) r
  refers_late h = let k : 1 ≤ r = omega arith in rw (kinds_length n rows, le-leb 1 r k, lt-leb r n h)

-- what lies in a pool
pub lies_is : (at room start size : ℕ) → lies at room start size ≡ true → (start ≡ at) × (at + size ≤ room)
lies_is at room start size h = let p = and_true (eqb start at) (leb (at + size) room) h in (eqb-true start at p.0, leb-true (at + size) room p.1)

-- the rest of a slice, taken whole
pub rest_all : (t : List ℕ) (i : ℕ) → take (length t - i) (drop i t) ≡ drop i t
rest_all t i = take_all (length t - i) (drop i t) (rw length-drop (omega arith))

-- A ROW THAT IS PLACED: what it names is there
pub record Placed (s m b : ℕ) (row : List ℕ) : Type 0 where
  pub name : word row 1 ≡ s
  pub text : word row 3 ≡ s + word row 2
  pub strings : s + (word row 2 + word row 4) ≤ 16384
  pub member : word row 5 ≡ m
  pub members : m + word row 6 ≤ 1024
  pub bit : word row 7 ≡ b
  pub bits : b + word row 8 ≤ 131072

pub placed_is : (s m b : ℕ) (row : List ℕ) → placed s m b row ≡ true → Placed s m b row
placed_is s m b row h =
    let p = and_true (lies s 16384 (word row 1) (word row 2 + word row 4) && eqb (word row 3) (s + word row 2)) _ h in
    let q = and_true (lies s 16384 (word row 1) (word row 2 + word row 4)) _ p.0 in
    let r = and_true (lies m 1024 (word row 5) (word row 6)) _ p.1 in
    let a = lies_is s 16384 (word row 1) (word row 2 + word row 4) q.0 in
    let d = lies_is m 1024 (word row 5) (word row 6) r.0 in
    let e = lies_is b 131072 (word row 7) (word row 8) r.1 in
    record { name = a.0; text = eqb-true _ _ q.1; strings = a.1; member = d.0; members = d.1; bit = e.0; bits = e.1 }

-- a part from a place to one further on
pub part_is : (t : List ℕ) (a n : ℕ) → take (a + n - a) (drop a t) ≡ part a n t
unfolding part
part_is t a n = let e : a + n - a ≡ n = omega arith in rw e

-- ONE TURN OF THE WALK
module _ (members bits rows : List ℕ) (i s m b n : ℕ) (h : i < n) where
  pub walk_on : meta_good members bits (kinds_in i rows) s m b (drop (i * 16) rows) ≡ true
      → metas_walk members bits rows (i + 1) (s + (word (drop (i * 16) rows) 2 + word (drop (i * 16) rows) 4)) (m + word (drop (i * 16) rows) 6) (b + word (drop (i * 16) rows) 8) (n - (i + 1))
      ≡ metas_walk members bits rows i s m b (n - i)
  unfolding metas_walk
  walk_on e = let k : n - i ≡ suc (n - (i + 1)) = omega arith in rw k (sym (rw (e, metas_walk)))

  pub walk_off : meta_good members bits (kinds_in i rows) s m b (drop (i * 16) rows) ≡ false → None ≡ metas_walk members bits rows i s m b (n - i)
  unfolding metas_walk
  walk_off e = let k : n - i ≡ suc (n - (i + 1)) = omega arith in rw k (sym (rw (e, metas_walk)))

pub walk_end : (members bits rows : List ℕ) (i s m b n : ℕ) → n ≤ i → pick (blank (drop (i * 16) rows)) (Some (s, m, b)) None ≡ metas_walk members bits rows i s m b (n - i)
unfolding metas_walk
walk_end members bits rows i s m b n h = let k : n - i ≡ 0 = omega arith in rw k

pub good_placed : (members bits kinds : List ℕ) (s m b : ℕ) (row : List ℕ) → meta_good members bits kinds s m b row ≡ true → Placed s m b row
unfolding meta_good
good_placed members bits kinds s m b row h = placed_is s m b row (and_true (placed s m b row) _ h).0

-- the walk so far: what is left gives what the whole gives
pub record Walking (rows : List ℕ) (n : ℕ) (members bits : List ℕ) (i s m b : ℕ) : Type 0 where
  pub row : i ≤ n
  pub s_room : s ≤ 16384
  pub m_room : m ≤ 1024
  pub b_room : b ≤ 131072
  pub is : metas_walk members bits rows i s m b (n - i) ≡ metas_walk members bits rows 0 0 0 0 n

pub walking_on : {rows : List ℕ} {n : ℕ} {members bits : List ℕ} {i s m b : ℕ} → Walking rows n members bits i s m b → i < n
    → meta_good members bits (kinds_in i rows) s m b (drop (i * 16) rows) ≡ true → (x y z w : ℕ)
    → x ≡ get_or rows (i * 16 + 2) 0 → y ≡ get_or rows (i * 16 + 4) 0 → z ≡ get_or rows (i * 16 + 6) 0 → w ≡ get_or rows (i * 16 + 8) 0
    → Walking rows n members bits (i + 1) (s + (x + y)) (m + z) (b + w)
walking_on {rows} {n} {members} {bits} {i} {s} {m} {b} k h g x y z w p q r t =
    let o = good_placed members bits (kinds_in i rows) s m b (drop (i * 16) rows) g in
    let p' : word (drop (i * 16) rows) 2 ≡ x = get_or-drop (i * 16) rows 2 0 ∙ sym p in
    let q' : word (drop (i * 16) rows) 4 ≡ y = get_or-drop (i * 16) rows 4 0 ∙ sym q in
    let r' : word (drop (i * 16) rows) 6 ≡ z = get_or-drop (i * 16) rows 6 0 ∙ sym r in
    let t' : word (drop (i * 16) rows) 8 ≡ w = get_or-drop (i * 16) rows 8 0 ∙ sym t in
    record {
      row = omega arith;
      s_room = rw (p', q') at o.strings;
      m_room = rw r' at o.members;
      b_room = rw t' at o.bits;
      is = (rw (p', q', r', t') at (walk_on members bits rows i s m b n h g)) ∙ k.is;
    }
