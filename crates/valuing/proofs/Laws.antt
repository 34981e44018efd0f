-- Laws of rows worked out.
use Prim.Native.Nat.{ℕ, zero, suc, ◌+◌, ◌-◌, ◌*◌, ◌<◌, ◌≤◌}
use mathlib.Core.Path.{◌≡◌, refl, sym, ap, ap₂, subst, ◌∙◌}
use mathlib.Core.List.{List, [], ◌∷◌, ◌++◌, append_assoc}
use native.Mathlib.Omega.{arith}
use lib.Dec.{eqb}
use lib.ListN.{length, take, drop, get_or, set, length-take, length-drop, length-set, take-append-drop}
use lib.Seq.{sets, sets-eq, drop-drop, length-take-le, set_out, take-nil, get_or-drop, take-append_seam}
use borrow.Author.Tests.{eq-eqb, ne_eqb}
use Rattle.ground.specs.Regions.{over, part}
use Rattle.ground.specs.Writes.{Put}
use Rattle.ground.proofs.Lent.{sets_front}
use Rattle.ground.proofs.Regions.{region}
use Rattle.ground.proofs.Writes.{put_length, put_nothing}
use Rattle.kinds.specs.Kinds.{output_kind}
use Rattle.netlist.specs.Netlist.{Run, operand_width}
use Rattle.cells.specs.Operands.{bits_from}
use Rattle.cells.proofs.Linking.{length_bits}
use Rattle.placing.specs.Placing.{output_from}
use Rattle.cells.specs.Held.{held_bits}
use Rattle.cells.specs.Values.{kind_value, cell_value}
use Rattle.valuing.specs.Row.{cell_of, row_value, Placed, Valued}

-- WHAT A LIST HAS NO PLACE FOR is not written
sets_past : (l : List ℕ) (i : ℕ) (xs : List ℕ) → length l ≤ i → sets l i xs ≡ l
sets_past l i [] h = refl
sets_past l i (x ∷ xs) h = ap (λ (m : List ℕ). sets m (suc i) xs) (set_out l i x h) ∙ sets_past l (suc i) xs (omega arith)

sets_within : (m : ℕ) (l : List ℕ) (i : ℕ) (xs : List ℕ) → length l - i ≡ m → sets l i xs ≡ sets l i (take m xs)
sets_within m l i [] e = ap (λ (ys : List ℕ). sets l i ys) (sym (take-nil m))
sets_within zero l i (x ∷ xs) e = sets_past l i (x ∷ xs) (omega arith)
sets_within (suc m) l i (x ∷ xs) e = sets_within m (set l i x) (suc i) xs (omega (arith, length-set l i x, e))

-- a value written into a part of the values, and the part put back
pub placed_back : (old value new : List ℕ) (start end : ℕ) → start ≤ end → end ≤ length old → new ≡ sets (take (end - start) (drop start old)) 0 value
    → Placed old start end value (take start old ++ (new ++ drop (end - start) (drop start old)))
placed_back old value new start end h l e = record { is = whole }
  where
    whole : take start old ++ (new ++ drop (end - start) (drop start old)) ≡ sets old start (take (end - start) value)
    whole =
        let w = end - start in
        let a = take start old in
        let b = take w (drop start old) in
        let c = drop w (drop start old) in
        let v = take w value in
        let k : length b ≡ w = length-take-le w (drop start old) (omega (arith, length-drop start old)) in
        let z : length b - 0 ≡ w = omega (arith, k) in
        let n : new ≡ sets b 0 v = e ∙ sets_within w b 0 value z in
        let s : length a + 0 ≡ start = omega (arith, length-take-le start old (omega arith)) in
        let o : a ++ (b ++ c) ≡ old = ap (λ (x : List ℕ). a ++ x) (take-append-drop w (drop start old)) ∙ take-append-drop start old in
        ap (λ (x : List ℕ). a ++ (x ++ c)) n
        ∙ sym (region v a b c 0 (omega (arith, length-take w value, k)))
        ∙ ap₂ (λ (x : List ℕ) (i : ℕ). sets x i v) o s

-- bits put at the front of a room, and taken from there
pub taken_back : (old xs new : List ℕ) (n : ℕ) → Put old 0 xs n new → length xs ≤ length old → take n new ≡ xs
unfolding over
taken_back old xs new n p h =
    let k : n ≡ length xs = p.next ∙ omega arith in
    ap₂ (λ (i : ℕ) (l : List ℕ). take i l) k (p.holds ∙ sets_front old xs h) ∙ take-append_seam xs (drop (length xs) old)

-- A ROW'S OUTPUT BITS
pub row_word : (cells : List ℕ) (row : ℕ) → get_or (drop (row * 9) cells) 0 0 ≡ get_or cells (row * 9) 0
row_word cells row = let m : row * 9 + 0 ≡ row * 9 = omega arith in get_or-drop (row * 9) cells 0 0 ∙ ap (λ (k : ℕ). get_or cells k 0) m

module _ (cells : List ℕ) (pool : List Run) (held : ℕ → List ℕ) (row : ℕ) where
  abbrev bits : List ℕ
  bits = output_from held (cell_of pool (drop (row * 9) cells))

  pub no_output : (get_or (drop (row * 9) cells) 0 0 ≡ 2 → ⊥) → bits ≡ []
  no_output h = rw (ne_eqb (get_or (drop (row * 9) cells) 0 0) output_kind h)

  pub an_output : get_or (drop (row * 9) cells) 0 0 ≡ 2 → bits ≡ bits_from held (cell_of pool (drop (row * 9) cells)).a
  an_output h = rw (eq-eqb (get_or (drop (row * 9) cells) 0 0) output_kind h)

-- bits written behind what stands in a room, into all the rest of it
pub put_behind : (old : List ℕ) (at : ℕ) (xs new : List ℕ) (n : ℕ) → at ≤ length old → at + length xs ≤ length old → Put (take (length old - at) (drop at old)) 0 xs n new
    → Put old at xs (at + n) (take at old ++ (new ++ drop (length old - at) (drop at old)))
put_behind old at xs new n h l p = record { next = omega (arith, p.next); holds = whole }
  where
    whole : take at old ++ (new ++ drop (length old - at) (drop at old)) ≡ sets old at xs
    whole =
        let w = length old - at in
        let a = take at old in
        let b = take w (drop at old) in
        let c = drop w (drop at old) in
        let k : length b ≡ w = length-take-le w (drop at old) (omega (arith, length-drop at old)) in
        let s : length a + 0 ≡ at = omega (arith, length-take-le at old h) in
        let o : a ++ (b ++ c) ≡ old = ap (λ (x : List ℕ). a ++ x) (take-append-drop w (drop at old)) ∙ take-append-drop at old in
        ap (λ (x : List ℕ). a ++ (x ++ c)) p.holds ∙ sym (region xs a b c 0 (omega (arith, k))) ∙ ap₂ (λ (x : List ℕ) (i : ℕ). sets x i xs) o s

-- AN OPERAND, gathered into 256 bytes
module _ (u : ℕ → List ℕ) (pool : List Run) (from size f s : ℕ) (p : from ≡ f) (q : size ≡ s) (old new : List ℕ) (n : ℕ) (long : length old ≡ 256)
    (put : Put old 0 (bits_from u (part from size pool)) n new) (narrow : operand_width (part f s pool) ≤ 256) where
  abbrev bits_of : List ℕ
  bits_of = bits_from u (part f s pool)

  same_put : Put old 0 bits_of n new
  same_put = rw (p, q) at put

  pub gathered_few : n ≤ 256
  gathered_few = omega (arith, same_put.next, length_bits u (part f s pool), narrow)

  pub gathered : take (n - 0) (drop 0 new) ≡ bits_of
  gathered =
      let e : n - 0 ≡ n = omega arith in
      rw e (taken_back old bits_of new n same_put (omega (arith, length_bits u (part f s pool), narrow, long)))

  pub gathered_room : n ≤ length new
  gathered_room = omega (arith, gathered_few, put_length put, long)

-- a value placed from the row's start to its end
pub valued : (cells starts : List ℕ) (row : ℕ) (old new a b c : List ℕ) (start w : ℕ) → start ≡ get_or starts row 0 → w ≡ get_or (drop (row * 9) cells) 1 0
    → Placed old start (start + w) (kind_value (get_or cells (row * 9) 0) a b c) new → Valued cells starts row old (kind_value (get_or (drop (row * 9) cells) 0 0) a b c) new
valued cells starts row old new a b c start w s e p =
    let k : start + w - start ≡ w = omega arith in
    record { is = p.is ∙ rw (k, s, e, row_word cells row) }

-- an operand known by another name
pub revalued : {cells starts : List ℕ} {row : ℕ} {old new : List ℕ} (f : List ℕ → List ℕ) {x y : List ℕ} → x ≡ y → Valued cells starts row old (f x) new → Valued cells starts row old (f y) new
revalued {cells} {starts} {row} {old} {new} f e v = subst (λ (z : List ℕ). Valued cells starts row old (f z) new) e v

pub room_long : length (lib.ListN.replicate {A = ℕ} 256 0) ≡ 256
room_long = lib.ListN.length-replicate {A = ℕ} 256 0

-- all three operands at hand: the row's value
pub valued_row : (cells : List ℕ) (pool : List Run) (starts old new : List ℕ) (row : ℕ)
    → Valued cells starts row old (kind_value (get_or (drop (row * 9) cells) 0 0) (bits_from (held_bits starts old) (cell_of pool (drop (row * 9) cells)).a) (bits_from (held_bits starts old) (cell_of pool (drop (row * 9) cells)).b) (bits_from (held_bits starts old) (cell_of pool (drop (row * 9) cells)).c)) new
    → new ≡ sets old (get_or starts row 0) (row_value cells pool starts old row)
unfolding cell_value
valued_row cells pool starts old new row v = v.is

-- bits given from the row's first runs
pub given_bits : (u : ℕ → List ℕ) (pool : List Run) (from size f s : ℕ) → from ≡ f → size ≡ s → (old new : List ℕ) (at n : ℕ) → at + length (bits_from u (part f s pool)) ≤ length old
    → Put (take (length old - at) (drop at old)) 0 (bits_from u (part from size pool)) n new
    → Put old at (bits_from u (part f s pool)) (at + n) (take at old ++ (new ++ drop (length old - at) (drop at old)))
given_bits u pool from size f s p q old new at n h put = put_behind old at (bits_from u (part f s pool)) new n (omega arith) h (rw (p, q) at put)

pub given_room : (u : ℕ → List ℕ) (pool : List Run) (from size f s : ℕ) → from ≡ f → size ≡ s → (old lent new : List ℕ) (at n : ℕ) → at + length (bits_from u (part f s pool)) ≤ length old
    → Put lent 0 (bits_from u (part from size pool)) n new → at + n ≤ length old
given_room u pool from size f s p q old lent new at n h put = let r : n ≡ 0 + length (bits_from u (part f s pool)) = rw (p, q) at put.next in omega (arith, r)

-- a row that is no output gives nothing
pub gives_none : (old : List ℕ) (at : ℕ) (xs : List ℕ) → xs ≡ [] → Put old at xs at old
gives_none old at xs e = rw e (put_nothing old at)

pub gives_bits : {old new xs ys : List ℕ} {at n : ℕ} → ys ≡ xs → Put old at xs n new → Put old at ys n new
gives_bits e p = rw e p
