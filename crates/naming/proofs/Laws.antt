-- Names by rows: the steps of the writer, and the fuel that the definition has beside them.
use Rattle.std.specs.Prelude.{Ok, Err}
use Prim.Native.Nat.{ℕ, zero, suc, ◌+◌, ◌-◌, ◌<◌, ◌≤◌, min}
use mathlib.Core.Path.{◌≡◌, refl, sym, ap, ◌∙◌}
use mathlib.Core.Bool.{Bool, true, false}
use mathlib.Core.List.{List, [], ◌∷◌, ◌++◌, append_assoc, append-nil}
use native.Mathlib.Omega.{arith}
use native.Mathlib.Nat.{add-zero, add-suc}
use lib.Dec.{ltb, eqb}
use lib.ListN.{length, get_or}
use borrow.Author.Tests.{lt-ltb, le-ltb, eq-eqb, ne_eqb, eqb-true, eqb-false, ltb-true}
use Rattle.ground.specs.Refusals.{at, refusal}
use Rattle.ground.specs.Regions.{part, over}
use Rattle.ground.proofs.Bools.{bool_cases, and_true}
use Rattle.writing.specs.Decimal.{signed}
use Rattle.writing.specs.Parts.{up_to}
use Rattle.writing.specs.Stands.{most, Wrote, Leaves}
use Rattle.writing.proofs.Parts.{up_start, up_cons, up_none}
use Rattle.writing.proofs.Stands.{then, step, start, same_text, same_rest, ended, counted, standing}
use Rattle.naming.specs.Names.{Outcome, made, given}
use Rattle.naming.specs.Rows.{field_at, parent_at, own_at, name_at, ident_at, Rising, asked}

-- a string of the pool, byte by byte
pub string_start : (l : List ℕ) (n i size e : ℕ) (s : List ℕ) → e ≡ min (i + size) (length s) → Leaves l n (λ k. part i size s ++ k) l n (λ k. up_to i e s ++ k)
string_start l n i size e s h = same_rest (start l n _) (λ k. rw (up_start i size e s h))

module _ {l l' : List ℕ} {n n' : ℕ} {f : List ℕ → List ℕ} (i e : ℕ) (s : List ℕ) (w : Leaves l n f l' n' (λ k. up_to i e s ++ k)) where
  pub string_turn : {l'' : List ℕ} {n'' : ℕ} → i < e → e ≤ length s → Wrote l' n' (λ k. get_or s i 0 ∷ k) l'' n'' → Leaves l n f l'' n'' (λ k. up_to (i + 1) e s ++ k)
  string_turn h m p = step (λ k. up_to (i + 1) e s ++ k) (same_rest w (λ k. rw (up_cons i e s 0 h m))) p

  pub string_end : e ≤ i → Wrote l n f l' n'
  string_end h = ended w (λ k. rw (up_none i e s h))

-- a row's own name, of the words that were read
module _ (metas strings : List ℕ) (row kind : ℕ) (e : kind ≡ field_at metas row 0) where
  pub own_indexed : (x : ℕ) → kind ≡ 4 → x ≡ field_at metas row 11 → (k : List ℕ) → signed x ++ k ≡ own_at metas strings row ++ k
  own_indexed x h f k = rw (f, eq-eqb (field_at metas row 0) 4 (sym e ∙ h))

  pub own_named : (from size : ℕ) → (kind ≡ 4 → ⊥) → from ≡ field_at metas row 1 → size ≡ field_at metas row 2 → (k : List ℕ) → part from size strings ++ k ≡ own_at metas strings row ++ k
  own_named from size h f g k = rw (f, g, ne_eqb (field_at metas row 0) 4 (λ z. h (e ∙ z)))

-- whether a row is an ident
module _ (metas : List ℕ) (count row n : ℕ) (e : n ≡ count) where
  pub ident_is : (kind : ℕ) → row < n → kind ≡ field_at metas row 0 → eqb kind 5 ≡ ident_at count metas row
  ident_is kind h f = let m : row < count = omega (arith, e) in rw (lt-ltb row count m, f)

  pub no_row : n ≤ row → false ≡ ident_at count metas row
  no_row h = let m : count ≤ row = omega (arith, e) in rw (le-ltb row count m)

-- THE STEPS UP: a row without a parent, and one with
module _ (metas strings : List ℕ) where
  abbrev N : ℕ → ℕ → List ℕ
  N f i = name_at f metas strings i

  pub stop : (f i : ℕ) → parent_at metas i ≡ 0 → N (suc f) i ≡ own_at metas strings i
  unfolding name_at
  stop f i e = let q : eqb (parent_at metas i) 0 ≡ true = eq-eqb _ _ e in rw (q, name_at)

  pub go_up : (f i : ℕ) → (parent_at metas i ≡ 0 → ⊥) → N (suc f) i ≡ N f (parent_at metas i - 1) ++ (47 ∷ own_at metas strings i)
  unfolding name_at
  go_up f i ne = let q : eqb (parent_at metas i) 0 ≡ false = ne_eqb _ _ ne in rw (q, name_at)

  pub none : (i : ℕ) → N zero i ≡ own_at metas strings i
  unfolding name_at
  none i = refl

  -- once more up changes nothing
  more_fuel : (f i : ℕ) → Rising (i + 1) metas → i ≤ f → N (suc f) i ≡ N f i
  more_fuel zero i g h =
      let p = g.earlier i (omega arith) in
      let e : parent_at metas i ≡ 0 = omega (arith, p) in
      stop zero i e ∙ sym (none i)
  more_fuel (suc f) i g h = bool_cases (eqb (parent_at metas i) 0)
      (λ e. let z = eqb-true _ _ e in stop (suc f) i z ∙ sym (stop f i z))
      (λ e.
      let z = eqb-false _ _ e in
      let p = g.earlier i (omega arith) in
      let q : Rising (parent_at metas i - 1 + 1) metas = record { size = g.size; few = omega (arith, g.few, p); earlier = λ j b. g.earlier j (omega (arith, p)) } in
      go_up (suc f) i z ∙ ap (λ (x : List ℕ). x ++ (47 ∷ own_at metas strings i)) (more_fuel f (parent_at metas i - 1) q (omega (arith, p))) ∙ sym (go_up f i z))

  enough : (f i d : ℕ) → Rising (i + 1) metas → i ≤ f → N (f + d) i ≡ N f i
  enough f i zero g h = rw add-zero
  enough f i (suc d) g h = rw add-suc (more_fuel (f + d) i g (omega arith) ∙ enough f i d g h)

-- a row, and its parent as it was read
module _ (metas strings : List ℕ) (row up : ℕ) (g : Rising (row + 1) metas) (e : up ≡ parent_at metas row) where
  pub early : up ≤ row
  early = let p = g.earlier row (omega arith) in omega (arith, p, e)

  pub parent_rising : (up ≡ 0 → ⊥) → Rising (up - 1 + 1) metas
  parent_rising ne = record { size = g.size; few = omega (arith, g.few, early); earlier = λ j b. g.earlier j (omega (arith, early)) }

  top_name : up ≡ 0 → name_at row metas strings row ≡ own_at metas strings row
  top_name z = sym (more_fuel metas strings row row g (omega arith)) ∙ stop metas strings row row (sym e ∙ z)

  under_name : (up ≡ 0 → ⊥) → name_at row metas strings row ≡ name_at (up - 1) metas strings (up - 1) ++ (47 ∷ own_at metas strings row)
  under_name ne =
      let p = up - 1 in
      let d : p + (row - p) ≡ row = omega (arith, early) in
      let k : name_at (p + (row - p)) metas strings p ≡ name_at p metas strings p = enough metas strings p p (row - p) (parent_rising ne) (omega arith) in
      let m : name_at row metas strings p ≡ name_at p metas strings p = ap (λ (f : ℕ). name_at f metas strings p) (sym d) ∙ k in
      let u : name_at row metas strings (parent_at metas row - 1) ≡ name_at row metas strings p = ap (λ (x : ℕ). name_at row metas strings (x - 1)) (sym e) in
      sym (more_fuel metas strings row row g (omega arith)) ∙ go_up metas strings row row (λ z. ne (e ∙ z))
      ∙ ap (λ (x : List ℕ). x ++ (47 ∷ own_at metas strings row)) (u ∙ m)

  pub top_written : {l l' : List ℕ} {n n' : ℕ} → up ≡ 0 → Wrote l n (λ k. own_at metas strings row ++ k) l' n' → Wrote l n (λ k. name_at row metas strings row ++ k) l' n'
  top_written z w = same_text w (λ k. ap (λ (x : List ℕ). x ++ k) (sym (top_name z)))

  pub under_written : {l l' l'' : List ℕ} {n n' n'' : ℕ} → (up ≡ 0 → ⊥) → Wrote l n (λ k. name_at (up - 1) metas strings (up - 1) ++ k) l' n'
      → Wrote l' n' (λ k. 47 ∷ (own_at metas strings row ++ k)) l'' n'' → Wrote l n (λ k. name_at row metas strings row ++ k) l'' n''
  under_written ne w v =
      same_text (then w v) (λ k. sym (append_assoc (name_at (up - 1) metas strings (up - 1)) (47 ∷ own_at metas strings row) k) ∙ ap (λ (x : List ℕ). x ++ k) (sym (under_name ne)))

-- THE COUNT, and the two ways of a name
pub counts : {l l' : List ℕ} {r : ℕ} (name : List ℕ) → Wrote l 0 (λ k. name ++ k) l' r → r ≤ most → r ≡ min (length name) most
counts name p h = counted p h ∙ ap (λ (x : List ℕ). min (length x) most) (append-nil name)

pub room_short : (name room : List ℕ) (n : ℕ) → n ≡ min (length name) most → length room < n → made (Err (refusal 24 (at 0))) room ≡ given name room
room_short name room n e h = rw (lt-ltb (length room) (length name) (omega (arith, e)))

-- as no slice has the largest count of bytes, the count is the length
pub room_enough : (name : List ℕ) {l l' : List ℕ} {n r : ℕ} → length l < most → n ≡ min (length name) most → n ≤ length l → r ≤ most
    → Wrote l 0 (λ k. name ++ k) l' r → made (Ok r) l' ≡ given name l
room_enough name {l} {l'} {n} {r} f e h b p =
    let k : length name ≤ length l = omega (arith, e) in
    let c = counts name p b in
    let g : r ≡ length name = omega (arith, c, k) in
    let m : name ++ [] ≡ name = append-nil name in
    let q : length (name ++ []) ≤ length l = rw m k in
    let z : l' ≡ over (length name) name l = standing p q ∙ ap (λ (x : List ℕ). over (length x) x l) m in
    rw (le-ltb (length l) (length name) k) (λ i. made (Ok (g i)) (z i))

-- 16, or the name of an ident
module _ (count : ℕ) (metas strings : List ℕ) (row : ℕ) {b : Bool} (e : b ≡ ident_at count metas row) where
  pub ident_rising : b ≡ true → Rising count metas → Rising (row + 1) metas
  ident_rising h g =
      let m = ltb-true row count (and_true (ltb row count) _ (sym e ∙ h)).0 in
      record { size = g.size; few = omega (arith, g.few, m); earlier = λ j k. g.earlier j (omega (arith, m)) }

  pub is_ident_named : (room : List ℕ) (o : Outcome) → b ≡ true → o ≡ given (name_at row metas strings row) room → o ≡ asked count metas strings row room
  unfolding asked
  is_ident_named room o h p = let q : ident_at count metas row ≡ true = sym e ∙ h in rw q p

  pub no_ident_named : (room : List ℕ) → b ≡ false → made (Err (refusal 16 (at 0))) room ≡ asked count metas strings row room
  unfolding asked
  no_ident_named room h = let q : ident_at count metas row ≡ false = sym e ∙ h in rw q
