-- The names of good tables, by their rows as by the netlist that they show; and the outcome of naming.
use Rattle.std.specs.Prelude.{Ok, Err}
use Prim.Native.Nat.{ℕ, zero, suc, ◌+◌, ◌-◌, ◌*◌, ◌<◌, ◌≤◌}
use mathlib.Core.Path.{◌≡◌, refl, sym, ap, ◌∙◌}
use mathlib.Core.Bool.{Bool, true, false, ◌&&◌}
use mathlib.Core.List.{List, [], ◌∷◌, ◌++◌}
use native.Mathlib.Omega.{arith}
use lib.Dec.{leb, ltb, eqb}
use lib.ListN.{length, drop, get_or, length-append}
use lib.Seq.{get_or-drop, drop-drop}
use borrow.Author.Tests.{eq-eqb, ne_eqb, eqb-true, eqb-false, leb-true, ltb-true}
use Rattle.ground.specs.Choice.{pick}
use Rattle.ground.specs.Regions.{part}
use Rattle.ground.specs.declared.Refusal.{Refusal}
use Rattle.ground.proofs.Bools.{bool_cases, never_both, and_true, fact}
use Rattle.ground.proofs.Outcome.{any_two}
use Rattle.ground.proofs.Regions.{part_length}
use Rattle.netlist.specs.Netlist.{Meta, Netlist, is_scope, indexed_meta, ident_meta}
use Rattle.netlist.specs.Rules.{refers, may_refer, meta_sound, metas_sound, valid}
use Rattle.netlist.specs.Tables.{Tables, tables_in}
use Rattle.netlist.specs.View.{meta_in, metas_in, view}
use Rattle.netlist.specs.Good.{laid, good, check_of}
use Rattle.netlist.proofs.Laying.{valid_roomy, valid_metas}
use Rattle.checking.proofs.Top.{checked_good}
use Rattle.writing.specs.Decimal.{signed}
use Rattle.naming.specs.Names.{Outcome, made, given, no_meta, meta_at, own_name, name_from, is_ident, written, name_of}
use Rattle.naming.specs.Rows.{field_at, parent_at, own_at, name_at, ident_at, Rising, asked}
use Rattle.naming.proofs.Laws.{stop, go_up, none}

-- PARENTS ARE EARLIER ROWS in sound metadata
refers_early : (kinds : List ℕ) (r : ℕ) → refers is_scope kinds r ≡ true → r ≤ length kinds
refers_early kinds r h = leb-true r (length kinds) (and_true (leb r (length kinds)) _ (and_true (leb 1 r) _ h).1).0

may_early : (kinds : List ℕ) (r : ℕ) → may_refer is_scope kinds r ≡ true → r ≤ length kinds
may_early kinds r h = bool_cases (eqb r 0) (λ e. let z = eqb-true r 0 e in omega (arith, z)) (λ e. refers_early kinds r (rw e at h))

either_early : (b : Bool) (kinds : List ℕ) (r : ℕ) → pick b (refers is_scope kinds r) (may_refer is_scope kinds r) ≡ true → r ≤ length kinds
either_early true kinds r h = refers_early kinds r h
either_early false kinds r h = may_early kinds r h

inside_early : (kinds : List ℕ) (ms : List Meta) (i : ℕ) → metas_sound kinds ms ≡ true → i < length ms → (get_or ms i no_meta).inside ≤ length kinds + i
unfolding metas_sound
inside_early kinds [] i h l = absurd (omega arith)
inside_early kinds (m ∷ ms) zero h l = bool_cases (meta_sound kinds m)
    (λ e. let k = either_early (eqb m.kind ident_meta) kinds m.inside (fact _ (fact _ e 2) 1) in omega (arith, k))
    (λ e. never_both (rw (e, metas_sound) at h) refl)
inside_early kinds (m ∷ ms) (suc i) h l = bool_cases (meta_sound kinds m)
    (λ e. let k = inside_early (kinds ++ (m.kind ∷ [])) ms i (rw (e, metas_sound) at h) (omega arith) in omega (arith, k, length-append kinds (m.kind ∷ [])))
    (λ e. never_both (rw (e, metas_sound) at h) refl)

-- the definition's steps up
stop_from : (N : Netlist) (f row : ℕ) → (meta_at N row).inside ≡ 0 → name_from (suc f) N row ≡ own_name (meta_at N row)
unfolding name_from
stop_from N f row e = let q : eqb (meta_at N row).inside 0 ≡ true = eq-eqb _ _ e in rw (q, name_from)

go_from : (N : Netlist) (f row : ℕ) → ((meta_at N row).inside ≡ 0 → ⊥) → name_from (suc f) N row ≡ name_from f N ((meta_at N row).inside - 1) ++ (47 ∷ own_name (meta_at N row))
unfolding name_from
go_from N f row ne = let q : eqb (meta_at N row).inside 0 ≡ false = ne_eqb _ _ ne in rw (q, name_from)

none_from : (N : Netlist) (row : ℕ) → name_from zero N row ≡ own_name (meta_at N row)
unfolding name_from
none_from N row = refl

-- THE ROWS OF TABLES show the netlist's metadata
module _ (T : Tables) where
  many : (n : ℕ) (rows : List ℕ) → length (metas_in T n rows) ≡ n
  unfolding metas_in
  many zero rows = refl
  many (suc n) rows = ap suc (many n (drop 16 rows))

  row_at : (n j : ℕ) (rows : List ℕ) → j < n → get_or (metas_in T n rows) j no_meta ≡ meta_in T (drop (j * 16) rows)
  unfolding metas_in
  row_at zero j rows h = absurd (omega arith)
  row_at (suc n) zero rows h = refl
  row_at (suc n) (suc j) rows h =
      let m : 16 + j * 16 ≡ suc j * 16 = omega arith in
      row_at n j (drop 16 rows) (omega arith) ∙ ap (λ (l : List ℕ). meta_in T l) (drop-drop (j * 16) 16 rows ∙ ap (λ (k : ℕ). drop k rows) m)

  field_at_lem : (j i : ℕ) → get_or (drop (j * 16) T.metas) i 0 ≡ field_at T.metas j i
  field_at_lem j i = get_or-drop (j * 16) T.metas i 0

  abbrev N : Netlist
  N = view T

  count_is : length N.metas ≡ T.meta_count
  unfolding view
  count_is = many T.meta_count T.metas

  meta_at_lem : (j : ℕ) → j < T.meta_count → meta_at N j ≡ meta_in T (drop (j * 16) T.metas)
  unfolding view
  meta_at_lem j h = row_at T.meta_count j T.metas h

  own_at_lem : (j : ℕ) → j < T.meta_count → own_name (meta_at N j) ≡ own_at T.metas T.strings j
  own_at_lem j h =
      let k = field_at_lem j 0 in
      let x = field_at_lem j 11 in
      let s = field_at_lem j 1 in
      let z = field_at_lem j 2 in
      ap (λ (m : Meta). own_name m) (meta_at_lem j h) ∙ (λ i. pick (eqb (k i) indexed_meta) (signed (x i)) (part (s i) (z i) T.strings))

  inside_at : (j : ℕ) → j < T.meta_count → (meta_at N j).inside ≡ parent_at T.metas j
  inside_at j h = ap (λ (m : Meta). m.inside) (meta_at_lem j h) ∙ field_at_lem j 9

  kind_at : (j : ℕ) → j < T.meta_count → (meta_at N j).kind ≡ field_at T.metas j 0
  kind_at j h = ap (λ (m : Meta). m.kind) (meta_at_lem j h) ∙ field_at_lem j 0

  name_same : (f row : ℕ) → Rising T.meta_count T.metas → row < T.meta_count → name_from f N row ≡ name_at f T.metas T.strings row
  name_same zero row g h = none_from N row ∙ own_at_lem row h ∙ sym (none T.metas T.strings row)
  name_same (suc f) row g h =
      let e = inside_at row h in
      let p = g.earlier row h in
      bool_cases (eqb (parent_at T.metas row) 0)
      (λ b. let z = eqb-true _ _ b in stop_from N f row (e ∙ z) ∙ own_at_lem row h ∙ sym (stop T.metas T.strings f row z))
      (λ b.
      let z = eqb-false _ _ b in
      let n = name_same f (parent_at T.metas row - 1) g (omega (arith, p, h)) in
      let o = own_at_lem row h in
      go_from N f row (λ y. z (sym e ∙ y))
      ∙ ap (λ (x : ℕ). name_from f N (x - 1) ++ (47 ∷ own_name (meta_at N row))) e
      ∙ (λ i. n i ++ (47 ∷ o i))
      ∙ sym (go_up T.metas T.strings f row z))

  ident_same : (row : ℕ) → is_ident N row ≡ ident_at T.meta_count T.metas row
  ident_same row = bool_cases (ltb row T.meta_count)
      (λ b.
      let k = kind_at row (ltb-true row T.meta_count b) in
      let n = count_is in
      λ i. ltb row (n i) && eqb (k i) ident_meta)
      (λ b. let q : ltb row (length N.metas) ≡ false = ap (λ (n : ℕ). ltb row n) count_is ∙ b in rw (q, b))

  -- GOOD TABLES HAVE EARLIER PARENTS
  pub good_rising : length T.metas ≡ 8192 → good T ≡ true → Rising T.meta_count T.metas
  unfolding good
  good_rising l g =
      let v = (and_true (laid (view T) T) (valid (view T)) g).1 in
      let w : length N.metas ≤ 512 = (valid_roomy N v).metas in
      let s = valid_metas N v in
      record {
        size = l;
        few = omega (arith, w, count_is);
        earlier = λ i h.
            let k : (meta_at N i).inside ≤ 0 + i = inside_early [] N.metas i s (omega (arith, count_is, h)) in
            omega (arith, k, inside_at i h);
      }

  pub asked_is : Rising T.meta_count T.metas → (row : ℕ) (room : List ℕ) → asked T.meta_count T.metas T.strings row room ≡ written N row room
  unfolding asked written
  asked_is g row room = bool_cases (ident_at T.meta_count T.metas row)
      (λ e.
      let q : is_ident N row ≡ true = ident_same row ∙ e in
      let h = ltb-true row T.meta_count (and_true (ltb row T.meta_count) _ e).0 in
      rw (e, q) (ap (λ (x : List ℕ). given x room) (sym (name_same row row g h))))
      (λ e. let q : is_ident N row ≡ false = ident_same row ∙ e in rw (e, q))

-- ANY LENT TABLES: 1 and 15 as the check says, else what is asked of the rows
module _ (rows strings bits : List ℕ) where
  module _ (metas : List ℕ) (m : metas ≡ part 3 8192 rows) where
    pub cut_rising : check_of rows strings bits ≡ Ok tt → Rising (get_or rows 0 0) metas
    unfolding tables_in
    cut_rising h =
        let k = checked_good rows strings bits h in
        rw m (good_rising (tables_in rows strings bits) (part_length 3 8192 rows (omega (arith, k.0.rows_long))) k.1)

    pub is_named : (row : ℕ) (room : List ℕ) (o : Outcome) (text : List ℕ) → text ≡ part 0 16384 strings → check_of rows strings bits ≡ Ok tt → o ≡ asked (get_or rows 0 0) metas text row room → o ≡ name_of rows strings bits row room
    unfolding name_of tables_in part
    is_named row room o text t h e =
        let r : Rising (get_or rows 0 0) (part 3 8192 rows) = rw m at (cut_rising h) in
        rw h ((rw (m, t) at e) ∙ asked_is (tables_in rows strings bits) r row room)

  pub not_named : (row : ℕ) (room : List ℕ) (g : Refusal) → check_of rows strings bits ≡ Err g → made (Err g) room ≡ name_of rows strings bits row room
  unfolding name_of
  not_named row room g h = rw h

-- EACH ANSWER IS DETERMINED: two outcomes that the contract allows are equal
pub name_one : (rows strings bits : List ℕ) (row : ℕ) (room : List ℕ) (o p : Outcome) → o ≡ name_of rows strings bits row room → p ≡ name_of rows strings bits row room → o ≡ p
name_one rows strings bits row room = any_two (name_of rows strings bits row) room
