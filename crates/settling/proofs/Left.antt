-- A table whose rows are rewritten one after the other: what is left of it gives what the whole gives. The rule is the same for rows
-- of any width.
use mathlib.Core.Path.{◌≡◌, refl, sym, ap, ◌∙◌}
use mathlib.Core.List.{List, [], ◌∷◌, ◌++◌, map, append_assoc}
use Prim.Native.Nat.{ℕ, suc, ◌+◌, ◌*◌, ◌<◌, ◌≤◌}
use native.Mathlib.Nat.{suc-mul}
use native.Mathlib.Numerals.{add-one}
use native.Mathlib.Omega.{arith}
use lib.ListN.{length, take, drop, length-append}
use lib.Seq.{take_at, drop_at, drop-drop}
use Rattle.ground.specs.Lists.{joined}

-- row i is the first of the rows left; `note` is a row as it stands, `laid` the rows that are to stand
pub record Left {A : Type 0} (w : ℕ) (note : A → List ℕ) (laid : List A → List ℕ) (n i : ℕ) (table final : List ℕ) (rest : List A) : Type 0 where
  pub front : List ℕ
  pub behind : List ℕ
  pub at : length front ≡ i * w
  pub left : i + length rest ≡ n
  pub rows : table ≡ front ++ (joined note rest ++ behind)
  pub goal : front ++ (laid rest ++ behind) ≡ final

module _ {A : Type 0} (w : ℕ) (note : A → List ℕ) (laid : List A → List ℕ) (n i : ℕ) (table final : List ℕ) (x : A) (xs : List A) (l : Left w note laid n i table final (x ∷ xs)) where
  split : table ≡ l.front ++ (note x ++ (joined note xs ++ l.behind))
  unfolding joined
  split = l.rows ∙ ap (λ (t : List ℕ). l.front ++ t) (append_assoc (note x) (joined note xs) l.behind)

  -- the row that stands next
  pub left_row : length (note x) ≡ w → take w (drop (i * w) table) ≡ note x
  left_row e = rw (split, drop_at l.front (note x ++ (joined note xs ++ l.behind)) (i * w) l.at, take_at (note x) (joined note xs ++ l.behind) w e)

  -- there is a row, and it lies within the table
  pub left_inside : length (note x) ≡ w → i * w + w ≤ length table
  left_inside e = rw split (simp length-append (omega (arith, e, l.at)))

  pub left_some : i < n
  left_some = let e = l.left in omega arith

  -- one row more is as it is to be
  pub left_more : (later : List A → List ℕ) (row : List ℕ) → length (note x) ≡ w → length row ≡ w → laid (x ∷ xs) ≡ row ++ later xs
      → Left w note later n (i + 1) (take (i * w) table ++ (row ++ drop w (drop (i * w) table))) final xs
  left_more later row e f g =
      let a : take (i * w) table ≡ l.front = ap (take (i * w)) split ∙ take_at l.front (note x ++ (joined note xs ++ l.behind)) (i * w) l.at in
      let b : drop (i * w) table ≡ note x ++ (joined note xs ++ l.behind) = ap (drop (i * w)) split ∙ drop_at l.front (note x ++ (joined note xs ++ l.behind)) (i * w) l.at in
      let d : drop w (drop (i * w) table) ≡ joined note xs ++ l.behind = ap (drop w) b ∙ drop_at (note x) (joined note xs ++ l.behind) w e in
      let s : i * w + w ≡ (i + 1) * w = rw (add-one, suc-mul) in
      let m = l.left in
      record {
        front = l.front ++ row;
        behind = l.behind;
        at = length-append l.front row ∙ omega (arith, l.at, f, s);
        left = omega arith;
        rows = rw (a, d) (sym (append_assoc l.front row (joined note xs ++ l.behind)));
        goal = append_assoc l.front row (later xs ++ l.behind)
            ∙ ap (λ (t : List ℕ). l.front ++ t) (sym (append_assoc row (later xs) l.behind) ∙ ap (λ (t : List ℕ). t ++ l.behind) (sym g))
            ∙ l.goal;
      }

-- at the end nothing is left
pub left_end : {A : Type 0} (w : ℕ) (note : A → List ℕ) (laid : List A → List ℕ) (n i : ℕ) (table final : List ℕ) (rest : List A) → Left w note laid n i table final rest → n ≤ i → laid [] ≡ [] → table ≡ final
unfolding joined
left_end w note laid n i table final [] l h e = l.rows ∙ ap (λ (t : List ℕ). l.front ++ (t ++ l.behind)) (sym e) ∙ l.goal
left_end w note laid n i table final (x ∷ xs) l h e = let m = l.left in absurd (omega arith)
