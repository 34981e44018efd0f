-- The steps of a walk give exactly the parts of the operand, and those of a tour the members of the set.
-- Assumes nothing.
use Rattle.lexis.specs.declared.Token.{Token}
use Rattle.lexis.specs.Took.{Took}
use Rattle.std.specs.Prelude.{Ok, Err, Some, None}
use Rattle.ground.proofs.Pairs.{some_second, some_third}
use mathlib.Core.Path.{◌≡◌, refl, sym, ap}
use mathlib.Core.Bool.{false}
use mathlib.Core.List.{List}
use Prim.Native.Nat.{ℕ, zero, suc, ◌-◌, ◌<◌}
use native.Mathlib.Numerals.{add-one}
use native.Mathlib.Omega.{arith}
use lib.Dec.{eqb}
use borrow.Author.Tests.{ne_eqb, eqb-false}
use Rattle.ground.specs.Choice.{pick}
use Rattle.ground.proofs.Bools.{bool_cases}
use Rattle.ground.specs.declared.Place.{Place}
use Rattle.lexis.specs.Tokens.{token_at}
use Rattle.lexis.specs.declared.Reader.{Reader}
use Rattle.brackets.specs.Parts.{is_part, parts_of, parts_at, parts_from, members_at, members_from, next_part, next_member}
use Rattle.brackets.specs.Walks.{walk_from, walk_of, walk_on, walk_step, parts_left, parts_on, most_parts, tour_at, tour_on, tour_step, members_left, members_on}
use Rattle.brackets.specs.declared.Operand.{Operand}
use Rattle.brackets.specs.declared.Part.{Part}
use Rattle.brackets.specs.declared.Ref.{Ref}
use Rattle.brackets.specs.declared.Parted.{Parted}
use Rattle.brackets.specs.declared.Parted.TheVariants as parted
use Rattle.brackets.specs.declared.Membered.{Membered}
use Rattle.brackets.specs.declared.Membered.TheVariants as membered
use Rattle.brackets.specs.declared.Walk.{Walk}
use Rattle.brackets.specs.declared.Walk.TheVariants.{Past, Alone, Within}
use Rattle.brackets.specs.declared.Tour.{Tour}

-- at its start a walk has all parts of the operand before it
started : (text : List ℕ) (s : Took Token) → parts_left text (walk_from text s) ≡ parts_of text s
unfolding parts_left
started text (Err g) = refl
started text (Ok (t, r)) = bool_cases (is_part t) (λ e. rw e) (λ e. rw (e, add-one))

pub walk_starts : (text : List ℕ) (o : Operand) → parts_left text (walk_of text o) ≡ parts_at text o
unfolding walk_of parts_at parts_left
walk_starts text o = bool_cases o.given (λ e. rw e (started text (token_at text o.at))) (λ e. rw e)

some_left : (f : ℕ) → eqb (suc f) 0 ≡ false
some_left f = ne_eqb (suc f) 0 (λ e. omega arith)

-- between brackets
within : (text : List ℕ) (r : Reader) (left : ℕ) (v : Took Parted) → next_part text r.next.at ≡ v
    → parts_from left text r.next.at ≡ parts_on text (pick (eqb left 0) None (walk_on left v))
unfolding parts_from parts_left
within text r zero v e = refl
within text r (suc f) (Ok (parted.Took p place, q)) e = let m : suc f - 1 ≡ f = omega arith in rw (e, parts_from) (rw (some_left f, m))
within text r (suc f) (Ok (parted.Other t, q)) e = rw (e, parts_from) (rw (some_left f))
within text r (suc f) (Err g) e = rw (e, parts_from) (rw (some_left f))

-- each step gives the first of the parts before it, and leaves the others
pub walk_goes : (text : List ℕ) (w : Walk) → parts_left text w ≡ parts_on text (walk_step text w)
unfolding parts_left walk_step
walk_goes text Past = refl
walk_goes text (Alone p place) = refl
walk_goes text (Within r left) = within text r left (next_part text r.next.at) refl

-- and there are fewer of them
pub walk_shrinks : (text : List ℕ) (w next : Walk) (p : Part) (place : Place) → walk_step text w ≡ Some (p, place, next) → most_parts next < most_parts w
unfolding walk_step
walk_shrinks text Past next p place e = let z : ◌≡◌ {A = ℕ} 0 1 = cc in absurd (omega arith)
walk_shrinks text (Alone q at) next p place e = let m : most_parts next ≡ 0 = ap most_parts (sym (some_third e)) in omega arith
walk_shrinks text (Within r left) next p place e = bool_cases (eqb left 0)
    (λ z. let f = rw z at e in let n : ◌≡◌ {A = ℕ} 0 1 = cc in absurd (omega arith))
    (λ s. go (next_part text r.next.at) (rw s at e) (eqb-false left 0 s))
  where
    go : (v : Took Parted) → walk_on left v ≡ Some (p, place, next) → (left ≡ 0 → ⊥) → most_parts next < left
    go (Ok (parted.Took q at, s)) e h = let m : most_parts next ≡ left - 1 = ap most_parts (sym (some_third e)) in omega arith
    go (Ok (parted.Other t, s)) e h = let z : ◌≡◌ {A = ℕ} 0 1 = cc in absurd (omega arith)
    go (Err g) e h = let z : ◌≡◌ {A = ℕ} 0 1 = cc in absurd (omega arith)

-- the members of a set, likewise
pub tour_starts : (text : List ℕ) (k : ℕ) → members_left text (tour_at text k) ≡ members_at text k
tour_starts text k = rw add-one

toured_on : (text : List ℕ) (w : Tour) (left : ℕ) (v : Took Membered) → next_member text w.next.next.at ≡ v
    → members_from left text w.next.next.at ≡ members_on text (pick (eqb left 0) None (tour_on left v))
unfolding members_from
toured_on text w zero v e = refl
toured_on text w (suc f) (Ok (membered.Took m, q)) e = let l : suc f - 1 ≡ f = omega arith in rw (e, members_from) (rw (some_left f, l))
toured_on text w (suc f) (Ok (membered.Other t, q)) e = rw (e, members_from) (rw (some_left f))
toured_on text w (suc f) (Err g) e = rw (e, members_from) (rw (some_left f))

pub tour_goes : (text : List ℕ) (w : Tour) → members_left text w ≡ members_on text (tour_step text w)
unfolding tour_step
tour_goes text w = toured_on text w w.left (next_member text w.next.next.at) refl

pub tour_shrinks : (text : List ℕ) (w next : Tour) (m : Ref) → tour_step text w ≡ Some (m, next) → next.left < w.left
unfolding tour_step
tour_shrinks text w next m e = bool_cases (eqb w.left 0)
    (λ z. let f = rw z at e in let n : ◌≡◌ {A = ℕ} 0 1 = cc in absurd (omega arith))
    (λ s. go (next_member text w.next.next.at) (rw s at e) (eqb-false w.left 0 s))
  where
    go : (v : Took Membered) → tour_on w.left v ≡ Some (m, next) → (w.left ≡ 0 → ⊥) → next.left < w.left
    go (Ok (membered.Took x, q)) e h = let l : next.left ≡ w.left - 1 = ap (λ (t : Tour). t.left) (sym (some_second e)) in omega arith
    go (Ok (membered.Other t, q)) e h = let z : ◌≡◌ {A = ℕ} 0 1 = cc in absurd (omega arith)
    go (Err g) e h = let z : ◌≡◌ {A = ℕ} 0 1 = cc in absurd (omega arith)
