-- How the measures of concatenations and sets go on, with f parts or members still allowed.
-- Assumes nothing.
use Rattle.std.specs.Prelude.{Ok, Err}
use mathlib.Core.Path.{◌≡◌, refl}
use mathlib.Core.Bool.{true, false}
use mathlib.Core.List.{List}
use Prim.Native.Nat.{ℕ, zero, suc, ◌+◌, ◌-◌, ◌<◌, ◌≤◌}
use native.Mathlib.Numerals.{sub-one}
use native.Mathlib.Omega.{arith}
use Rattle.ground.specs.Refusals.{at, refusal}
use Rattle.ground.specs.declared.Place.{Place}
use Rattle.ground.specs.declared.Refusal.{Refusal}
use Rattle.lexis.specs.Tokens.{inside_at, meta}
use Rattle.lexis.specs.declared.Reader.{Reader}
use Rattle.lexis.specs.declared.Token.{Token}
use Rattle.brackets.specs.Words.{is_sort}
use Rattle.brackets.specs.Parts.{is_part, part_of, ref, part_width, next_part, concat_end, concat_from, next_member, set_end, set_from}
use Rattle.brackets.specs.declared.Part.{Part}
use Rattle.brackets.specs.declared.Ref.{Ref}
use Rattle.brackets.specs.declared.Parted.TheVariants as parted
use Rattle.brackets.specs.declared.Membered.TheVariants as membered

-- what stands next between brackets, by its token
module _ (text : List ℕ) (k : ℕ) where
  pub part_refused : (g : Refusal) → inside_at text k ≡ Err g → next_part text k ≡ Err g
  unfolding next_part
  part_refused g e = rw e

  pub member_refused : (g : Refusal) → inside_at text k ≡ Err g → next_member text k ≡ Err g
  unfolding next_member
  member_refused g e = rw e

  module _ (t : Token) (r : Reader) (e : inside_at text k ≡ Ok (t, r)) where
    pub part_took : is_part t ≡ true → next_part text k ≡ Ok (parted.Took (part_of t) t.place, r)
    unfolding next_part
    part_took p = rw (e, p)

    pub part_other : is_part t ≡ false → next_part text k ≡ Ok (parted.Other t, r)
    unfolding next_part
    part_other p = rw (e, p)

    pub member_took : is_sort meta t ≡ true → next_member text k ≡ Ok (membered.Took (ref t), r)
    unfolding next_member
    member_took p = rw (e, p)

    pub member_other : is_sort meta t ≡ false → next_member text k ≡ Ok (membered.Other t, r)
    unfolding next_member
    member_other p = rw (e, p)

pub concat_none : (f : ℕ) (text : List ℕ) (n k : ℕ) → f ≤ 0 → Err (refusal 7 (at k)) ≡ concat_from f text n k
unfolding concat_from
concat_none zero text n k h = refl
concat_none (suc f) text n k h = absurd (omega arith)

pub concat_took :
    (f : ℕ) (text : List ℕ) (n k : ℕ) → 0 < f → (p : Part) (place : Place) (r : Reader) → next_part text k ≡ Ok (parted.Took p place, r)
    → concat_from (f - 1) text (n + part_width p) r.next.at ≡ concat_from f text n k
unfolding concat_from
concat_took zero text n k h p place r e = absurd (omega arith)
concat_took (suc f) text n k h p place r e = simp sub-one (rw (e, concat_from))

pub concat_other :
    (f : ℕ) (text : List ℕ) (n k : ℕ) → 0 < f → (t : Token) (r : Reader) → next_part text k ≡ Ok (parted.Other t, r)
    → concat_end n t r ≡ concat_from f text n k
unfolding concat_from
concat_other zero text n k h t r e = absurd (omega arith)
concat_other (suc f) text n k h t r e = rw (e, concat_from)

pub concat_refused :
    (f : ℕ) (text : List ℕ) (n k : ℕ) → 0 < f → (g : Refusal) → next_part text k ≡ Err g
    → Err g ≡ concat_from f text n k
unfolding concat_from
concat_refused zero text n k h g e = absurd (omega arith)
concat_refused (suc f) text n k h g e = rw (e, concat_from)

pub set_none : (f : ℕ) (text : List ℕ) (n k : ℕ) → f ≤ 0 → Err (refusal 7 (at k)) ≡ set_from f text n k
unfolding set_from
set_none zero text n k h = refl
set_none (suc f) text n k h = absurd (omega arith)

pub set_took :
    (f : ℕ) (text : List ℕ) (n k : ℕ) → 0 < f → (m : Ref) (r : Reader) → next_member text k ≡ Ok (membered.Took m, r)
    → set_from (f - 1) text (n + 1) r.next.at ≡ set_from f text n k
unfolding set_from
set_took zero text n k h m r e = absurd (omega arith)
set_took (suc f) text n k h m r e = simp sub-one (rw (e, set_from))

pub set_other :
    (f : ℕ) (text : List ℕ) (n k : ℕ) → 0 < f → (t : Token) (r : Reader) → next_member text k ≡ Ok (membered.Other t, r)
    → set_end n t r ≡ set_from f text n k
unfolding set_from
set_other zero text n k h t r e = absurd (omega arith)
set_other (suc f) text n k h t r e = rw (e, set_from)

pub set_refused :
    (f : ℕ) (text : List ℕ) (n k : ℕ) → 0 < f → (g : Refusal) → next_member text k ≡ Err g
    → Err g ≡ set_from f text n k
unfolding set_from
set_refused zero text n k h g e = absurd (omega arith)
set_refused (suc f) text n k h g e = rw (e, set_from)
