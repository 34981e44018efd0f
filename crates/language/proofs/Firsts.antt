-- The search for the first fault finds none exactly where all pass.
use mathlib.Core.Path.{◌≡◌, refl}
use mathlib.Core.Bool.{Bool, true, false, not}
use mathlib.Core.List.{List, [], ◌∷◌}
use mathlib.Core.Option.{none, some}
use Prim.Native.Nat.{ℕ}
use native.Mathlib.Omega.{arith}
use Rattle.ground.specs.Lists.{every}
use Rattle.ground.specs.declared.Place.{Place}
use Rattle.ground.proofs.Bools.{bool_cases, every_first, every_more, never_both, not_of_false}
use Rattle.saying.specs.Pieces.{PieceAt, unresolved, first_unresolved}
use Rattle.saying.specs.Rules.{Sofar, Asked, misnamed, first_misnamed}

-- what is not so is false
pub not_true : (b : Bool) → not b ≡ true → b ≡ false
not_true true e = never_both e refl
not_true false e = refl

never_found : {P : Type 0} (p : Place) → some p ≡ none → P
never_found p e = let z : ◌≡◌ {A = ℕ} 0 1 = cc in absurd (omega arith)

-- RULE 10: the references of a declaration
module _ (so : Sofar) where
  abbrev named : Asked → Bool
  named q = not (misnamed so q)

  -- where all are named rightly, none is found
  pub all_named : (qs : List Asked) → every (λ q. not (misnamed so q)) qs ≡ true → first_misnamed so qs ≡ none
  unfolding first_misnamed
  all_named [] h = refl
  all_named (q ∷ qs) h = let f = every_first named q qs h in rw (not_true (misnamed so q) f.0, first_misnamed) (all_named qs f.1)

  -- and only there
  pub none_misnamed : (qs : List Asked) → first_misnamed so qs ≡ none → every (λ q. not (misnamed so q)) qs ≡ true
  unfolding first_misnamed every
  none_misnamed [] h = refl
  none_misnamed (q ∷ qs) h = bool_cases (misnamed so q)
      (λ e. never_found q.ref.place (rw (e, first_misnamed) at h))
      (λ e. every_more named q qs (not_of_false (misnamed so q) e) (none_misnamed qs (rw (e, first_misnamed) at h)))

-- RULE 14: the pieces of the text
module _ (numbers widths : List ℕ) where
  abbrev found : PieceAt → Bool
  found p = not (unresolved numbers widths p)

  -- where all resolve, none is found
  pub all_resolved : (ps : List PieceAt) → every (λ p. not (unresolved numbers widths p)) ps ≡ true → first_unresolved numbers widths ps ≡ none
  unfolding first_unresolved
  all_resolved [] h = refl
  all_resolved (p ∷ ps) h = let f = every_first found p ps h in rw (not_true (unresolved numbers widths p) f.0, first_unresolved) (all_resolved ps f.1)

  -- and only there
  pub none_unresolved : (ps : List PieceAt) → first_unresolved numbers widths ps ≡ none → every (λ p. not (unresolved numbers widths p)) ps ≡ true
  unfolding first_unresolved every
  none_unresolved [] h = refl
  none_unresolved (p ∷ ps) h = bool_cases (unresolved numbers widths p)
      (λ e. never_found p.place (rw (e, first_unresolved) at h))
      (λ e. every_more found p ps (not_of_false (unresolved numbers widths p) e) (none_unresolved ps (rw (e, first_unresolved) at h)))
