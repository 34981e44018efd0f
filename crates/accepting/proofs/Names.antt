-- Names that are all different, with one more that none of them is.
use mathlib.Core.Path.{◌≡◌, refl, sym, ap, ◌∙◌}
use mathlib.Core.Bool.{true, false}
use mathlib.Core.List.{List, [], ◌∷◌, ◌++◌, map}
use Prim.Native.Nat.{ℕ}
use lib.Dec.{eqb}
use borrow.Author.Tests.{eqb-true, eqb-false, eq-eqb, ne_eqb}
use Rattle.ground.specs.Text.{same}
use Rattle.ground.proofs.Bools.{bool_cases, never_both}
use Rattle.ground.proofs.Same.{same_turned}
use Rattle.netlist.specs.Netlist.{Cell}
use Rattle.netlist.specs.Rules.{taken, distinct, names_as}
use Rattle.saying.specs.Values.{row_cell}

-- a name that is not among the names and not the last
taken_last : (n m : List ℕ) (ns : List (List ℕ)) → taken n ns ≡ false → same n m ≡ false → taken n (ns ++ (m ∷ [])) ≡ false
unfolding taken
taken_last n m [] h e = rw (e, taken) refl
taken_last n m (x ∷ ns) h e = bool_cases (same n x)
    (λ s. never_both refl (rw (s, taken) at h))
    (λ s. rw (s, taken) (taken_last n m ns (rw (s, taken) at h) e))

pub distinct_last : (ns : List (List ℕ)) (m : List ℕ) → distinct ns ≡ true → taken m ns ≡ false → distinct (ns ++ (m ∷ [])) ≡ true
unfolding distinct taken
distinct_last [] m d h = refl
distinct_last (n ∷ ns) m d h = bool_cases (same m n)
    (λ s. never_both refl (rw (s, taken) at h))
    (λ s. bool_cases (taken n ns)
    (λ t. never_both (rw (t, distinct) at d) refl)
    (λ t. let u = taken_last n m ns t (same_turned n m ∙ s) in rw (u, distinct) (distinct_last ns m (rw (t, distinct) at d) (rw (s, taken) at h))))

-- THE NAMES OF THE CELLS OF ONE KIND
module _ (kind : ℕ) where
  names_other : (cs : List Cell) (c : Cell) → eqb c.kind kind ≡ false → names_as kind (cs ++ (c ∷ [])) ≡ names_as kind cs
  unfolding names_as
  names_other [] c e = rw (e, names_as) refl
  names_other (d ∷ cs) c e = bool_cases (eqb d.kind kind)
      (λ f. rw (f, names_as) (ap (λ (l : List (List ℕ)). d.name ∷ l) (names_other cs c e)))
      (λ f. rw (f, names_as) (names_other cs c e))

  names_more : (cs : List Cell) (c : Cell) → eqb c.kind kind ≡ true → names_as kind (cs ++ (c ∷ [])) ≡ names_as kind cs ++ (c.name ∷ [])
  unfolding names_as
  names_more [] c e = rw (e, names_as) refl
  names_more (d ∷ cs) c e = bool_cases (eqb d.kind kind)
      (λ f. rw (f, names_as) (ap (λ (l : List (List ℕ)). d.name ∷ l) (names_more cs c e)))
      (λ f. rw (f, names_as) (names_more cs c e))

  -- with a cell whose name none of its kind has
  pub names_distinct : (cs : List Cell) (c : Cell) → distinct (names_as kind cs) ≡ true → (c.kind ≡ kind → taken c.name (names_as kind cs) ≡ false) → distinct (names_as kind (cs ++ (c ∷ []))) ≡ true
  names_distinct cs c d h = bool_cases (eqb c.kind kind)
      (λ e. rw (names_more cs c e) (distinct_last (names_as kind cs) c.name d (h (eqb-true c.kind kind e))))
      (λ e. rw (names_other cs c e) d)

  pub names_rowed : (ns : List ℕ) (cs : List Cell) → names_as kind (map (row_cell ns) cs) ≡ names_as kind cs
  unfolding names_as
  names_rowed ns [] = refl
  names_rowed ns (c ∷ cs) = bool_cases (eqb c.kind kind)
      (λ f. rw (f, names_as) (ap (λ (l : List (List ℕ)). c.name ∷ l) (names_rowed ns cs)))
      (λ f. rw (f, names_as) (names_rowed ns cs))
