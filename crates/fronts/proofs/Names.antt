-- Names that are all different: none of them is among those before it.
use mathlib.Core.Path.{◌≡◌, refl, sym, ap, ◌∙◌}
use mathlib.Core.Bool.{true, false}
use mathlib.Core.Logic.{◌⊎◌, inl, inr}
use mathlib.Core.List.{List, [], ◌∷◌, ◌++◌, map}
use Prim.Native.Nat.{ℕ}
use lib.Dec.{eqb}
use borrow.Author.Tests.{eqb-true, eqb-false, eq-eqb, ne_eqb}
use Rattle.ground.specs.Text.{same}
use Rattle.ground.proofs.Bools.{bool_cases, never_both}
use Rattle.ground.proofs.Same.{same_turned}
use Rattle.kinds.specs.Kinds.{Kind, kind_at, input_kind, output_kind}
use Rattle.kinds.proofs.Widths.{picked}
use Rattle.netlist.specs.Netlist.{Cell}
use Rattle.netlist.specs.Rules.{taken, distinct, names_as}
use Rattle.fronts.specs.Fronts.{number_cell}

-- a name that is not among names is none of them
not_taken : (n m : List ℕ) (front back : List (List ℕ)) → taken n (front ++ (m ∷ back)) ≡ false → same n m ≡ false
unfolding taken
not_taken n m [] back h = bool_cases (same n m) (λ s. never_both refl (rw (s, taken) at h)) (λ s. s)
not_taken n m (x ∷ front) back h = bool_cases (same n x)
    (λ s. never_both refl (rw (s, taken) at h))
    (λ s. not_taken n m front back (rw (s, taken) at h))

-- one of different names is not among those before it
pub taken_before : (front : List (List ℕ)) (name : List ℕ) (back : List (List ℕ)) → distinct (front ++ (name ∷ back)) ≡ true → taken name front ≡ false
unfolding distinct taken
taken_before [] name back h = refl
taken_before (n ∷ front) name back h = bool_cases (taken n (front ++ (name ∷ back)))
    (λ t. never_both (rw (t, distinct) at h) refl)
    (λ t.
    let s : same name n ≡ false = same_turned name n ∙ not_taken n name front back t in
    rw (s, taken) (taken_before front name back (rw (t, distinct) at h)))

-- THE NAMES OF THE CELLS OF ONE KIND
module _ (kind : ℕ) where
  names_at : (cs : List Cell) (c : Cell) (cs' : List Cell) → eqb c.kind kind ≡ true → names_as kind (cs ++ (c ∷ cs')) ≡ names_as kind cs ++ (c.name ∷ names_as kind cs')
  unfolding names_as
  names_at [] c cs' e = rw (e, names_as) refl
  names_at (d ∷ cs) c cs' e = bool_cases (eqb d.kind kind)
      (λ f. rw (f, names_as) (ap (λ (l : List (List ℕ)). d.name ∷ l) (names_at cs c cs' e)))
      (λ f. rw (f, names_as) (names_at cs c cs' e))

  -- cells told by numbers have the same names
  pub names_numbered : (ns : List ℕ) (cs : List Cell) → names_as kind (map (number_cell ns) cs) ≡ names_as kind cs
  unfolding names_as
  names_numbered ns [] = refl
  names_numbered ns (c ∷ cs) = bool_cases (eqb c.kind kind)
      (λ f. rw (f, names_as) (ap (λ (l : List (List ℕ)). c.name ∷ l) (names_numbered ns cs)))
      (λ f. rw (f, names_as) (names_numbered ns cs))

  -- a cell's name is not among those of its kind before it
  pub name_new : (ds cs : List Cell) (c : Cell) (cs' : List Cell) → ds ≡ cs ++ (c ∷ cs') → distinct (names_as kind ds) ≡ true → c.kind ≡ kind → taken c.name (names_as c.kind cs) ≡ false
  name_new ds cs c cs' e h k =
      let f : distinct (names_as kind (cs ++ (c ∷ cs'))) ≡ true = rw e at h in
      rw k (taken_before (names_as kind cs) c.name (names_as kind cs') (rw (names_at cs c cs' (eq-eqb c.kind kind k)) at f))

abbrev Nameless : Kind → Type 0
Nameless k = k.named ≡ false

-- only inputs and outputs have names
pub named_kind : (n : ℕ) → (kind_at n).named ≡ true → (n ≡ input_kind) ⊎ (n ≡ output_kind)
unfolding kind_at
named_kind n h = bool_cases (eqb n 1)
    (λ e. inl (eqb-true n 1 e))
    (λ e. bool_cases (eqb n 2)
    (λ f. inr (eqb-true n 2 f))
    (λ f. never_both h (rw (e, f) (picked Nameless (eqb n 3) _ _ refl (picked Nameless (eqb n 4) _ _ refl (picked Nameless (eqb n 5) _ _ refl (picked Nameless (eqb n 6) _ _ refl
    (picked Nameless (eqb n 7) _ _ refl (picked Nameless (eqb n 8) _ _ refl (picked Nameless (eqb n 9) _ _ refl (picked Nameless (eqb n 10) _ _ refl
    (picked Nameless (eqb n 11) _ _ refl (picked Nameless (eqb n 12) _ _ refl refl)))))))))))))
