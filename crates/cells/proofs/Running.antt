-- Records run from slots that are made: what they add, and what a cell's bits then hold.
use mathlib.Core.Path.{◌≡◌, refl, ap, ap₂, ◌∙◌, sym, subst}
use mathlib.Core.List.{List, [], ◌∷◌, ◌++◌, map, append_assoc, append-nil}
use Prim.Native.Nat.{ℕ, zero, suc, ◌+◌, ◌<◌, ◌≤◌}
use native.Mathlib.Omega.{arith}
use lib.ListN.{length, get_or, length-append, get_or-append}
use lib.Seq.{get_or-append-add}
use Rattle.loadlist.specs.Records.{rec}
use Rattle.loadlist.specs.Run.{slot_of, slots_from}
use Rattle.loadlist.specs.declared.Record.{Record}
use Rattle.cells.specs.Records.{Made, made, then}

-- the values in slots
abbrev pub at : List ℕ → ℕ → ℕ
at S x = get_or S x 0

abbrev pub reads_of : List ℕ → List ℕ → List ℕ
reads_of S xs = map (at S) xs

-- slots that are made
abbrev pub Early : List ℕ → List ℕ → Type 0
Early S [] = Unit {0}
Early S (x ∷ xs) = (x < length S) × Early S xs

-- what is made stays
pub old : (S T : List ℕ) (x : ℕ) → x < length S → at (S ++ T) x ≡ at S x
old S T x h = get_or-append S T 0 x h

pub new : (S T : List ℕ) (x j : ℕ) → x ≡ length S + j → at (S ++ T) x ≡ at T j
new S T x j e = ap (λ (i : ℕ). get_or (S ++ T) i 0) e ∙ get_or-append-add S T j 0

pub reads_old : (S T xs : List ℕ) → Early S xs → reads_of (S ++ T) xs ≡ reads_of S xs
reads_old S T [] h = refl
reads_old S T (x ∷ xs) h = ap₂ (λ (v : ℕ) (l : List ℕ). v ∷ l) (old S T x h.0) (reads_old S T xs h.1)

-- what holds of two operands' values after more is made holds of their values before
pub both_old : (P : List ℕ → List ℕ → Type 0) (S T xs ys : List ℕ) → Early S xs → Early S ys → P (reads_of (S ++ T) xs) (reads_of (S ++ T) ys) → P (reads_of S xs) (reads_of S ys)
both_old P S T xs ys p q w = subst (λ (z : List ℕ). P z (reads_of S ys)) (reads_old S T xs p) (subst (λ (z : List ℕ). P (reads_of (S ++ T) xs) z) (reads_old S T ys q) w)

pub early_old : (S T xs : List ℕ) → Early S xs → Early (S ++ T) xs
early_old S T [] h = tt
early_old S T (x ∷ xs) h = (omega (arith, length-append S T, h.0), early_old S T xs h.1)

pub reads_append : (S xs ys : List ℕ) → reads_of S (xs ++ ys) ≡ reads_of S xs ++ reads_of S ys
reads_append S [] ys = refl
reads_append S (x ∷ xs) ys = ap (λ (l : List ℕ). at S x ∷ l) (reads_append S xs ys)

pub early_append : (S xs ys : List ℕ) → Early S xs → Early S ys → Early S (xs ++ ys)
early_append S [] ys p q = q
early_append S (x ∷ xs) ys p q = (p.0, early_append S xs ys p.1 q)

-- RUNNING
pub slots_append : (rs qs : List Record) (ins S : List ℕ) → slots_from (rs ++ qs) ins S ≡ slots_from qs ins (slots_from rs ins S)
unfolding slots_from
slots_append [] qs ins S = refl
slots_append (r ∷ rs) qs ins S = slots_append rs qs ins (S ++ (slot_of r ins S ∷ []))

-- one record more, behind those that added T
pub ran_step : (ins S T : List ℕ) (r : Record) (rs : List Record) (v : ℕ) → slot_of r ins (S ++ T) ≡ v
    → slots_from (r ∷ rs) ins (S ++ T) ≡ slots_from rs ins (S ++ (T ++ (v ∷ [])))
unfolding slots_from
ran_step ins S T r rs v e = ap (slots_from rs ins) (append_assoc S T (slot_of r ins (S ++ T) ∷ []) ∙ ap (λ (x : ℕ). S ++ (T ++ (x ∷ []))) e)

pub ran_start : (ins S : List ℕ) (rs : List Record) → slots_from rs ins S ≡ slots_from rs ins (S ++ [])
ran_start ins S rs = ap (slots_from rs ins) (sym (append-nil S))

pub ran_end : (ins S : List ℕ) → slots_from [] ins S ≡ S
unfolding slots_from
ran_end ins S = refl

-- A CELL'S RECORDS ARE RIGHT: run from the slots S they add new ones, and then the slots of the cell's bits hold vs
pub record Right (ins S : List ℕ) (m : Made) (vs : List ℕ) : Type 0 where
  pub added : List ℕ
  pub ran : slots_from m.records ins S ≡ S ++ added
  pub holds : reads_of (S ++ added) m.outs ≡ vs
  pub early : Early (S ++ added) m.outs

-- no record: the bits are slots that are made
pub right_none : (ins S xs : List ℕ) → Early S xs → Right ins S (made [] xs) (reads_of S xs)
right_none ins S xs h = record { added = []; ran = ran_end ins S ∙ sym (append-nil S); holds = reads_old S [] xs h; early = early_old S [] xs h }

-- records that add T and give the slots os, and then those of m
pub right_then : (ins S T : List ℕ) (rs : List Record) (os us vs : List ℕ) (m : Made)
    → slots_from rs ins S ≡ S ++ T → reads_of (S ++ T) os ≡ us → Early (S ++ T) os → Right ins (S ++ T) m vs → Right ins S (then rs os m) (us ++ vs)
right_then ins S T rs os us vs m e h l w =
    let q : (S ++ T) ++ w.added ≡ S ++ (T ++ w.added) = append_assoc S T w.added in
    record {
      added = T ++ w.added;
      ran = slots_append rs m.records ins S ∙ ap (slots_from m.records ins) e ∙ w.ran ∙ q;
      holds = rw (← q) (reads_append ((S ++ T) ++ w.added) os m.outs ∙ ap₂ (λ (x y : List ℕ). x ++ y) (reads_old (S ++ T) w.added os l ∙ h) w.holds);
      early = rw (← q) (early_append ((S ++ T) ++ w.added) os m.outs (early_old (S ++ T) w.added os l) w.early);
    }
