-- What passes a chain of rules passes each, and a chain that refuses refuses by one.
use Rattle.std.specs.Prelude.{Result, Ok, Err}
use mathlib.Core.Path.{◌≡◌, refl, sym, ap, ◌∙◌}
use mathlib.Core.Bool.{Bool, true, false, not}
use mathlib.Core.List.{List, [], ◌∷◌}
use mathlib.Core.Option.{Option, none, some}
use Prim.Native.Nat.{ℕ, zero, suc, ◌<◌, ◌≤◌}
use native.Mathlib.Omega.{arith}
use lib.ListN.{length}
use Rattle.ground.specs.Choice.{pick}
use Rattle.ground.proofs.Bools.{never_both}
use Rattle.ground.specs.declared.Refusal.{Refusal}
use Rattle.signs.specs.Pieces.{decoded}
use Rattle.signs.proofs.Strings.{meant_inside}
use Rattle.saying.specs.Notes.{Spells}
use Rattle.ground.specs.Lists.{all_of}
use borrow.Author.Tests.{lt-ltb, le-ltb, le-leb, lt-leb, eq-eqb, ne_eqb}
use Rattle.noting.specs.Rulings.{ruling_of}

pub never_passed : {P : Type 0} (g : Refusal) → ◌≡◌ {A = Result (Unit {0}) Refusal} (Err g) (Ok tt) → P
never_passed g e = absurd cc

pub passes : (b : Bool) (g : Refusal) (rest : Option Refusal) → ruling_of (pick b (some g) rest) ≡ Ok tt → (b ≡ false) × (ruling_of rest ≡ Ok tt)
passes true g rest e = never_passed g e
passes false g rest e = (refl, e)

-- four rules, one after the other
pub passes_four : (a b c d : Bool) (g h k l : Refusal) → ruling_of (pick a (some g) (pick b (some h) (pick c (some k) (pick d (some l) none)))) ≡ Ok tt
    → (a ≡ false) × (b ≡ false) × (c ≡ false) × (d ≡ false)
passes_four a b c d g h k l e =
    let p = passes a g (pick b (some h) (pick c (some k) (pick d (some l) none))) e in
    let q = passes b h (pick c (some k) (pick d (some l) none)) p.1 in
    let r = passes c k (pick d (some l) none) q.1 in
    let s = passes d l none r.1 in
    (p.0, q.0, r.0, s.0)

pub passed_none : (x : Option Refusal) → ruling_of x ≡ Ok tt → x ≡ none
passed_none none e = refl
passed_none (some g) e = never_passed g e

pub refused_some : (x : Option Refusal) (g : Refusal) → ruling_of x ≡ Err g → x ≡ some g
refused_some none g e = never_passed g (sym e)
refused_some (some h) g e = ap some (same h g e)
  where
    same : (h g : Refusal) → ◌≡◌ {A = Result (Unit {0}) Refusal} (Err h) (Err g) → h ≡ g
    same h g e = cc

pub not_false : (b : Bool) → not b ≡ false → b ≡ true
not_false true e = refl
not_false false e = never_both refl e

pub positive : (n : ℕ) → (n ≡ 0 → ⊥) → 0 < n
positive zero f = absurd (f refl)
positive (suc n) f = omega arith

-- a string that means something stands inside the text, and is spelled there
pub string_inside : (text : List ℕ) (k : ℕ) → 0 < length (decoded text k) → k < length text
string_inside text k h = meant_inside text k h

pub spells_there : (text : List ℕ) (k : ℕ) → 0 < length (decoded text k) → Spells text k (decoded text k)
spells_there text k h = record { is = rw (ne_eqb (length (decoded text k)) 0 (λ e. omega arith)) }

-- a fact that is the last of those asked
pub last_fact : (a b : Bool) → a ≡ b → a ≡ all_of (b ∷ [])
unfolding all_of
last_fact a true e = e
last_fact a false e = e

-- what a test tells of its outcome
pub ruleset tests = (lt-ltb, le-ltb, le-leb, lt-leb, eq-eqb, ne_eqb)
