-- What the contracts of `note_meta`, `note_io` and `note_cell` fix, given what was said before: the answer, that is, the refusal with its
-- place, or the tally but for its note of bare parts: that tells only how rule 14 is asked. Of the tables they fix what is noted; a string's
-- place may be any at which the text spells it.
use Rattle.std.specs.Prelude.{Result, Ok, Err}
use mathlib.Core.Path.{◌≡◌, refl, sym, ap, ◌∙◌}
use mathlib.Core.Bool.{false}
use mathlib.Core.List.{List}
use mathlib.Core.Option.{Option, none, some}
use Prim.Native.Nat.{ℕ}
use native.Mathlib.Omega.{arith}
use lib.ListN.{length}
use Rattle.ground.specs.Lists.{total}
use Rattle.ground.specs.Refusals.{refusal}
use Rattle.ground.specs.declared.Place.{Place}
use Rattle.ground.specs.declared.Refusal.{Refusal}
use Rattle.ground.proofs.Outcome.{any_two}
use Rattle.form.specs.declared.Declared.{Declared}
use Rattle.netlist.specs.Netlist.{Netlist, strings_of, members_of, attr_bits_of, runs_of, run_bits_of}
use Rattle.netlist.specs.Rules.{output_bits}
use Rattle.saying.specs.Rules.{Sofar}
use Rattle.noting.specs.Noted.{Tallied, After}
use Rattle.noting.specs.declared.Tally.{Tally}

pub one_refusal : (number : ℕ) (place : Place) (o p : Result (Unit {0}) Refusal) → o ≡ Err (refusal number place) → p ≡ Err (refusal number place) → o ≡ p
one_refusal number = any_two (λ (place : Place). Err (refusal number place))

-- the tally of a netlist
abbrev tally_of : Netlist → Tally
tally_of N = record {
  metas = length N.metas;
  ios = length N.ios;
  cells = length N.cells;
  members = length (members_of N.metas);
  trits = length (attr_bits_of N.metas);
  runs = length (runs_of N.cells);
  known = length (run_bits_of (runs_of N.cells));
  declared = total (λ c. c.width) N.cells;
  outputs = total output_bits N.cells;
  strings = length (strings_of N);
  bare = false;
}

-- .. and a tally without its note of bare parts
abbrev pub counts : Tally → Tally
counts n = record {
  metas = n.metas;
  ios = n.ios;
  cells = n.cells;
  members = n.members;
  trits = n.trits;
  runs = n.runs;
  known = n.known;
  declared = n.declared;
  outputs = n.outputs;
  strings = n.strings;
  bare = false;
}

abbrev pub counted : Result Tally Refusal → Result Tally Refusal
counted (Err g) = Err g
counted (Ok n) = Ok (counts n)

tallied : (N : Netlist) (n : Tally) → Tallied N n → counts n ≡ tally_of N
tallied N n t = rw (t.metas, t.ios, t.cells, t.members, t.trits, t.runs, t.known, t.declared, t.outputs, t.strings)

pub one_tally : (N : Netlist) (n m : Tally) → Tallied N n → Tallied N m → counts n ≡ counts m
one_tally N n m s t = tallied N n s ∙ sym (tallied N m t)

abbrev told : Refusal → Option Refusal → Refusal
told g none = g
told g (some h) = h

never_told : (g : Refusal) (o : Option Refusal) → o ≡ none → o ≡ some g → ⊥
never_told g o a b = let z : ◌≡◌ {A = ℕ} 0 1 = cc in omega arith

module _ (text : List ℕ) (so : Sofar) (d : Declared) (a x u b y v : List ℕ) where
  pub one_answer : (o p : Result Tally Refusal) → After text so d o a x u → After text so d p b y v → counted o ≡ counted p
  one_answer (Err g) (Err h) s t = ap Err (ap (told g) (sym s ∙ t))
  one_answer (Err g) (Ok m) s t = absurd (never_told g _ t.0 s)
  one_answer (Ok n) (Err h) s t = absurd (never_told h _ s.0 t)
  one_answer (Ok n) (Ok m) s t = ap Ok (one_tally _ n m s.1.tally t.1.tally)
