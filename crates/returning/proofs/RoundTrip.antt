-- THE ROUND TRIP of netlists: the canonical text of a valid netlist, read, says that netlist again.
use Prim.Native.Nat.{ℕ, suc, ◌+◌, ◌≤◌}
use native.Mathlib.Omega.{arith}
use mathlib.Core.Path.{◌≡◌, refl, sym, ap, ◌∙◌}
use mathlib.Core.Bool.{true, false, ◌&&◌}
use mathlib.Core.List.{List, [], ◌∷◌}
use lib.Dec.{eqb, leb}
use lib.ListN.{length}
use borrow.Author.Tests.{eqb-true, eq-eqb, leb-true, leb-false}
use Rattle.ground.proofs.Bools.{bool_cases, never_both, and_true, true_and}
use Rattle.netlist.specs.Netlist.{Meta, Io, Cell, Netlist}
use Rattle.netlist.specs.Rules.{valid}
use Rattle.declaring.specs.Reading.{Reading, says, refused, read_sound, reading}
use Rattle.lines.specs.Lines.{is_bare, lines, canonical}
use Rattle.returning.proofs.Plain.{Fine, line_end, no_lines, lined_fine, fine_sound}
use Rattle.returning.proofs.Back.{lines_lined, lines_return, blank_says}

-- a netlist without declarations
abbrev nothing : Netlist
nothing = record { metas = []; ios = []; cells = [] }

none_in : {A : Type 0} (xs : List A) → eqb (length xs) 0 ≡ true → xs ≡ []
none_in [] e = refl
none_in (x ∷ xs) e = let z = eqb-true (suc (length xs)) 0 e in absurd (omega arith)

netlist_is : (ms : List Meta) (is : List Io) (cs : List Cell) → ms ≡ [] → is ≡ [] → cs ≡ [] → record { metas = ms; ios = is; cells = cs } ≡ nothing
netlist_is ms is cs m i c = rw (m, i, c)

bare_is : (N : Netlist) → is_bare N ≡ true → N ≡ nothing
bare_is N e =
    let p = and_true (eqb (length N.metas) 0) _ e in
    let q = and_true (eqb (length N.ios) 0) (eqb (length N.cells) 0) p.1 in
    netlist_is N.metas N.ios N.cells (none_in N.metas p.0) (none_in N.ios q.0) (none_in N.cells q.1)

-- one declaration at least
all_none : (a b c : ℕ) → eqb a 0 && (eqb b 0 && eqb c 0) ≡ false → 1 ≤ a + (b + (c + 0))
all_none a b c e = bool_cases (leb 1 (a + (b + (c + 0))))
    (λ z. leb-true 1 (a + (b + (c + 0))) z)
    (λ z. let l = leb-false 1 (a + (b + (c + 0))) z in
    never_both (true_and (eqb a 0) (eqb b 0 && eqb c 0) (eq-eqb a 0 (omega arith)) (true_and (eqb b 0) (eqb c 0) (eq-eqb b 0 (omega arith)) (eq-eqb c 0 (omega arith)))) e)

module _ (N : Netlist) (v : valid N ≡ true) where
  canonical_fine : Fine 0 (canonical N)
  unfolding canonical
  canonical_fine = bool_cases (is_bare N)
      (λ e. rw e (line_end no_lines))
      (λ e. rw e (let f = lined_fine (lines N []) (all_none (length N.metas) (length N.ios) (length N.cells) e) (lines_lined N v) in record { plain = f.plain; feed = f.feed; long = omega arith }))

  -- whatever its length, the text says the netlist
  pub sound_returns : read_sound (canonical N) ≡ says N
  unfolding canonical
  sound_returns = bool_cases (is_bare N)
      (λ e. rw e (blank_says ∙ ap says (sym (bare_is N e))))
      (λ e. rw e (lines_return N v))

  -- "Where that text is within the reader's length limit, reading it gives the same tables back": here, the netlist that they show
  pub returns : length (canonical N) ≤ 65536 → reading (canonical N) ≡ says N
  unfolding reading
  returns l = rw (fine_sound (canonical N) l canonical_fine) sound_returns

-- TWO VALID NETLISTS with one text are one netlist
abbrev netlist_said : Netlist → Reading → Netlist
netlist_said M (says N) = N
netlist_said M (refused g) = M

pub one_text : (M N : Netlist) → valid M ≡ true → valid N ≡ true → canonical M ≡ canonical N → M ≡ N
one_text M N u v e = ap (netlist_said M) (sym (sound_returns M u) ∙ ap read_sound e ∙ sound_returns N v)

-- CANONICAL IS CANONICAL: what is read from a canonical text has that text
pub canonical_again : (M N : Netlist) → valid M ≡ true → length (canonical M) ≤ 65536 → reading (canonical M) ≡ says N → canonical N ≡ canonical M
canonical_again M N v l e = ap canonical (ap (netlist_said M) (sym e ∙ returns M v l))
