-- A READ IS REFUSED EXACTLY ON ITS GROUND. Document 01, Refusal numbers: "Reading: 1 to 4 over all the text; then each declaration, first form
-- (5 to 8, left to right, the smaller at one place), then 9 to 13 by number; last 14, left to right". Each ground here says that none
-- before it holds; so each number is told where its ground is, and nowhere else.
-- Assumes nothing.
use Rattle.form.specs.Form.{Form}
use Rattle.std.specs.Prelude.{Result, Ok, Err, Some, None}
use mathlib.Core.Path.{◌≡◌, refl, ap, ◌∙◌, sym, subst}
use mathlib.Core.Bool.{Bool, true, false, ◌||◌}
use mathlib.Core.List.{List}
use mathlib.Core.Option.{Option, none, some}
use Prim.Native.Nat.{ℕ, zero, suc, ◌+◌, ◌-◌, ◌<◌, ◌≤◌}
use native.Mathlib.Omega.{arith}
use lib.Dec.{ltb}
use lib.ListN.{length}
use Rattle.ground.specs.Choice.{pick}
use Rattle.ground.specs.Refusals.{at, refusal}
use Rattle.ground.specs.declared.Place.{Place}
use Rattle.ground.specs.declared.Refusal.{Refusal}
use Rattle.ground.proofs.Bools.{bool_cases}
use Rattle.scanning.specs.Whole.{bad_at, ends_in_feed, whole_of}
use Rattle.lexis.specs.declared.Reader.{Reader}
use Rattle.form.specs.Forms.{form_at}
use Rattle.form.specs.declared.Declared.{Declared}
use Rattle.netlist.specs.Rules.{widths_of}
use Rattle.netlist.specs.Good.{short}
use Rattle.saying.specs.Pieces.{first_unresolved}
use Rattle.saying.specs.Rules.{Sofar, Said, nothing, said_by, added, twice, asked_of, first_misnamed, incomplete, misfit, cramped, ruled_out}
use Rattle.declaring.specs.Reading.{Declarations, all, stopped, declarations_from, Reading, says, refused, resolved, declared, read_sound, reading}
use Rattle.declaring.proofs.Declaring.{form_stops, form_ends, rule_stops, goes_on}
use Rattle.language.proofs.Progress.{took_inside, took_past}
use Rattle.reading.specs.Outcome as reading

-- RULES 9 TO 13, by number: what a declaration breaks, given what those before it say
pub data Broken (text : List ℕ) (so : Sofar) (d : Declared) : Refusal → Type 0 where
  again : twice so d.index (said_by text so d.decl) ≡ true → Broken text so d (refusal 9 d.place)
  misnaming : (p : Place) → twice so d.index (said_by text so d.decl) ≡ false → first_misnamed so (asked_of text d.decl) ≡ some p → Broken text so d (refusal 10 p)
  incompletely : twice so d.index (said_by text so d.decl) ≡ false → first_misnamed so (asked_of text d.decl) ≡ none
      → incomplete (said_by text so d.decl) ≡ true → Broken text so d (refusal 11 d.place)
  unfitting : twice so d.index (said_by text so d.decl) ≡ false → first_misnamed so (asked_of text d.decl) ≡ none
      → incomplete (said_by text so d.decl) ≡ false → misfit (said_by text so d.decl) ≡ true → Broken text so d (refusal 12 d.place)
  beyond_room : twice so d.index (said_by text so d.decl) ≡ false → first_misnamed so (asked_of text d.decl) ≡ none
      → incomplete (said_by text so d.decl) ≡ false → misfit (said_by text so d.decl) ≡ false → cramped so d.index (said_by text so d.decl) ≡ true
      → Broken text so d (refusal 13 d.place)

-- .. and a declaration that keeps them all
pub record Kept (text : List ℕ) (so : Sofar) (d : Declared) : Type 0 where
  pub once : twice so d.index (said_by text so d.decl) ≡ false
  pub named : first_misnamed so (asked_of text d.decl) ≡ none
  pub whole : incomplete (said_by text so d.decl) ≡ false
  pub fits : misfit (said_by text so d.decl) ≡ false
  pub room : cramped so d.index (said_by text so d.decl) ≡ false

abbrev rule_told : Option Refusal → Refusal
rule_told (some g) = g
rule_told none = refusal 0 (at 0)

module _ (text : List ℕ) (so : Sofar) (d : Declared) where
  broken_as : (g h : Refusal) → some h ≡ some g → Broken text so d h → Broken text so d g
  broken_as g h e b = subst (Broken text so d) (ap rule_told e) b

  broken_by : (g : Refusal) → ruled_out text so d ≡ some g → Broken text so d g
  unfolding ruled_out
  broken_by g e = bool_cases (twice so d.index (said_by text so d.decl))
      (λ a. broken_as g (refusal 9 d.place) (rw a at e) (again a))
      (λ a. of_names a (first_misnamed so (asked_of text d.decl)) refl)
    where
      of_names : twice so d.index (said_by text so d.decl) ≡ false → (x : Option Place) → first_misnamed so (asked_of text d.decl) ≡ x → Broken text so d g
      of_names a (some p) b = broken_as g (refusal 10 p) (rw (a, b) at e) (misnaming p a b)
      of_names a none b = bool_cases (incomplete (said_by text so d.decl))
          (λ c. broken_as g (refusal 11 d.place) (rw (a, b, c) at e) (incompletely a b c))
          (λ c. bool_cases (misfit (said_by text so d.decl))
          (λ f. broken_as g (refusal 12 d.place) (rw (a, b, c, f) at e) (unfitting a b c f))
          (λ f. bool_cases (cramped so d.index (said_by text so d.decl))
          (λ r. broken_as g (refusal 13 d.place) (rw (a, b, c, f, r) at e) (beyond_room a b c f r))
          (λ r. let z : ◌≡◌ {A = ℕ} 0 1 = cc (rw (a, b, c, f, r) at e) in absurd (omega arith))))

  breaks : {g : Refusal} → Broken text so d g → ruled_out text so d ≡ some g
  unfolding ruled_out
  breaks (again a) = rw a
  breaks (misnaming p a b) = rw (a, b)
  breaks (incompletely a b c) = rw (a, b, c)
  breaks (unfitting a b c f) = rw (a, b, c, f)
  breaks (beyond_room a b c f r) = rw (a, b, c, f, r)

  keeps : Kept text so d → ruled_out text so d ≡ none
  unfolding ruled_out
  keeps k = rw (k.once, k.named, k.whole, k.fits, k.room)

  never_kept : {P : Type 0} {g : Refusal} → ruled_out text so d ≡ none → Broken text so d g → P
  never_kept e b = let f = breaks b in let z : ◌≡◌ {A = ℕ} 0 1 = cc in absurd (omega arith)

  kept_by : ruled_out text so d ≡ none → Kept text so d
  kept_by e = bool_cases (twice so d.index (said_by text so d.decl))
      (λ a. never_kept e (again a))
      (λ a. of_names a (first_misnamed so (asked_of text d.decl)) refl)
    where
      of_names : twice so d.index (said_by text so d.decl) ≡ false → (x : Option Place) → first_misnamed so (asked_of text d.decl) ≡ x → Kept text so d
      of_names a (some p) b = never_kept e (misnaming p a b)
      of_names a none b = bool_cases (incomplete (said_by text so d.decl))
          (λ c. never_kept e (incompletely a b c))
          (λ c. bool_cases (misfit (said_by text so d.decl))
          (λ f. never_kept e (unfitting a b c f))
          (λ f. bool_cases (cramped so d.index (said_by text so d.decl))
          (λ r. never_kept e (beyond_room a b c f r))
          (λ r. record { once = a; named = b; whole = c; fits = f; room = r })))

-- THE FIRST DECLARATION THAT IS REFUSED, from a place on and behind what is said: of bad form (5 to 8), or breaking a rule (9 to 13)
pub data Stopped (text : List ℕ) : ℕ → Sofar → Refusal → Type 0 where
  misformed : {k : ℕ} {so : Sofar} {g : Refusal} → form_at text k ≡ Err g → Stopped text k so g
  ruled : {k : ℕ} {so : Sofar} {g : Refusal} (d : Declared) (r : Reader) → form_at text k ≡ Ok (Some (d, r)) → Broken text so d g → Stopped text k so g
  later : {k : ℕ} {so : Sofar} {g : Refusal} (d : Declared) (r : Reader) → form_at text k ≡ Ok (Some (d, r)) → Kept text so d
      → Stopped text r.next.at (added so d.index (said_by text so d.decl)) g → Stopped text k so g

-- .. or all of them taken, which say `more`
pub data Taken (text : List ℕ) : ℕ → Sofar → Sofar → Type 0 where
  ended : {k : ℕ} {so : Sofar} → form_at text k ≡ Ok None → Taken text k so so
  next : {k : ℕ} {so more : Sofar} (d : Declared) (r : Reader) → form_at text k ≡ Ok (Some (d, r)) → Kept text so d
      → Taken text r.next.at (added so d.index (said_by text so d.decl)) more → Taken text k so more

-- the declarations from a place on come to one of the two
pub data Comes (text : List ℕ) (k : ℕ) (so : Sofar) : Declarations → Type 0 where
  stops : {g : Refusal} → Stopped text k so g → Comes text k so (stopped g)
  takes : {more : Sofar} → Taken text k so more → Comes text k so (all more)

module _ (text : List ℕ) where
  comes_on : (k : ℕ) (so : Sofar) (d : Declared) (r : Reader) (ds : Declarations) → form_at text k ≡ Ok (Some (d, r)) → Kept text so d
      → Comes text r.next.at (added so d.index (said_by text so d.decl)) ds → Comes text k so ds
  comes_on k so d r ds e h (stops s) = stops (later d r e h s)
  comes_on k so d r ds e h (takes t) = takes (next d r e h t)

  -- with more fuel than bytes are left
  comes : (f k : ℕ) (so : Sofar) → length text - k < f → Comes text k so (declarations_from f text k so)
  comes zero k so l = absurd (omega arith)
  comes (suc f) k so l = of_form (form_at text k) refl (λ j so' m. comes f j so' m)
    where
      of_form : (v : Form) → form_at text k ≡ v → ((j : ℕ) (so' : Sofar) → length text - j < f → Comes text j so' (declarations_from f text j so')) → Comes text k so (declarations_from (suc f) text k so)
      of_form (Err g) v ih = subst (Comes text k so) (sym (form_stops text k so g v f)) (stops (misformed v))
      of_form (Ok None) v ih = subst (Comes text k so) (sym (form_ends text k so v f)) (takes (ended v))
      of_form (Ok (Some (d, r))) v ih = of_rules (ruled_out text so d) refl
        where
          of_rules : (x : Option Refusal) → ruled_out text so d ≡ x → Comes text k so (declarations_from (suc f) text k so)
          of_rules (some g) o = subst (Comes text k so) (sym (rule_stops text k so d r v g o f)) (stops (ruled d r v (broken_by text so d g o)))
          of_rules none o =
              let a = took_inside text k d r v in
              let b = took_past text k d r v in
              subst (Comes text k so) (sym (goes_on text k so d r v o f))
              (comes_on k so d r (declarations_from f text r.next.at (added so d.index (said_by text so d.decl))) v (kept_by text so d o) (ih r.next.at (added so d.index (said_by text so d.decl)) (omega arith)))

  -- and what they come to is what reading finds
  stopped_told : {k : ℕ} {so : Sofar} {g : Refusal} → Stopped text k so g → (f : ℕ) → length text - k < f → declarations_from f text k so ≡ stopped g
  stopped_told s zero l = absurd (omega arith)
  stopped_told {k} {so} {g} (misformed e) (suc f) l = form_stops text k so g e f
  stopped_told {k} {so} {g} (ruled d r e b) (suc f) l = rule_stops text k so d r e g (breaks text so d b) f
  stopped_told {k} {so} {g} (later d r e h s) (suc f) l =
      let a = took_inside text k d r e in
      let b = took_past text k d r e in
      goes_on text k so d r e (keeps text so d h) f ∙ stopped_told {k = r.next.at} {so = added so d.index (said_by text so d.decl)} s f (omega arith)

  taken_told : {k : ℕ} {so more : Sofar} → Taken text k so more → (f : ℕ) → length text - k < f → declarations_from f text k so ≡ all more
  taken_told t zero l = absurd (omega arith)
  taken_told {k} {so} (ended e) (suc f) l = form_ends text k so e f
  taken_told {k} {so} (next d r e h t) (suc f) l =
      let a = took_inside text k d r e in
      let b = took_past text k d r e in
      goes_on text k so d r e (keeps text so d h) f ∙ taken_told {k = r.next.at} {so = added so d.index (said_by text so d.decl)} t f (omega arith)

-- RULE 14: the first piece that does not resolve
abbrev first_lost : Sofar → Option Place
first_lost so = first_unresolved so.cell_numbers (widths_of so.netlist.cells) so.pieces

-- THE GROUNDS OF A TEXT: 2, 3, 4 over all of it; the first declaration that is refused; the first piece that does not resolve
pub data Unsaid (text : List ℕ) : Refusal → Type 0 where
  too_long : ltb 65536 (length text) ≡ true → Unsaid text (refusal 2 (at 65536))
  bad_sequence : (k : ℕ) → ltb 65536 (length text) ≡ false → bad_at text ≡ some k → Unsaid text (refusal 3 (at k))
  unended : ltb 65536 (length text) ≡ false → bad_at text ≡ none → ends_in_feed text ≡ false → Unsaid text (refusal 4 (at (length text)))
  at_declaration : {g : Refusal} → whole_of text ≡ Ok tt → Stopped text 0 nothing g → Unsaid text g
  at_piece : (p : Place) (so : Sofar) → whole_of text ≡ Ok tt → Taken text 0 nothing so → first_lost so ≡ some p → Unsaid text (refusal 14 p)

abbrev told : Reading → Refusal
told (refused g) = g
told (says N) = refusal 0 (at 0)

module _ (text : List ℕ) where
  unsaid_as : (g h : Refusal) → refused h ≡ refused g → Unsaid text h → Unsaid text g
  unsaid_as g h e u = subst (Unsaid text) (ap told e) u

  of_pieces : (g : Refusal) → whole_of text ≡ Ok tt → (so : Sofar) → Taken text 0 nothing so → (x : Option Place) → first_lost so ≡ x → resolved so x ≡ refused g → Unsaid text g
  of_pieces g s so t (some p) f e = unsaid_as g (refusal 14 p) e (at_piece p so s t f)
  of_pieces g s so t none f e = let z : ◌≡◌ {A = ℕ} 0 1 = cc in absurd (omega arith)

  of_declarations : (g : Refusal) → whole_of text ≡ Ok tt → (ds : Declarations) → Comes text 0 nothing ds → declared ds ≡ refused g → Unsaid text g
  of_declarations g s ds (stops {g = h} x) e = unsaid_as g h e (at_declaration s x)
  of_declarations g s ds (takes {more = so} t) e = of_pieces g s so t (first_lost so) refl e

  of_sound : (g : Refusal) → whole_of text ≡ Ok tt → reading text ≡ refused g → Unsaid text g
  unfolding reading read_sound
  of_sound g s e = of_declarations g s (declarations_from (suc (length text)) text 0 nothing) (comes text (suc (length text)) 0 nothing (omega arith)) (rw s at e)

  -- told, then the ground holds
  pub refused_unsaid : (g : Refusal) → reading text ≡ refused g → Unsaid text g
  unfolding reading whole_of
  refused_unsaid g e = bool_cases (ltb 65536 (length text))
      (λ a. unsaid_as g (refusal 2 (at 65536)) (rw a at e) (too_long a))
      (λ a. of_sequences a (bad_at text) refl)
    where
      of_sequences : ltb 65536 (length text) ≡ false → (x : Option ℕ) → bad_at text ≡ x → Unsaid text g
      of_sequences a (some k) b = unsaid_as g (refusal 3 (at k)) (rw (a, b) at e) (bad_sequence k a b)
      of_sequences a none b = bool_cases (ends_in_feed text)
          (λ c. of_sound g (rw (a, b, c)) e)
          (λ c. unsaid_as g (refusal 4 (at (length text))) (rw (a, b, c) at e) (unended a b c))

  -- the ground holds, then it is told
  pub unsaid_refused : {g : Refusal} → Unsaid text g → reading text ≡ refused g
  unfolding reading read_sound whole_of
  unsaid_refused (too_long a) = rw a
  unsaid_refused (bad_sequence k a b) = rw (a, b)
  unsaid_refused (unended a b c) = rw (a, b, c)
  unsaid_refused (at_declaration s x) = sound_refused s x
    where
      sound_refused : {g : Refusal} → whole_of text ≡ Ok tt → Stopped text 0 nothing g → reading text ≡ refused g
      sound_refused s x = rw (s, stopped_told text x (suc (length text)) (omega arith))
  unsaid_refused (at_piece p so s t f) = rw (s, taken_told text t (suc (length text)) (omega arith), f)

-- A READ: 1 where a lent slice is short, else the ground of its text
abbrev pub lent_short : List ℕ → List ℕ → List ℕ → List ℕ → Bool
lent_short rows strings bits work = short rows strings bits || ltb (length work) reading.work_length

pub data Unread (text rows strings bits work : List ℕ) : Refusal → Type 0 where
  lent_short_lem : lent_short rows strings bits work ≡ true → Unread text rows strings bits work (refusal 1 (at 0))
  unsaid : {g : Refusal} → lent_short rows strings bits work ≡ false → Unsaid text g → Unread text rows strings bits work g

abbrev refusal_in : Result (Unit {0}) Refusal → Refusal
refusal_in (Err g) = g
refusal_in (Ok tt) = refusal 0 (at 0)

module _ (text rows strings bits work : List ℕ) where
  left_refused : (g : Refusal) (r : Reading) → (reading.left rows strings bits work r).answer ≡ Err g → r ≡ refused g
  left_refused g (says N) e = let z : ◌≡◌ {A = ℕ} 0 1 = cc in absurd (omega arith)
  left_refused g (refused h) e = ap (λ (r : Result (Unit {0}) Refusal). refused (refusal_in r)) e

  -- a read that is refused, of slices that are long enough, is refused as its text is
  pub judged : (g : Refusal) → (reading.read_of text rows strings bits work).answer ≡ Err g → lent_short rows strings bits work ≡ false → reading text ≡ refused g
  unfolding reading.read_of
  judged g e f = left_refused g (reading text) (rw f at e)

  pub read_refused : (g : Refusal) → (reading.read_of text rows strings bits work).answer ≡ Err g → Unread text rows strings bits work g
  unfolding reading.read_of
  read_refused g e = bool_cases (lent_short rows strings bits work)
      (λ a. subst (Unread text rows strings bits work) (ap refusal_in (rw a at e)) (lent_short_lem a))
      (λ a. unsaid a (refused_unsaid text g (judged g e a)))

  pub read_told : {g : Refusal} → Unread text rows strings bits work g → (reading.read_of text rows strings bits work).answer ≡ Err g
  unfolding reading.read_of
  read_told (lent_short_lem a) = rw a
  read_told (unsaid a u) = rw (a, unsaid_refused text u)
