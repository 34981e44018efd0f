-- What is said so far stays sound with each declaration that passes rules 9 to 13.
use mathlib.Core.Path.{◌≡◌, refl}
use mathlib.Core.Bool.{Bool, true, false, not, ◌&&◌}
use mathlib.Core.List.{List, [], ◌∷◌, ◌++◌, map, append_assoc, append-nil}
use mathlib.Core.Option.{Option, none, some}
use Prim.Native.Nat.{ℕ, ◌≤◌}
use native.Mathlib.Omega.{arith}
use lib.Dec.{leb}
use lib.ListN.{length}
use borrow.Author.Tests.{leb-true, le-leb}
use Rattle.ground.specs.Choice.{pick}
use Rattle.ground.specs.Lists.{every, all_of, total, joined}
use Rattle.ground.specs.Refusals.{refusal}
use Rattle.ground.specs.declared.Place.{Place}
use Rattle.ground.specs.declared.Refusal.{Refusal}
use Rattle.ground.proofs.Bools.{bool_cases, never_both, and_false, or_false, not_of_false, fact, facts, every_first, every_more, no_facts}
use Rattle.ground.proofs.Counts.{length_mapped}
use Rattle.kinds.specs.Kinds.{kind_at, input_kind, output_kind, wide}
use Rattle.form.specs.declared.Declared.{Declared}
use Rattle.netlist.specs.Netlist.{Meta, Io, Cell, operand_width}
use Rattle.netlist.specs.Rules.{taken, distinct, io_names, names_as, complete, attr_width, cell_width, roomy, is_byte, meta_sound, metas_sound, io_sound, unless, runless, cell_sound, is_empty}
use Rattle.saying.specs.Values.{row_run, row_cell}
use Rattle.saying.specs.Pieces.{PieceAt, first_unresolved}
use Rattle.saying.specs.Rules.{Sofar, nothing, Said, metadata, pad, cell, said_by, added, twice, declares, asked_of, first_misnamed, incomplete, misfit, cramped, ruled, ruled_out}
use Rattle.noting.proofs.Growing.{map_last, length_last, every_last}
use Rattle.noting.proofs.Passing.{not_false}
use Rattle.resolving.proofs.Declared.{both_resolved}
use Rattle.accepting.proofs.Numbers.{width_rowed}
use Rattle.accepting.proofs.Names.{distinct_last, names_distinct}
use Rattle.accepting.proofs.Said.{kinds_of, MetaSaid, CellSaid, SaidSound}

-- THE RULES that a declaration passes
pub record Passed (text : List ℕ) (so : Sofar) (d : Declared) (s : Said) : Type 0 where
  pub once : twice so d.index s ≡ false
  pub named : first_misnamed so (asked_of text d.decl) ≡ none
  pub whole : incomplete s ≡ false
  pub fits : misfit s ≡ false
  pub room : roomy (added so d.index s).netlist ≡ true

never_refused : {P : Type 0} (g : Refusal) → some g ≡ none → P
never_refused g e = let z : ◌≡◌ {A = ℕ} 0 1 = cc in absurd (omega arith)

passes : (b : Bool) (g : Refusal) (rest : Option Refusal) → pick b (some g) rest ≡ none → (b ≡ false) × (rest ≡ none)
passes true g rest e = never_refused g e
passes false g rest e = (refl, e)

pub passed : (text : List ℕ) (so : Sofar) (d : Declared) → ruled_out text so d ≡ none → Passed text so d (said_by text so d.decl)
unfolding ruled_out
passed text so d e =
    let s = said_by text so d.decl in
    let p = passes (twice so d.index s) (refusal 9 d.place) (ruled so d s (first_misnamed so (asked_of text d.decl))) e in
    go (first_misnamed so (asked_of text d.decl)) refl p.0 p.1
  where
    go : (x : Option Place) → first_misnamed so (asked_of text d.decl) ≡ x → twice so d.index (said_by text so d.decl) ≡ false
        → ruled so d (said_by text so d.decl) x ≡ none → Passed text so d (said_by text so d.decl)
    go (some p) f o e = never_refused (refusal 10 p) e
    go none f o e =
        let s = said_by text so d.decl in
        let full = pick (cramped so d.index s) (some (refusal 13 d.place)) none in
        let a = passes (incomplete s) (refusal 11 d.place) (pick (misfit s) (some (refusal 12 d.place)) full) e in
        let b = passes (misfit s) (refusal 12 d.place) full a.1 in
        let c = passes (cramped so d.index s) (refusal 13 d.place) none b.1 in
        record { once = o; named = f; whole = a.0; fits = b.0; room = not_false (roomy (added so d.index s).netlist) c.0 }

-- SOUND so far: all that is asked of a valid netlist, once every piece resolves
pub record Sound (so : Sofar) : Type 0 where
  pub room : roomy so.netlist ≡ true
  pub metas : metas_sound [] so.netlist.metas ≡ true
  pub ios : every io_sound so.netlist.ios ≡ true
  pub io_named : distinct (io_names so.netlist.ios) ≡ true
  pub cells : (ns ws : List ℕ) → first_unresolved ns ws so.pieces ≡ none → every (λ (c : Cell). cell_sound ws (length so.netlist.metas) (row_cell ns c)) so.netlist.cells ≡ true
  pub inputs : distinct (names_as input_kind so.netlist.cells) ≡ true
  pub outputs : distinct (names_as output_kind so.netlist.cells) ≡ true

pub nothing_sound : Sound nothing
unfolding roomy all_of every total joined metas_sound distinct names_as
nothing_sound = record { room = refl; metas = refl; ios = refl; io_named = refl; cells = λ ns ws e. refl; inputs = refl; outputs = refl }

-- METADATA
metas_last : (kinds : List ℕ) (ms : List Meta) (m : Meta) → metas_sound kinds ms ≡ true → meta_sound (kinds ++ map (λ (m : Meta). m.kind) ms) m ≡ true → metas_sound kinds (ms ++ (m ∷ [])) ≡ true
unfolding metas_sound
metas_last kinds [] m h e = let f : meta_sound kinds m ≡ true = rw append-nil at e in rw (f, metas_sound) refl
metas_last kinds (x ∷ ms) m h e = bool_cases (meta_sound kinds x)
    (λ f. rw (f, metas_sound) (metas_last (kinds ++ (x.kind ∷ [])) ms m (rw (f, metas_sound) at h) (rw (append_assoc kinds (x.kind ∷ []) (map (λ (m : Meta). m.kind) ms)) e)))
    (λ f. never_both (rw (f, metas_sound) at h) refl)

meta_facts : (kinds : List ℕ) (m : Meta) → MetaSaid kinds m → complete m ≡ true → attr_width m ≡ true → meta_sound kinds m ≡ true
meta_facts kinds m s c w = facts _ _ s.shaped (facts _ _ s.ranged (facts _ _ s.refers (facts _ _ c (facts _ _ w no_facts))))

-- more metadata leaves a cell sound
cell_later : (ws : List ℕ) (n m : ℕ) (c : Cell) → n ≤ m → cell_sound ws n c ≡ true → cell_sound ws m c ≡ true
cell_later ws n m c l h =
    let r : leb c.meta m ≡ true = (let k = leb-true c.meta n (fact _ h 3) in le-leb c.meta m (omega arith)) in
    facts _ _ (fact _ h 0) (facts _ _ (fact _ h 1) (facts _ _ (fact _ h 2) (facts _ _ r (facts _ _ (fact _ h 4) (facts _ _ (fact _ h 5) (facts _ _ (fact _ h 6)
    (facts _ _ (fact _ h 7) (facts _ _ (fact _ h 8) (facts _ _ (fact _ h 9) (facts _ _ (fact _ h 10) no_facts))))))))))

every_on : {A : Type 0} (p q : A → Bool) → ((x : A) → p x ≡ true → q x ≡ true) → (xs : List A) → every p xs ≡ true → every q xs ≡ true
unfolding every
every_on p q on [] h = refl
every_on p q on (x ∷ xs) h = let f = every_first p x xs h in every_more q x xs (on x f.0) (every_on p q on xs f.1)

-- CELLS
cell_facts : (metas : ℕ) (c : Cell) (a b d : ℕ) (ps : List PieceAt) → CellSaid metas c a b d ps → (kind_at c.kind).named && is_empty c.name ≡ false → cell_width c.kind c.width a b d ≡ true
    → (ns ws : List ℕ) → first_unresolved ns ws ps ≡ none → cell_sound ws metas (row_cell ns c) ≡ true
cell_facts metas c a b d ps s named wide ns ws e =
    let r = s.resolved ns ws e in
    let long = length_mapped (row_run ns) in
    let name : pick (kind_at c.kind).named (not (is_empty c.name)) (is_empty c.name) ≡ true = bool_cases (kind_at c.kind).named
    (λ f. rw f (not_of_false (is_empty c.name) (and_false (kind_at c.kind).named (is_empty c.name) named f)))
    (λ f. rw (f, s.nameless f) refl) in
    let fa : unless (leb 1 (kind_at c.kind).operands) (runless (map (row_run ns) c.a)) ≡ true = rw (long c.a) s.first in
    let fb : unless (leb 2 (kind_at c.kind).operands) (runless (map (row_run ns) c.b)) ≡ true = rw (long c.b) s.second in
    let fc : unless (leb 3 (kind_at c.kind).operands) (runless (map (row_run ns) c.c)) ≡ true = rw (long c.c) s.third in
    let fw : cell_width c.kind c.width (operand_width (map (row_run ns) c.a)) (operand_width (map (row_run ns) c.b)) (operand_width (map (row_run ns) c.c)) ≡ true =
    rw (width_rowed ns c.a, width_rowed ns c.b, width_rowed ns c.c, s.first_wide, s.second_wide, s.third_wide) wide in
    facts _ _ s.keyword (facts _ _ name (facts _ _ s.letters (facts _ _ s.referred (facts _ _ fa (facts _ _ fb (facts _ _ fc
    (facts _ _ fw (facts _ _ r.0 (facts _ _ r.1 (facts _ _ r.2 no_facts))))))))))

-- a name of a kind that has names
name_free : (kind : ℕ) (c : Cell) (cs : List Cell) → (kind_at kind).named ≡ true → (kind_at c.kind).named && taken c.name (names_as c.kind cs) ≡ false → c.kind ≡ kind → taken c.name (names_as kind cs) ≡ false
name_free kind c cs n h e = rw (← e) (and_false (kind_at c.kind).named _ h (rw e n))

named_input : (kind_at input_kind).named ≡ true
unfolding kind_at
named_input = refl

named_output : (kind_at output_kind).named ≡ true
unfolding kind_at
named_output = refl

-- ONE DECLARATION MORE
module _ (text : List ℕ) (so : Sofar) (d : Declared) (h : Sound so) where
  meta_more : (m : Meta) → MetaSaid (kinds_of so) m → Passed text so d (metadata m) → Sound (added so d.index (metadata m))
  unfolding added
  meta_more m s p = record {
    room = p.room;
    metas = metas_last [] so.netlist.metas m h.metas (meta_facts (kinds_of so) m s (not_false (complete m) p.whole) (not_false (attr_width m) p.fits));
    ios = h.ios;
    io_named = h.io_named;
    cells = λ ns ws e. every_on _ _ (λ c f. cell_later ws (length so.netlist.metas) _ (row_cell ns c) (let l = length_last so.netlist.metas m in omega arith) f) so.netlist.cells (h.cells ns ws e);
    inputs = h.inputs;
    outputs = h.outputs;
  }

  io_more : (i : Io) → every is_byte i.name ≡ true → Passed text so d (pad i) → Sound (added so d.index (pad i))
  unfolding added
  io_more i s p = record {
    room = p.room;
    metas = h.metas;
    ios = every_last io_sound so.netlist.ios i h.ios (facts _ _ (not_of_false (is_empty i.name) p.whole) (facts _ _ s (facts _ _ (not_false (wide i.width) p.fits) no_facts)));
    io_named = rw (map_last (λ (i : Io). i.name) so.netlist.ios i) (distinct_last (io_names so.netlist.ios) i.name h.io_named p.once);
    cells = h.cells;
    inputs = h.inputs;
    outputs = h.outputs;
  }

  cell_more : (c : Cell) (a b e : ℕ) (ps : List PieceAt) → CellSaid (length so.netlist.metas) c a b e ps → Passed text so d (cell c a b e ps) → Sound (added so d.index (cell c a b e ps))
  unfolding added
  cell_more c a b e ps s p =
      let free = (or_false (declares so.cell_numbers d.index) ((kind_at c.kind).named && taken c.name (names_as c.kind so.netlist.cells)) p.once).1 in
      record {
        room = p.room;
        metas = h.metas;
        ios = h.ios;
        io_named = h.io_named;
        cells = λ ns ws f.
            let r = both_resolved ns ws text so.pieces ps f in
            every_last (λ (c : Cell). cell_sound ws (length so.netlist.metas) (row_cell ns c)) so.netlist.cells c (h.cells ns ws r.0)
            (cell_facts (length so.netlist.metas) c a b e ps s p.whole (not_false (cell_width c.kind c.width a b e) p.fits) ns ws r.1);
        inputs = names_distinct input_kind so.netlist.cells c h.inputs (name_free input_kind c so.netlist.cells named_input free);
        outputs = names_distinct output_kind so.netlist.cells c h.outputs (name_free output_kind c so.netlist.cells named_output free);
      }

  pub sound_more : (s : Said) → SaidSound so s → Passed text so d s → Sound (added so d.index s)
  sound_more (metadata m) s p = meta_more m s p
  sound_more (pad i) s p = io_more i s p
  sound_more (cell c a b e ps) s p = cell_more c a b e ps s p
