-- How the declarations of a text go on.
use Rattle.std.specs.Prelude.{Option, Result, Ok, Err, Some, None}
use mathlib.Core.Path.{◌≡◌, refl, sym, ap, ap₂, ◌∙◌, subst}
use mathlib.Core.Bool.{Bool, true, false}
use mathlib.Core.List.{List, [], ◌∷◌, ◌++◌, append-nil}
use mathlib.Core.Option.{none, some}
use Prim.Native.Nat.{ℕ, zero, suc, ◌+◌, ◌-◌, ◌<◌, ◌≤◌}
use native.Mathlib.Numerals.{sub-one, add-one}
use native.Mathlib.Omega.{arith}
use lib.ListN.{length, get_or, take, drop, get_or-replicate, length-replicate, get_or-eq_default}
use Rattle.ground.specs.Lists.{every, joined, total, all_of}
use Rattle.ground.specs.Regions.{pad, part, zeros}
use Rattle.ground.specs.declared.Refusal.{Refusal}
use Rattle.ground.proofs.Bools.{bool_cases, never_both}
use Rattle.ground.proofs.Regions.{length_zeros, drop_zeros}
use Rattle.lexis.specs.declared.Reader.{Reader}
use Rattle.form.specs.Forms.{form_at}
use Rattle.form.specs.declared.Declared.{Declared}
use Rattle.form.specs.declared.Decl.{Decl}
use Rattle.form.specs.declared.Decl.TheVariants as decl
use Rattle.form.specs.declared.Wiring.{Wiring}
use Rattle.brackets.specs.declared.Str.{Str}
use Rattle.ground.specs.declared.Place.{Place}
use Rattle.noting.specs.Rulings.{io_declared}
use Rattle.metas.specs.MetaRows.{is_metadata}
use Rattle.declaring.specs.declared.notes.Sort.{Sort}
use Rattle.declaring.specs.declared.notes.Sort.TheVariants as sort
use Rattle.netlist.specs.Netlist.{Run, Cell, cell_runs, runs_of}
use Rattle.netlist.specs.Rules.{roomy}
use Rattle.saying.specs.Values.{row_from, operand_runs}
use Rattle.saying.specs.Pieces.{PieceAt, operand_pieces, first_unresolved}
use Rattle.saying.specs.Rules.{Sofar, nothing, said_by, added, pieces_of, cell_of, ruled_out}
use Rattle.saying.specs.Notes.{none, Maps}
use Rattle.laying.proofs.Keeping.{hold_none}
use Rattle.laying.proofs.Covering.{covers_none}
use Rattle.noting.specs.Noted.{Noted, Tallied}
use Rattle.noting.specs.declared.Tally.{Tally}
use Rattle.resolving.specs.Resolving.{is_declared}
use Rattle.resolving.proofs.Declared.{every_append, both_resolved, operand_declared}
use Rattle.declaring.specs.Reading.{Declarations, all, stopped, declarations_from}
use Rattle.declaring.specs.Fresh.{NamesMarked, Freshens}
use Rattle.declaring.proofs.Freshness.{nothing_marked}
use Rattle.declaring.specs.Going.{no_tally, sort_of, Knows, NotesOne, TookOf, Took, NotedMarked, Went, TakenOf, TakesOne, Blank, Whole, AllNoted}
use Rattle.noting.specs.Noted.{NotedSome, After}

-- A DECLARATION by its form
module _ (text : List ℕ) (k : ℕ) (so : Sofar) where
  pub form_stops : (g : Refusal) → form_at text k ≡ Err g → (f : ℕ) → declarations_from (suc f) text k so ≡ stopped g
  unfolding declarations_from
  form_stops g e f = rw (e, declarations_from)

  pub form_ends : form_at text k ≡ Ok None → (f : ℕ) → declarations_from (suc f) text k so ≡ all so
  unfolding declarations_from
  form_ends e f = rw (e, declarations_from)

  module _ (d : Declared) (r : Reader) (e : form_at text k ≡ Ok (Some (d, r))) where
    pub rule_stops : (g : Refusal) → ruled_out text so d ≡ some g → (f : ℕ) → declarations_from (suc f) text k so ≡ stopped g
    unfolding declarations_from
    rule_stops g h f = rw (e, declarations_from, h)

    pub goes_on : ruled_out text so d ≡ none → (f : ℕ) → declarations_from (suc f) text k so ≡ declarations_from f text r.next.at (added so d.index (said_by text so d.decl))
    unfolding declarations_from
    goes_on h f = rw (e, declarations_from, h)

-- WHAT IS KNOWN of the runs stays known
every_runs : (p : Run → Bool) (cs : List Cell) (c : Cell) → every p (runs_of cs) ≡ true → every p (cell_runs c) ≡ true → every p (runs_of (cs ++ (c ∷ []))) ≡ true
unfolding joined every
every_runs p [] c h k = every_append p (cell_runs c) [] k refl
every_runs p (x ∷ cs) c h k =
    let s = every_split p (cell_runs x) (runs_of cs) h in
    every_append p (cell_runs x) (runs_of (cs ++ (c ∷ []))) s.0 (every_runs p cs c s.1 k)
  where
    every_split : (p : Run → Bool) (xs ys : List Run) → every p (xs ++ ys) ≡ true → (every p xs ≡ true) × (every p ys ≡ true)
    every_split p [] ys h = (refl, h)
    every_split p (x ∷ xs) ys h = bool_cases (p x)
        (λ e. rw (e, every) (every_split p xs ys (rw (e, every) at h)))
        (λ e. never_both (rw (e, every) at h) refl)

cell_knows : (text : List ℕ) (so : Sofar) (index : ℕ) (w : Wiring) → Knows so → Knows (added so index (said_by text so (decl.Cell w)))
unfolding added said_by
cell_knows text so index w n = record {
  declared = λ numbers widths e.
      let p = both_resolved numbers widths text so.pieces (pieces_of text w) e in
      let q = both_resolved numbers widths text (operand_pieces text w.a) (operand_pieces text w.b ++ operand_pieces text w.c) p.1 in
      let r = both_resolved numbers widths text (operand_pieces text w.b) (operand_pieces text w.c) q.1 in
      every_runs (is_declared numbers) so.netlist.cells (cell_of text so w) (n.declared numbers widths p.0)
      (every_append (is_declared numbers) (operand_runs text w.a) (operand_runs text w.b ++ operand_runs text w.c) (operand_declared numbers widths text w.a q.0)
      (every_append (is_declared numbers) (operand_runs text w.b) (operand_runs text w.c) (operand_declared numbers widths text w.b r.0) (operand_declared numbers widths text w.c r.1)));
}

same_knows : (so more : Sofar) → more.pieces ≡ so.pieces → more.netlist.cells ≡ so.netlist.cells → Knows so → Knows more
same_knows so more p c n = record { declared = λ numbers widths e. rw c (n.declared numbers widths (rw p at e)) }

pub decl_knows : (text : List ℕ) (so : Sofar) (index : ℕ) (d : Decl) → Knows so → Knows (added so index (said_by text so d))
unfolding added said_by
decl_knows text so index (decl.Set m) n = same_knows so _ refl refl n
decl_knows text so index (decl.Source f r) n = same_knows so _ refl refl n
decl_knows text so index (decl.Scope l i s) n = same_knows so _ refl refl n
decl_knows text so index (decl.Ident i s) n = same_knows so _ refl refl n
decl_knows text so index (decl.Attr i p) n = same_knows so _ refl refl n
decl_knows text so index (decl.Io i w) n = same_knows so _ refl refl n
decl_knows text so index (decl.Cell w) n = cell_knows text so index w n

-- NOTHING NOTED in slices of zeros
take_zeros : (k m : ℕ) → k ≤ m → take k (zeros m) ≡ zeros k
unfolding zeros
take_zeros zero m h = refl
take_zeros (suc k) zero h = absurd (omega arith)
take_zeros (suc k) (suc m) h = ap (λ (l : List ℕ). 0 ∷ l) (take_zeros k m (omega arith))

zeros_part : (s k n : ℕ) → s + k ≤ n → part s k (zeros n) ≡ zeros k
unfolding part
zeros_part s k n h = ap (take k) (drop_zeros s n) ∙ take_zeros k (n - s) (omega arith)

none_maps : Maps [] (zeros 65536)
unfolding zeros row_from
none_maps = record { long = length_zeros 65536; is = λ i h. get_or-replicate {A = ℕ} 65536 i 0 0 h }

pub noted_nothing : (text rows bits work : List ℕ) → Blank rows bits work → Noted text nothing no_tally rows bits work
unfolding joined total roomy all_of every pad
noted_nothing text rows bits work z =
    rw (z.rows, z.bits, z.work) (record {
      long_rows = length_zeros 26307;
      long_bits = length_zeros 393728;
      long_work = length_zeros 132608;
      metas = record { notes = []; said = refl; rows = zeros_part 3 8192 26307 (omega arith); spelled = none; members = zeros_part 8195 1024 26307 (omega arith); bits = zeros_part 0 131072 393728 (omega arith); narrow = omega arith; maps = rw (zeros_part 65536 65536 132608 (omega arith)) none_maps; count = refl };
      ios = record { notes = []; said = refl; rows = zeros_part 9219 192 26307 (omega arith); spelled = none };
      cells = record {
        notes = [];
        said = refl;
        rows = zeros_part 9411 4608 26307 (omega arith);
        spelled = none;
        holds = rw (zeros_part 14019 12288 26307 (omega arith), zeros_part 131072 262656 393728 (omega arith)) hold_none;
        narrow = omega arith;
        maps = rw (zeros_part 0 65536 132608 (omega arith)) none_maps;
        count = refl;
        operands = [];
        placed = zeros_part 131072 1536 132608 (omega arith);
        threes = refl;
        asked = refl;
        covered = λ e. covers_none;
      };
      tally = record { metas = refl; ios = refl; cells = refl; members = refl; trits = refl; runs = refl; known = refl; declared = refl; outputs = refl; strings = refl; roomy = refl };
    })

pub nothing_knows : Knows nothing
unfolding joined every
nothing_knows = record { declared = λ numbers widths e. refl }

-- THE SORT of a declaration tells its kind
abbrev numbered : Sort → ℕ
numbered sort.Metadata = 0
numbered (sort.Pad n w) = 1
numbered (sort.Cell w) = 2

pub is_cell : (d : Decl) (w : Wiring) → sort_of d ≡ sort.Cell w → d ≡ decl.Cell w
is_cell (decl.Set m) w e = let z : ◌≡◌ {A = ℕ} 0 2 = ap numbered e in absurd (omega arith)
is_cell (decl.Source f r) w e = let z : ◌≡◌ {A = ℕ} 0 2 = ap numbered e in absurd (omega arith)
is_cell (decl.Scope l i s) w e = let z : ◌≡◌ {A = ℕ} 0 2 = ap numbered e in absurd (omega arith)
is_cell (decl.Ident i s) w e = let z : ◌≡◌ {A = ℕ} 0 2 = ap numbered e in absurd (omega arith)
is_cell (decl.Attr i p) w e = let z : ◌≡◌ {A = ℕ} 0 2 = ap numbered e in absurd (omega arith)
is_cell (decl.Io i x) w e = let z : ◌≡◌ {A = ℕ} 1 2 = ap numbered e in absurd (omega arith)
is_cell (decl.Cell v) w e = let s : v ≡ w = cc in ap decl.Cell s

pub is_pad : (d : Decl) (n : Str) (w : ℕ) → sort_of d ≡ sort.Pad n w → d ≡ decl.Io n w
is_pad (decl.Set m) n w e = let z : ◌≡◌ {A = ℕ} 0 1 = ap numbered e in absurd (omega arith)
is_pad (decl.Source f r) n w e = let z : ◌≡◌ {A = ℕ} 0 1 = ap numbered e in absurd (omega arith)
is_pad (decl.Scope l i s) n w e = let z : ◌≡◌ {A = ℕ} 0 1 = ap numbered e in absurd (omega arith)
is_pad (decl.Ident i s) n w e = let z : ◌≡◌ {A = ℕ} 0 1 = ap numbered e in absurd (omega arith)
is_pad (decl.Attr i p) n w e = let z : ◌≡◌ {A = ℕ} 0 1 = ap numbered e in absurd (omega arith)
is_pad (decl.Io i x) n w e = let s : i ≡ n = cc in let t : x ≡ w = cc in ap₂ decl.Io s t
is_pad (decl.Cell v) n w e = let z : ◌≡◌ {A = ℕ} 2 1 = ap numbered e in absurd (omega arith)

pub is_metadata_lem : (d : Decl) → sort_of d ≡ sort.Metadata → is_metadata d ≡ true
is_metadata_lem (decl.Set m) e = refl
is_metadata_lem (decl.Source f r) e = refl
is_metadata_lem (decl.Scope l i s) e = refl
is_metadata_lem (decl.Ident i s) e = refl
is_metadata_lem (decl.Attr i p) e = refl
is_metadata_lem (decl.Io i x) e = let z : ◌≡◌ {A = ℕ} 1 0 = ap numbered e in absurd (omega arith)
is_metadata_lem (decl.Cell v) e = let z : ◌≡◌ {A = ℕ} 2 0 = ap numbered e in absurd (omega arith)

-- an I/O declaration by its parts
pub pad_noted : {text : List ℕ} {d : Declared} {n : Tally} {rows bits work : List ℕ} {v : Result Tally Refusal} {rows' : List ℕ} (name : Str) (width : ℕ) → d.decl ≡ decl.Io name width
    → ((bits work : List ℕ) (so : Sofar) (index : ℕ) → Noted text so n rows bits work → After text so (io_declared d.place index name width) v rows' bits work)
    → NotesOne text d n rows bits work v rows' bits work
pad_noted {text} {d} {n} {rows} {bits} {work} {v} {rows'} name width e o =
    let same : d ≡ io_declared d.place d.index name width = ap (λ (x : Decl). declared_of d.place d.index x) e in
    record { after = λ so h. subst (λ (x : Declared). After text so x v rows' bits work) (sym same) (o bits work so d.index h) }
  where
    declared_of : Place → ℕ → Decl → Declared
    declared_of p i x = record { place = p; index = i; decl = x }

-- ONE DECLARATION
module _ {text : List ℕ} {d : Declared} {n : Tally} {rows bits work : List ℕ} {v : Result Tally Refusal} {rows' bits' work' : List ℕ} (reader : Reader) (o : NotesOne text d n rows bits work v rows' bits' work') where
  pub one_refused : (g : Refusal) → v ≡ Err g → Took text d reader n rows bits work (Err g) rows' bits' work'
  one_refused g e = record { after = λ so h. subst (λ (x : Result Tally Refusal). After text so d x rows' bits' work') e (o.after so h) }

  pub one_more : (m : Tally) → v ≡ Ok m → Took text d reader n rows bits work (Ok (Some (m, reader))) rows' bits' work'
  one_more m e = record { after = λ so h. let a = subst (λ (x : Result Tally Refusal). After text so d x rows' bits' work') e (o.after so h) in (refl, a.0, a.1) }

next_of : (text : List ℕ) (k : ℕ) (n : Tally) (d : Declared) (q : Reader) → form_at text k ≡ Ok (Some (d, q)) → (so : Sofar) (v : Result (Option (Tally × Reader)) Refusal) (rows bits work seen : List ℕ) → NamesMarked seen (added so d.index (said_by text so d.decl)) → TookOf text so d q v rows bits work → TakenOf text so k n v rows bits work seen
next_of text k n d q e so (Err g) rows bits work seen s a = rule_stops text k so d q e g a
next_of text k n d q e so (Ok None) rows bits work seen s a = absurd (omega arith)
next_of text k n d q e so (Ok (Some (m, r))) rows bits work seen s a = record {
  more = added so d.index (said_by text so d.decl);
  on = λ f. goes_on text k so d q e a.1 f ∙ ap (λ (x : Reader). declarations_from f text x.next.at (added so d.index (said_by text so d.decl))) (sym a.0);
  noted = a.2;
  marked = s;
  knows = decl_knows text so d.index d.decl;
}

module _ {text : List ℕ} {k : ℕ} {n : Tally} {rows bits work seen : List ℕ} where
  pub next_refused : (g : Refusal) → form_at text k ≡ Err g → TakesOne text k n rows bits work seen (Err g) rows bits work seen
  next_refused g e = record { after = λ so h m. form_stops text k so g e }

  pub next_ended : form_at text k ≡ Ok None → TakesOne text k n rows bits work seen (Ok None) rows bits work seen
  next_ended e = record { after = λ so h m. (form_ends text k so e, h) }

  pub next_took : {d : Declared} {q : Reader} {v : Result (Option (Tally × Reader)) Refusal} {fresh : Bool} {rows' bits' work' seen' : List ℕ} → form_at text k ≡ Ok (Some (d, q)) → Freshens text d seen fresh seen' → Took text d q n rows bits work v rows' bits' work' → TakesOne text k n rows bits work seen v rows' bits' work' seen'
  next_took {d} {q} {v} {fresh} {rows'} {bits'} {work'} {seen'} e f o = record { after = λ so h m. next_of text k n d q e so v rows' bits' work' seen' (f.after so m).1 (o.after so h) }

-- THE LOOP: the rest of the text gives what the whole gives
pub record Going (text : List ℕ) (left k : ℕ) (n : Tally) (rows bits work seen : List ℕ) : Type 0 where
  pub so : Sofar
  pub noted : Noted text so n rows bits work
  pub marked : NamesMarked seen so
  pub knows : Knows so
  pub rest : declarations_from left text k so ≡ declarations_from (suc (length text)) text 0 nothing

pub go_start : (text rows bits work seen : List ℕ) (n : Tally) → n ≡ no_tally → Blank rows bits work → length seen ≡ 65536 → Going text (length text + 1) 0 n rows bits work seen
go_start text rows bits work seen n e z l =
    rw e (record { so = nothing; noted = noted_nothing text rows bits work z; marked = nothing_marked seen l; knows = nothing_knows; rest = ap (λ (f : ℕ). declarations_from f text 0 nothing) (add-one (length text)) })

module _ {text : List ℕ} {left k : ℕ} {n : Tally} {rows bits work seen : List ℕ} (w : Going text left k n rows bits work seen) where
  pub go_some : NotedMarked text n rows bits work seen
  go_some = record { so = w.so; noted = w.noted; marked = w.marked }

  pub go_out : left ≤ 0 → AllNoted text (Ok n) rows bits work
  unfolding declarations_from
  go_out h =
      let z : left ≡ 0 = omega arith in
      record { after = record { so = w.so; is = sym w.rest ∙ ap (λ (f : ℕ). declarations_from f text k w.so) z; noted = w.noted; knows = w.knows } }

  module _ {v : Result (Option (Tally × Reader)) Refusal} {rows' bits' work' seen' : List ℕ} (h : 0 < left) (o : TakesOne text k n rows bits work seen v rows' bits' work' seen') where
    from : (v' : Result (Option (Tally × Reader)) Refusal) → v ≡ v' → TakenOf text w.so k n v' rows' bits' work' seen'
    from v' e = subst (λ (x : Result (Option (Tally × Reader)) Refusal). TakenOf text w.so k n x rows' bits' work' seen') e (o.after w.so w.noted w.marked)

    again : declarations_from (suc (left - 1)) text k w.so ≡ declarations_from (suc (length text)) text 0 nothing
    again = let z : suc (left - 1) ≡ left = omega arith in ap (λ (f : ℕ). declarations_from f text k w.so) z ∙ w.rest

    pub go_stopped : (g : Refusal) → v ≡ Err g → AllNoted text (Err g) rows' bits' work'
    go_stopped g e = record { after = sym again ∙ from (Err g) e (left - 1) }

    pub go_ended : v ≡ Ok None → AllNoted text (Ok n) rows' bits' work'
    go_ended e = let a = from (Ok None) e in record { after = record { so = w.so; is = sym again ∙ a.0 (left - 1); noted = a.1; knows = w.knows } }

    pub go_more : (m : Tally) (r : Reader) → v ≡ Ok (Some (m, r)) → Going text (left - 1) r.next.at m rows' bits' work' seen'
    go_more m r e =
        let a = from (Ok (Some (m, r))) e in
        record { so = a.more; noted = a.noted; marked = a.marked; knows = a.knows w.knows; rest = sym (a.on (left - 1)) ∙ again }
