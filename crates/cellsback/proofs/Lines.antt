-- THE LINES OF CELLS BACK: each has the form of its declaration, says the cell that was printed, and all its pieces resolve.
use Rattle.std.specs.Prelude.{Ok, Some}
use Prim.Native.Nat.{ℕ, ◌+◌, ◌≤◌}
use mathlib.Core.Path.{◌≡◌, refl, ◌∙◌}
use mathlib.Core.Bool.{Bool, true, false, not}
use mathlib.Core.List.{List, [], ◌∷◌, ◌++◌, map}
use mathlib.Core.Option.{none}
use native.Mathlib.Omega.{arith}
use lib.Dec.{eqb, leb}
use lib.ListN.{drop, length}
use borrow.Author.Tests.{eqb-true, leb-true}
use Rattle.ground.specs.Choice.{pick}
use Rattle.ground.specs.Lists.{every}
use Rattle.ground.specs.Refusals.{at}
use Rattle.ground.proofs.Bools.{bool_cases, never_both, and_true, fact}
use Rattle.kinds.specs.Kinds.{kind_at}
use Rattle.lexis.specs.declared.Token.{Token}
use Rattle.form.specs.Forms.{wiring_form, named_form}
use Rattle.brackets.specs.declared.Str.{Str}
use Rattle.form.specs.declared.Decl.{Decl}
use Rattle.form.specs.declared.Decl.TheVariants as decl
use Rattle.netlist.specs.Netlist.{Cell, Run, operand_width}
use Rattle.netlist.specs.Runs.{cut, operand_bits, longest}
use Rattle.netlist.specs.Rules.{is_byte, is_empty, unless, run_sound, operand_sound, runless, cell_sound}
use Rattle.saying.specs.Values.{name_in}
use Rattle.saying.specs.Pieces.{PieceAt, operand_pieces, first_unresolved}
use Rattle.saying.specs.Rules.{Sofar, cell, said_by, asked_of, first_misnamed}
use Rattle.writing.specs.Words.{quoted, option}
use Rattle.celllines.specs.CellLines.{name_text, operand_text, further_text, operands_text, cell_line}
use Rattle.fronts.specs.Fronts.{Rowed, number_run}
use Rattle.tokensback.proofs.Standing.{Stands, Declares, ends}
use Rattle.tokensback.proofs.Tokens.{behind_space, spaced, feed_back, string_back, string_decoded}
pub use Rattle.cellsback.proofs.Runs.{Numbered}
use Rattle.cellsback.proofs.Operands.{both_found, operand_if_lem}
use Rattle.cellsback.proofs.Keywords.{opening, opened, meta_if_lem}

-- an operand by the numbers of cells, cut again
abbrev pub cut_again : List ℕ → List Run → List Run
cut_again numbers rs = cut (operand_bits (map (number_run numbers) rs))

abbrev pub cut_cell : List ℕ → Cell → Cell
cut_cell numbers c =
    record { kind = c.kind; width = c.width; name = c.name; meta = c.meta; a = cut_again numbers c.a; b = cut_again numbers c.b; c = cut_again numbers c.c }

pub record CellSaid (text numbers widths : List ℕ) (c : Cell) (d : Decl) (so : Sofar) : Type 0 where
  pub pieces : List PieceAt
  pub said : said_by text so d ≡ cell (cut_cell numbers c) (operand_width c.a) (operand_width c.b) (operand_width c.c) pieces
  pub named : first_misnamed so (asked_of text d) ≡ none
  pub found : first_unresolved numbers widths pieces ≡ none

-- behind metadata of these kinds
abbrev pub CellSays : List ℕ → List ℕ → List ℕ → List ℕ → Cell → Decl → Type 0
CellSays text numbers widths kinds c d = (so : Sofar) → Rowed so kinds → CellSaid text numbers widths c d so

-- a cell's line behind its keyword and its name, where t opened it
record Wired (text numbers widths kinds : List ℕ) (t : Token) (name : Str) (c : Cell) (k : ℕ) (s : List ℕ) : Type 0 where
  decl : Decl
  end : ℕ
  form : wiring_form text t c.kind name k ≡ Ok (Some (record { place = t.place; index = t.value; decl = decl }, record { next = at end }))
  after : Stands text end s
  said : t.width ≡ c.width → name_in text (kind_at c.kind).named name ≡ c.name → CellSays text numbers widths kinds c decl

-- the same with its name before it, where the kind has one
record Told (text numbers widths kinds : List ℕ) (t : Token) (c : Cell) (k : ℕ) (s : List ℕ) : Type 0 where
  decl : Decl
  end : ℕ
  form : pick (kind_at c.kind).named (named_form text t c.kind k) (wiring_form text t c.kind (record { from = 0; size = 0 }) k)
      ≡ Ok (Some (record { place = t.place; index = t.value; decl = decl }, record { next = at end }))
  after : Stands text end s
  said : t.width ≡ c.width → CellSays text numbers widths kinds c decl

-- what stands behind its keyword and its name: its operands, its metadata, and the line's end
abbrev last_text : Cell → List ℕ → List ℕ
last_text c s = option (32 ∷ []) c.meta (10 ∷ s)

abbrev wiring_text : List ℕ → List ℕ → Cell → List ℕ → List ℕ
wiring_text numbers widths c s = operands_text numbers widths (kind_at c.kind).operands c (last_text c s)

-- what stands behind a printed keyword, name or operand ends it
ends_option : (m : ℕ) (s : List ℕ) → ends (option (32 ∷ []) m (10 ∷ s)) ≡ true
unfolding option
ends_option m s = bool_cases (eqb m 0) (λ e. rw e) (λ e. rw e)

ends_operand : (given : Bool) (numbers widths : List ℕ) (rs : List Run) (s : List ℕ) → ends s ≡ true → ends (operand_text given numbers widths rs s) ≡ true
unfolding operand_text
ends_operand true numbers widths rs s e = refl
ends_operand false numbers widths rs s e = e

ends_third : (numbers widths : List ℕ) (n : ℕ) (c : Cell) (s : List ℕ) → ends (operand_text (leb 3 n) numbers widths c.c (last_text c s)) ≡ true
ends_third numbers widths n c s = ends_operand (leb 3 n) numbers widths c.c _ (ends_option c.meta s)

ends_second : (numbers widths : List ℕ) (n : ℕ) (c : Cell) (s : List ℕ) → ends (further_text numbers widths n c (last_text c s)) ≡ true
ends_second numbers widths n c s = ends_operand (leb 2 n) numbers widths c.b _ (ends_third numbers widths n c s)

ends_name : (given : Bool) (name s : List ℕ) → ends s ≡ true → ends (name_text given name s) ≡ true
unfolding name_text
ends_name true name s e = refl
ends_name false name s e = e

-- an operand or a name that a kind does not have is empty
unused : (given : Bool) (rs : List Run) → unless given (runless rs) ≡ true → given ≡ false → length rs ≡ 0
unused true rs h e = never_both refl e
unused false rs h e = eqb-true (length rs) 0 h

no_name : (name : List ℕ) → is_empty name ≡ true → [] ≡ name
no_name [] h = refl
no_name (x ∷ name) h = absurd (omega (arith, eqb-true (length (x ∷ name)) 0 h))

module _ {text : List ℕ} {s : List ℕ} (numbers widths kinds : List ℕ) (c : Cell) (q : Numbered numbers widths) (b : length kinds ≤ 65535)
    (p : cell_sound widths (length kinds) c ≡ true) where
  wired : (k : ℕ) (t : Token) (name : Str) → drop k text ≡ wiring_text numbers widths c s → Wired text numbers widths kinds t name c k s
  unfolding wiring_form said_by first_misnamed
  wired k t name h =
      let n = (kind_at c.kind).operands in
      let f = fact _ p in
      let sound : (rs : List Run) → operand_sound widths rs ≡ true → every (run_sound widths) rs ≡ true = λ rs h. (and_true (every (run_sound widths) rs) (longest rs) h).0 in
      let x = operand_if_lem text numbers widths q k (leb 1 n) c.a (unused (leb 1 n) c.a (f 4)) (sound c.a (f 8)) (ends_second numbers widths n c s) h in
      let y = operand_if_lem text numbers widths q x.end (leb 2 n) c.b (unused (leb 2 n) c.b (f 5)) (sound c.b (f 9)) (ends_third numbers widths n c s) x.rest in
      let z = operand_if_lem text numbers widths q y.end (leb 3 n) c.c (unused (leb 3 n) c.c (f 6)) (sound c.c (f 10)) (ends_option c.meta s) y.rest in
      let l = leb-true c.meta (length kinds) (f 3) in
      let m = meta_if_lem text z.end c.meta (omega arith) z.rest in
      let d = feed_back text m.end m.rest in
      record {
        decl = decl.Cell (record { kind = c.kind; width = t.width; name = name; a = x.operand; b = y.operand; c = z.operand; meta = m.ref });
        end = d.end;
        form = rw (x.taken, y.taken, z.taken, m.taken, d.outside);
        after = d.after;
        said = λ w i so r. record {
          pieces = operand_pieces text x.operand ++ (operand_pieces text y.operand ++ operand_pieces text z.operand);
          said = rw (w, i, x.wide, y.wide, z.wide, x.runs, y.runs, z.runs, m.row so kinds r l);
          named = rw (m.named so kinds r l, first_misnamed);
          found = both_found numbers widths _ _ x.found (both_found numbers widths _ _ y.found z.found);
        };
      }

  named : (k : ℕ) (t : Token) → (kind_at c.kind).named ≡ true → every is_byte c.name ≡ true
      → drop k text ≡ 32 ∷ quoted c.name (wiring_text numbers widths c s) → Told text numbers widths kinds t c k s
  unfolding named_form
  named k t e f h =
      let g = behind_space text k h in
      let v = spaced text k h (string_back text (k + 1) c.name f g) in
      let d = wired v.end t (record { from = k + 1 + 1; size = length c.name }) v.rest in
      let i = string_decoded text (k + 1) c.name _ f g.rest in
      record { decl = d.decl; end = d.end; form = rw (e, v.outside, d.form); after = d.after; said = λ w. d.said w (rw e i) }

  unnamed : (k : ℕ) (t : Token) → (kind_at c.kind).named ≡ false → is_empty c.name ≡ true → drop k text ≡ wiring_text numbers widths c s
      → Told text numbers widths kinds t c k s
  unnamed k t e f h =
      let d = wired k t (record { from = 0; size = 0 }) h in
      record { decl = d.decl; end = d.end; form = rw (e, d.form); after = d.after; said = λ w. d.said w (rw e (no_name c.name f)) }

  -- the name, where the kind has one
  told : (k : ℕ) (t : Token) → drop k text ≡ name_text (kind_at c.kind).named c.name (wiring_text numbers widths c s)
      → Told text numbers widths kinds t c k s
  unfolding name_text
  told k t h = bool_cases (kind_at c.kind).named
      (λ e. named k t e (fact _ p 2) (rw e at h))
      (λ e. unnamed k t e (let i : pick (kind_at c.kind).named (not (is_empty c.name)) (is_empty c.name) ≡ true = fact _ p 1 in rw e at i) (rw e at h))

-- THE LINE OF A CELL
pub cell_line_back : {text : List ℕ} {k : ℕ} {s : List ℕ} (numbers widths kinds : List ℕ) (n : ℕ) (c : Cell) → Numbered numbers widths
    → n ≤ 65535 → length kinds ≤ 65535 → c.width ≤ 65535 → cell_sound widths (length kinds) c ≡ true
    → Stands text k (cell_line numbers widths n c s) → Declares text k n (CellSays text numbers widths kinds c) s
unfolding cell_line
cell_line_back {text} {k} {s} numbers widths kinds n c q a b w p h =
    let m = (kind_at c.kind).operands in
    let e = ends_operand (leb 1 m) numbers widths c.a _ (ends_second numbers widths m c s) in
    let o = opened n c.width c.kind a w (fact _ p 0) (ends_name (kind_at c.kind).named c.name _ e) h in
    let d = told numbers widths kinds c q b p o.end (opening k n c.width) o.rest in
    record { decl = d.decl; place = at k; end = d.end; form = o.form ∙ d.form; after = d.after; said = d.said refl }
