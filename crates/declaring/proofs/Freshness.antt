-- Names by their marks: what a declaration leaves, and what its mark tells of the tables.
use mathlib.Core.Path.{◌≡◌, refl, sym, ap, subst, ◌∙◌}
use mathlib.Core.Bool.{Bool, true, false}
use mathlib.Core.List.{List, [], ◌∷◌, ◌++◌}
use Prim.Native.Nat.{ℕ}
use native.Mathlib.Omega.{arith}
use lib.Dec.{eqb}
use lib.ListN.{length, get_or, set}
use borrow.Author.Tests.{eq-eqb, eqb-true}
use Rattle.ground.proofs.Bools.{bool_cases, never_both}
use Rattle.kinds.specs.Kinds.{kind_at}
use Rattle.brackets.specs.declared.Str.{Str}
use Rattle.form.specs.declared.Wiring.{Wiring}
use Rattle.form.specs.declared.Decl.{Decl}
use Rattle.form.specs.declared.Decl.TheVariants as decl
use Rattle.form.specs.declared.Declared.{Declared}
use Rattle.netlist.specs.Netlist.{Io, Cell}
use Rattle.netlist.specs.Rules.{taken, io_names, names_as}
use Rattle.marking.specs.Marks.{mark_of, place_of, Marked}
use Rattle.marking.proofs.Laws.{place_small, marked_none, marked_still, marked_last}
use Rattle.saying.specs.Values.{string_in}
use Rattle.saying.specs.Rules.{Sofar, nothing, said_by, added, cell_of}
use Rattle.asking.proofs.NameLaws.{io_found, cell_found}
use Rattle.metas.specs.MetaRows.{is_metadata}
use Rattle.noting.specs.Formed.{StrIn, WiringIn, DeclIn, Formed}
use Rattle.noting.specs.Noted.{ios_in, cells_in, Noted}
use Rattle.noting.specs.declared.Tally.{Tally}
use Rattle.noting.proofs.IoNotes.{held_count}
use Rattle.wiring.proofs.CellRules.{cells_count}
use Rattle.declaring.specs.Fresh.{NamesMarked, MarksName, MarksCell, FreshName, Freshens, FreshDecl}

-- ONE NAME MORE in the lists of names
io_last : (is : List Io) (i : Io) → io_names (is ++ (i ∷ [])) ≡ io_names is ++ (i.name ∷ [])
io_last [] i = refl
io_last (x ∷ is) i = ap (λ (l : List (List ℕ)). x.name ∷ l) (io_last is i)

module _ (kind : ℕ) (c : Cell) where
  kind_last : eqb c.kind kind ≡ true → (cs : List Cell) → names_as kind (cs ++ (c ∷ [])) ≡ names_as kind cs ++ (c.name ∷ [])
  unfolding names_as
  kind_last e [] = rw (e, names_as)
  kind_last e (x ∷ cs) = bool_cases (eqb x.kind kind)
      (λ q. rw (q, names_as) (ap (λ (l : List (List ℕ)). x.name ∷ l) (kind_last e cs)))
      (λ q. rw (q, names_as) (kind_last e cs))

  kind_other : eqb c.kind kind ≡ false → (cs : List Cell) → names_as kind (cs ++ (c ∷ [])) ≡ names_as kind cs
  unfolding names_as
  kind_other e [] = rw (e, names_as)
  kind_other e (x ∷ cs) = bool_cases (eqb x.kind kind)
      (λ q. rw (q, names_as) (ap (λ (l : List (List ℕ)). x.name ∷ l) (kind_other e cs)))
      (λ q. rw (q, names_as) (kind_other e cs))

pub nothing_marked : (seen : List ℕ) → length seen ≡ 65536 → NamesMarked seen nothing
unfolding names_as
nothing_marked seen h = record { ios = marked_none 255 seen h; cells = λ kind n. marked_none kind seen h }

-- a name whose mark is new
new_free : (kind : ℕ) (name : List ℕ) {seen : List ℕ} {names : List (List ℕ)} {fresh : Bool} → Marked kind seen names → fresh ≡ eqb (get_or seen (place_of (mark_of kind name)) 0) 0 → fresh ≡ true → taken name names ≡ false
new_free kind name m e f = m.free name (eqb-true _ 0 (sym e ∙ f))

never : {fresh : Bool} {A : Type 0} → fresh ≡ false → fresh ≡ true → A
never e f = never_both f e

-- WHAT EACH SORT LEAVES
module _ (text : List ℕ) (d : Declared) (seen : List ℕ) where
  plain_marked : (so : Sofar) (x : Decl) → is_metadata x ≡ true → NamesMarked seen so → NamesMarked seen (added so d.index (said_by text so x))
  unfolding added said_by
  plain_marked so (decl.Set m) h k = record { ios = k.ios; cells = k.cells }
  plain_marked so (decl.Source f r) h k = record { ios = k.ios; cells = k.cells }
  plain_marked so (decl.Scope l i s) h k = record { ios = k.ios; cells = k.cells }
  plain_marked so (decl.Ident n i) h k = record { ios = k.ios; cells = k.cells }
  plain_marked so (decl.Attr n p) h k = record { ios = k.ios; cells = k.cells }
  plain_marked so (decl.Io n w) h k = never_both h refl
  plain_marked so (decl.Cell w) h k = never_both h refl

  pub meta_freshens : is_metadata d.decl ≡ true → Freshens text d seen false seen
  meta_freshens h = record {
    after = λ so k. (record { io = λ f. never_both f refl; cell = λ f. never_both f refl }, plain_marked so d.decl h k);
  }

  pad_marked : (so : Sofar) (name : Str) (width : ℕ) → NamesMarked seen so → NamesMarked (set seen (place_of (mark_of 255 (string_in text name))) 1) (added so d.index (said_by text so (decl.Io name width)))
  unfolding added said_by
  pad_marked so name width k = record {
    ios = rw (io_last so.netlist.ios (record { name = string_in text name; width = width })) (marked_last (string_in text name) k.ios);
    cells = λ kind n. marked_still (place_of (mark_of 255 (string_in text name))) (place_small 255 (string_in text name)) (k.cells kind n);
  }

  pub pad_freshens : {fresh : Bool} {seen' : List ℕ} (name : Str) (width : ℕ) → d.decl ≡ decl.Io name width → MarksName text 255 name seen fresh seen' → Freshens text d seen fresh seen'
  pad_freshens {fresh} {seen'} name width e m = record {
    after = λ so k. (
      record {
        io = λ f n w q. let s : n ≡ name = cc in ap (λ (x : Str). taken (string_in text x) (io_names so.netlist.ios)) s ∙ new_free 255 (string_in text name) k.ios m.new f;
        cell = λ f w q. let z : ◌≡◌ {A = ℕ} 0 1 = cc in absurd (omega arith);
      },
      rw (e, m.left) (pad_marked so name width k),
    );
  }

  module _ (so : Sofar) (w : Wiring) (k : NamesMarked seen so) where
    abbrev here : List ℕ
    here = string_in text w.name

    named_marked : (kind_at w.kind).named ≡ true → NamesMarked (set seen (place_of (mark_of w.kind here)) 1) (added so d.index (said_by text so (decl.Cell w)))
    unfolding added said_by
    named_marked n = record {
      ios = marked_still (place_of (mark_of w.kind here)) (place_small w.kind here) k.ios;
      cells = λ kind h. bool_cases (eqb w.kind kind)
          (λ q. subst (λ (j : ℕ). Marked j (set seen (place_of (mark_of w.kind here)) 1) (names_as j (so.netlist.cells ++ (cell_of text so w ∷ [])))) (eqb-true w.kind kind q) own)
          (λ q. rw (kind_other kind (cell_of text so w) q so.netlist.cells) (marked_still (place_of (mark_of w.kind here)) (place_small w.kind here) (k.cells kind h)));
    }
      where
        own : Marked w.kind (set seen (place_of (mark_of w.kind here)) 1) (names_as w.kind (so.netlist.cells ++ (cell_of text so w ∷ [])))
        own = rw (kind_last w.kind (cell_of text so w) (eq-eqb w.kind w.kind refl) so.netlist.cells, n) (marked_last here (k.cells w.kind n))

    bare_marked : (kind_at w.kind).named ≡ false → NamesMarked seen (added so d.index (said_by text so (decl.Cell w)))
    unfolding added said_by
    bare_marked n = record {
      ios = k.ios;
      cells = λ kind h. bool_cases (eqb w.kind kind)
          (λ q. never_both (ap (λ (j : ℕ). (kind_at j).named) (eqb-true w.kind kind q) ∙ h) n)
          (λ q. rw (kind_other kind (cell_of text so w) q so.netlist.cells) (k.cells kind h));
    }

  pub cell_freshens : {fresh : Bool} {seen' : List ℕ} (w : Wiring) → d.decl ≡ decl.Cell w → MarksCell text w seen fresh seen' → Freshens text d seen fresh seen'
  cell_freshens {fresh} {seen'} w e m = record {
    after = λ so k. bool_cases (kind_at w.kind).named
        (λ n. let a = m.named n in (
          record {
            io = λ f x y q. let z : ◌≡◌ {A = ℕ} 0 1 = cc in absurd (omega arith);
            cell = λ f v q. let s : w ≡ v = cc in subst (λ (x : Wiring). ((kind_at x.kind).named ≡ true) × (taken (string_in text x.name) (names_as x.kind so.netlist.cells) ≡ false)) s (n, new_free w.kind (string_in text w.name) (k.cells w.kind n) a.new f);
          },
          rw (e, a.left) (named_marked so w k n),
        ))
        (λ n. let a = m.nameless n in (
          record { io = λ f. never a.0 f; cell = λ f. never a.0 f },
          rw (e, a.1) (bare_marked so w k n),
        ));
  }

-- WHAT A FRESH NAME TELLS of the tables
module _ (text : List ℕ) (so : Sofar) (n : Tally) (rows bits work : List ℕ) (h : Noted text so n rows bits work) where
  pub fresh_decl : (d : Declared) (fresh : Bool) → Formed text d → FreshName text so d.decl fresh → FreshDecl text rows n d.decl fresh
  fresh_decl d fresh o k = record {
    io = λ name width e. record {
      none = λ f.
          let s = subst (DeclIn text) e o.decl in
          io_found text (ios_in rows) n.ios name.from name.size s.size h.ios.notes h.ios.rows (h.tally.ios ∙ sym (held_count h.ios)) h.ios.spelled
          ∙ ap (λ (is : List Io). taken (string_in text name) (io_names is)) h.ios.said
          ∙ k.io f name width e;
    };
    cell = λ w e. record {
      none = λ f.
          let a = k.cell f w e in
          let s = subst (DeclIn text) e o.decl in
          cell_found text (cells_in rows) n.cells w.kind w.name.from w.name.size (s.name a.0).size h.cells.notes h.cells.rows (cells_count text so n rows bits work h w) h.cells.spelled
          ∙ ap (λ (cs : List Cell). taken (string_in text w.name) (names_as w.kind cs)) h.cells.said
          ∙ a.1;
    };
  }
