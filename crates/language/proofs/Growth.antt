-- What is said only grows: each declaration puts rows, numbers and pieces behind those before it; and a front of what has room has room.
use mathlib.Core.Path.{◌≡◌, refl, sym, ap, ◌∙◌}
use mathlib.Core.Bool.{Bool, true, ◌&&◌}
use mathlib.Core.List.{List, [], ◌∷◌, ◌++◌, append_assoc, append-nil}
use Prim.Native.Nat.{ℕ, ◌+◌, ◌≤◌}
use native.Mathlib.Omega.{arith}
use lib.ListN.{length, length-append}
use Rattle.ground.specs.Lists.{every, total, joined}
use Rattle.form.specs.declared.Declared.{Declared}
use Rattle.netlist.specs.Netlist.{Meta, Io, Cell, Netlist, meta_strings, cell_runs, strings_of}
use Rattle.netlist.specs.Rules.{output_bits, short_string, roomy}
use Rattle.netlist.proofs.Laying.{roomy_is, is_roomy, strings_long}
use Rattle.saying.specs.Rules.{Sofar, Said, metadata, pad, cell, said_by, added}
use Rattle.fronts.proofs.Room.{every_split, total_append}
use Rattle.language.specs.Language.{say_from}

-- A FRONT: zs begins with xs
pub record Front {A : Type 0} (xs zs : List A) : Type 0 where
  pub rest : List A
  pub is : zs ≡ xs ++ rest

module _ {A : Type 0} where
  front_same : (xs : List A) → Front xs xs
  front_same xs = record { rest = []; is = sym (append-nil xs) }

  front_more : (xs ys : List A) → Front xs (xs ++ ys)
  front_more xs ys = record { rest = ys; is = refl }

  front_then : {xs ys zs : List A} → Front xs ys → Front ys zs → Front xs zs
  front_then {xs} {ys} {zs} f g = record { rest = f.rest ++ g.rest; is = g.is ∙ ap (λ (l : List A). l ++ g.rest) f.is ∙ append_assoc xs f.rest g.rest }

  joined_append : {B : Type 0} (f : A → List B) (xs ys : List A) → length (joined f (xs ++ ys)) ≡ length (joined f xs) + length (joined f ys)
  unfolding joined
  joined_append f [] ys = omega arith
  joined_append f (x ∷ xs) ys = omega (arith, length-append (f x) (joined f (xs ++ ys)), length-append (f x) (joined f xs), joined_append f xs ys)

  -- what is counted and asked of a front
  module _ {xs zs : List A} (f : Front xs zs) where
    front_length : length xs ≤ length zs
    front_length = rw f.is (omega (arith, length-append xs f.rest))

    front_every : (p : A → Bool) → every p zs ≡ true → every p xs ≡ true
    front_every p h = (every_split p xs f.rest (rw f.is at h)).0

    front_total : (g : A → ℕ) → total g xs ≤ total g zs
    front_total g = rw f.is (omega (arith, total_append g xs f.rest))

    front_joined : {B : Type 0} (g : A → List B) → length (joined g xs) ≤ length (joined g zs)
    front_joined g = rw f.is (omega (arith, joined_append g xs f.rest))

-- WHAT IS SAID, with more behind it
pub record Grown (so more : Sofar) : Type 0 where
  pub metas : Front so.netlist.metas more.netlist.metas
  pub ios : Front so.netlist.ios more.netlist.ios
  pub cells : Front so.netlist.cells more.netlist.cells
  pub meta_numbers : Front so.meta_numbers more.meta_numbers
  pub cell_numbers : Front so.cell_numbers more.cell_numbers
  pub pieces : Front so.pieces more.pieces

grown_same : (so : Sofar) → Grown so so
grown_same so = record { metas = front_same _; ios = front_same _; cells = front_same _; meta_numbers = front_same _; cell_numbers = front_same _; pieces = front_same _ }

grown_then : {so some more : Sofar} → Grown so some → Grown some more → Grown so more
grown_then g h = record {
  metas = front_then g.metas h.metas;
  ios = front_then g.ios h.ios;
  cells = front_then g.cells h.cells;
  meta_numbers = front_then g.meta_numbers h.meta_numbers;
  cell_numbers = front_then g.cell_numbers h.cell_numbers;
  pieces = front_then g.pieces h.pieces;
}

-- by one declaration
grown_one : (so : Sofar) (index : ℕ) (s : Said) → Grown so (added so index s)
unfolding added
grown_one so index (metadata m) = record { metas = front_more _ _; ios = front_same _; cells = front_same _; meta_numbers = front_more _ _; cell_numbers = front_same _; pieces = front_same _ }
grown_one so index (pad i) = record { metas = front_same _; ios = front_more _ _; cells = front_same _; meta_numbers = front_same _; cell_numbers = front_same _; pieces = front_same _ }
grown_one so index (cell c a b d ps) = record { metas = front_same _; ios = front_same _; cells = front_more _ _; meta_numbers = front_same _; cell_numbers = front_more _ _; pieces = front_more _ _ }

-- by all that follow
pub grown_all : (text : List ℕ) (so : Sofar) (ds : List Declared) → Grown so (say_from text so ds)
unfolding say_from
grown_all text so [] = grown_same so
grown_all text so (d ∷ ds) =
    let s = said_by text so d.decl in
    grown_then (grown_one so d.index s) (grown_all text (added so d.index s) ds)

-- ROOM: what has room with more behind it has room
pub grown_roomy : {so more : Sofar} → Grown so more → roomy more.netlist ≡ true → roomy so.netlist ≡ true
grown_roomy {so} {more} g room =
    let M = so.netlist in
    let N = more.netlist in
    let r = roomy_is N room in
    is_roomy M record {
      cells = omega (arith, front_length g.cells, r.cells);
      bits = omega (arith, front_total g.cells (λ (c : Cell). c.width), r.bits);
      outputs = omega (arith, front_total g.cells output_bits, r.outputs);
      runs = omega (arith, front_joined g.cells cell_runs, r.runs);
      metas = omega (arith, front_length g.metas, r.metas);
      members = omega (arith, front_joined g.metas (λ (m : Meta). m.members), r.members);
      ios = omega (arith, front_length g.ios, r.ios);
      meta_strings = front_every g.metas (λ (m : Meta). short_string m.name && short_string m.text) r.meta_strings;
      io_strings = front_every g.ios (λ (i : Io). short_string i.name) r.io_strings;
      cell_strings = front_every g.cells (λ (c : Cell). short_string c.name) r.cell_strings;
      strings = omega (
        arith,
        strings_long M,
        strings_long N,
        front_joined g.metas (λ (m : Meta). m.name ++ m.text),
        front_joined g.ios (λ (i : Io). i.name),
        front_joined g.cells (λ (c : Cell). c.name),
        r.strings,
      );
    }
