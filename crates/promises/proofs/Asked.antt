-- WHAT IS ASKED OF GOOD TABLES: full names and the I/O lookup. Each number is told exactly on its ground, where none before it
-- holds; and what they answer else.
-- Assumes nothing.
use Rattle.std.specs.Prelude.{Result, Ok, Err}
use mathlib.Core.Path.{◌≡◌, refl, ap, ◌∙◌, sym, subst}
use mathlib.Core.Bool.{Bool, true, false, not}
use mathlib.Core.List.{List, [], ◌∷◌}
use Prim.Native.Nat.{ℕ, zero, suc, ◌+◌, ◌<◌, ◌≤◌}
use native.Mathlib.Omega.{arith}
use lib.Dec.{ltb}
use lib.ListN.{length, get_or}
use borrow.Author.Tests.{le-ltb}
use Rattle.ground.specs.Choice.{pick}
use Rattle.ground.specs.Refusals.{at, refusal}
use Rattle.ground.specs.Regions.{over}
use Rattle.ground.specs.Text.{same}
use Rattle.ground.specs.declared.Refusal.{Refusal}
use Rattle.ground.proofs.Bools.{bool_cases, never_both}
use Rattle.netlist.specs.Netlist.{Io, Netlist}
use Rattle.netlist.specs.Tables.{tables_in}
use Rattle.netlist.specs.Good.{short, good, check_of, netlist_in, io_from, lookup, lookup_of}
use Rattle.naming.specs.Names.{is_ident, full_name}
use Rattle.naming.specs.Names as naming

-- FULL NAMES: 1, 15, 16, 24
pub data Unnamed (rows strings bits : List ℕ) (row : ℕ) (room : List ℕ) : Refusal → Type 0 where
  lent_short_lem : short rows strings bits ≡ true → Unnamed rows strings bits row room (refusal 1 (at 0))
  not_good : short rows strings bits ≡ false → good (tables_in rows strings bits) ≡ false → Unnamed rows strings bits row room (refusal 15 (at 0))
  no_ident : short rows strings bits ≡ false → good (tables_in rows strings bits) ≡ true → is_ident (netlist_in rows strings bits) row ≡ false
      → Unnamed rows strings bits row room (refusal 16 (at 0))
  no_room : short rows strings bits ≡ false → good (tables_in rows strings bits) ≡ true → is_ident (netlist_in rows strings bits) row ≡ true
      → ltb (length room) (length (full_name (netlist_in rows strings bits) row)) ≡ true → Unnamed rows strings bits row room (refusal 24 (at 0))

abbrev told_named : Result ℕ Refusal → Refusal
told_named (Err g) = g
told_named (Ok n) = refusal 0 (at 0)

module _ (rows strings bits : List ℕ) (row : ℕ) (room : List ℕ) where
  named_by : (g h : Refusal) → ◌≡◌ {A = Result ℕ Refusal} (Err h) (Err g) → Unnamed rows strings bits row room h → Unnamed rows strings bits row room g
  named_by g h e u = subst (λ (q : Refusal). Unnamed rows strings bits row room q) (ap told_named e) u

  pub naming_refused : (g : Refusal) → (naming.name_of rows strings bits row room).answer ≡ Err g
      → Unnamed rows strings bits row room g × ((naming.name_of rows strings bits row room).room ≡ room)
  unfolding naming.name_of naming.written check_of
  naming_refused g e =
      bool_cases (short rows strings bits)
      (λ a. (named_by g (refusal 1 (at 0)) (rw a at e) (lent_short_lem a), rw a))
      (λ a. bool_cases (good (tables_in rows strings bits))
      (λ b. bool_cases (is_ident (netlist_in rows strings bits) row)
      (λ c. bool_cases (ltb (length room) (length (full_name (netlist_in rows strings bits) row)))
      (λ d. (named_by g (refusal 24 (at 0)) (rw (a, b, c, d) at e) (no_room a b c d), rw (a, b, c, d)))
      (λ d. let z : ◌≡◌ {A = ℕ} 0 1 = cc (rw (a, b, c, d) at e) in absurd (omega arith)))
      (λ c. (named_by g (refusal 16 (at 0)) (rw (a, b, c) at e) (no_ident a b c), rw (a, b, c))))
      (λ b. (named_by g (refusal 15 (at 0)) (rw (a, b) at e) (not_good a b), rw (a, b))))

  pub naming_told : {g : Refusal} → Unnamed rows strings bits row room g → (naming.name_of rows strings bits row room).answer ≡ Err g
  unfolding naming.name_of naming.written check_of
  naming_told (lent_short_lem a) = rw a
  naming_told (not_good a b) = rw (a, b)
  naming_told (no_ident a b c) = rw (a, b, c)
  naming_told (no_room a b c d) = rw (a, b, c, d)

  -- the full name of every ident of good tables is written, wherever the room takes it
  pub name_written : check_of rows strings bits ≡ Ok tt → is_ident (netlist_in rows strings bits) row ≡ true
      → length (full_name (netlist_in rows strings bits) row) ≤ length room
      → naming.name_of rows strings bits row room
      ≡ naming.made (Ok (length (full_name (netlist_in rows strings bits) row)))
      (over (length (full_name (netlist_in rows strings bits) row)) (full_name (netlist_in rows strings bits) row) room)
  unfolding naming.name_of naming.written
  name_written h i l = rw (h, i, le-ltb (length room) (length (full_name (netlist_in rows strings bits) row)) l)

-- THE I/O LOOKUP: 1, 15, 18
abbrev no_io : Io
no_io = record { name = []; width = 0 }

-- "no I/O row has the asked name"
abbrev pub Nameless : List Io → List ℕ → Type 0
Nameless ios name = (row : ℕ) → row < length ios → same (get_or ios row no_io).name name ≡ false

-- "the first I/O row whose name equals the asked one", with its width
pub record First (ios : List Io) (name : List ℕ) (row width : ℕ) : Type 0 where
  pub there : row < length ios
  pub named : same (get_or ios row no_io).name name ≡ true
  pub wide : (get_or ios row no_io).width ≡ width
  pub first : (before : ℕ) → before < row → same (get_or ios before no_io).name name ≡ false

pub data Unfound (rows strings bits name : List ℕ) : Refusal → Type 0 where
  lent_short_lem : short rows strings bits ≡ true → Unfound rows strings bits name (refusal 1 (at 0))
  not_good : short rows strings bits ≡ false → good (tables_in rows strings bits) ≡ false → Unfound rows strings bits name (refusal 15 (at 0))
  nameless : short rows strings bits ≡ false → good (tables_in rows strings bits) ≡ true → Nameless (netlist_in rows strings bits).ios name
      → Unfound rows strings bits name (refusal 18 (at 0))

abbrev told_found : Result (ℕ × ℕ) Refusal → Refusal
told_found (Err g) = g
told_found (Ok (r, w)) = refusal 0 (at 0)

abbrev row_found : Result (ℕ × ℕ) Refusal → ℕ
row_found (Err g) = 0
row_found (Ok (r, w)) = r

abbrev width_found : Result (ℕ × ℕ) Refusal → ℕ
width_found (Err g) = 0
width_found (Ok (r, w)) = w

-- the search from a row on: it answers a row of what is left, or 18
pub data Searched (ios : List Io) (from : ℕ) (name : List ℕ) : Result (ℕ × ℕ) Refusal → Type 0 where
  hit : (k w : ℕ) → First ios name k w → Searched ios from name (Ok (from + k, w))
  miss : Nameless ios name → Searched ios from name (Err (refusal 18 (at 0)))

module _ (i : Io) (is : List Io) (name : List ℕ) (s : same i.name name ≡ false) where
  nameless_more : Nameless is name → Nameless (i ∷ is) name
  nameless_more n zero h = s
  nameless_more n (suc r) h = n r (omega arith)

  before_more : (k : ℕ) → ((b : ℕ) → b < k → same (get_or is b no_io).name name ≡ false) → (b : ℕ) → b < suc k → same (get_or (i ∷ is) b no_io).name name ≡ false
  before_more k n zero h = s
  before_more k n (suc b) h = n b (omega arith)

  searched_more : (from : ℕ) {f : Result (ℕ × ℕ) Refusal} → Searched is (from + 1) name f → Searched (i ∷ is) from name f
  searched_more from (hit k w o) =
      let e : from + suc k ≡ from + 1 + k = omega arith in
      let h : First (i ∷ is) name (suc k) w = record { there = let l = o.there in omega arith; named = o.named; wide = o.wide; first = before_more k o.first } in
      subst (λ (q : ℕ). Searched (i ∷ is) from name (Ok (q, w))) e (hit (suc k) w h)
  searched_more from (miss n) = miss (nameless_more n)

hit_here : (i : Io) (is : List Io) (from : ℕ) (name : List ℕ) → same i.name name ≡ true → Searched (i ∷ is) from name (Ok (from, i.width))
hit_here i is from name s =
    let e : from + 0 ≡ from = omega arith in
    let h : First (i ∷ is) name 0 i.width = record { there = omega arith; named = s; wide = refl; first = λ b l. absurd (omega arith) } in
    subst (λ (q : ℕ). Searched (i ∷ is) from name (Ok (q, i.width))) e (hit 0 i.width h)

searched : (ios : List Io) (from : ℕ) (name : List ℕ) → Searched ios from name (io_from ios from name)
unfolding io_from
searched [] from name = miss (λ row h. absurd (omega arith))
searched (i ∷ is) from name =
    bool_cases (same i.name name)
    (λ s. rw (s, io_from) (hit_here i is from name s))
    (λ s. rw (s, io_from) (searched_more i is name s from (searched is (from + 1) name)))

module _ (rows strings bits name : List ℕ) where
  found_by : (g h : Refusal) → ◌≡◌ {A = Result (ℕ × ℕ) Refusal} (Err h) (Err g) → Unfound rows strings bits name h → Unfound rows strings bits name g
  found_by g h e u = subst (λ (q : Refusal). Unfound rows strings bits name q) (ap told_found e) u

  of_search : short rows strings bits ≡ false → good (tables_in rows strings bits) ≡ true → (f : Result (ℕ × ℕ) Refusal) → Searched (netlist_in rows strings bits).ios 0 name f
      → (g : Refusal) → f ≡ Err g → Unfound rows strings bits name g
  of_search a b f (hit k w o) g e = let z : ◌≡◌ {A = ℕ} 0 1 = cc (e) in absurd (omega arith)
  of_search a b f (miss n) g e = found_by g (refusal 18 (at 0)) e (nameless a b n)

  pub lookup_refused : (g : Refusal) → lookup_of rows strings bits name ≡ Err g → Unfound rows strings bits name g
  unfolding lookup_of check_of
  lookup_refused g e =
      bool_cases (short rows strings bits)
      (λ a. found_by g (refusal 1 (at 0)) (rw a at e) (lent_short_lem a))
      (λ a. bool_cases (good (tables_in rows strings bits))
      (λ b. of_search a b (lookup (netlist_in rows strings bits) name) (searched (netlist_in rows strings bits).ios 0 name) g (rw (a, b) at e))
      (λ b. found_by g (refusal 15 (at 0)) (rw (a, b) at e) (not_good a b)))

  -- where no row has the name, the search finds none
  none_found : (f : Result (ℕ × ℕ) Refusal) → Searched (netlist_in rows strings bits).ios 0 name f → Nameless (netlist_in rows strings bits).ios name → f ≡ Err (refusal 18 (at 0))
  none_found f (hit k w o) n = never_both o.named (n k o.there)
  none_found f (miss m) n = refl

  pub lookup_told : {g : Refusal} → Unfound rows strings bits name g → lookup_of rows strings bits name ≡ Err g
  unfolding lookup_of check_of
  lookup_told (lent_short_lem a) = rw a
  lookup_told (not_good a b) = rw (a, b)
  lookup_told (nameless a b n) = rw (a, b) (none_found (lookup (netlist_in rows strings bits) name) (searched (netlist_in rows strings bits).ios 0 name) n)

  -- a row that is told is the first that has the name
  of_hit : (f : Result (ℕ × ℕ) Refusal) → Searched (netlist_in rows strings bits).ios 0 name f → (row width : ℕ) → f ≡ Ok (row, width)
      → First (netlist_in rows strings bits).ios name row width
  of_hit f (hit k w o) row width e =
      let n : 0 + k ≡ row = ap row_found e in
      let p : k ≡ row = omega arith in
      let q : w ≡ width = ap width_found e in
      subst (λ (x : ℕ). First (netlist_in rows strings bits).ios name row x) q (subst (λ (x : ℕ). First (netlist_in rows strings bits).ios name x w) p o)
  of_hit f (miss n) row width e = let z : ◌≡◌ {A = ℕ} 0 1 = cc (e) in absurd (omega arith)

  pub lookup_first : (row width : ℕ) → lookup_of rows strings bits name ≡ Ok (row, width) → First (netlist_in rows strings bits).ios name row width
  unfolding lookup_of check_of
  lookup_first row width e =
      bool_cases (short rows strings bits)
      (λ a. let z : ◌≡◌ {A = ℕ} 0 1 = cc (rw a at e) in absurd (omega arith))
      (λ a. bool_cases (good (tables_in rows strings bits))
      (λ b. of_hit (lookup (netlist_in rows strings bits) name) (searched (netlist_in rows strings bits).ios 0 name) row width (rw (a, b) at e))
      (λ b. let z : ◌≡◌ {A = ℕ} 0 1 = cc (rw (a, b) at e) in absurd (omega arith)))
