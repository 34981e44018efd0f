-- Room: a front of a netlist with room has room, its cells told by numbers.
use mathlib.Core.Path.{◌≡◌, refl, ap, ap₂, ◌∙◌}
use mathlib.Core.Bool.{Bool, true, ◌&&◌}
use mathlib.Core.List.{List, [], ◌∷◌, ◌++◌, map}
use Prim.Native.Nat.{ℕ, ◌+◌, ◌≤◌}
use native.Mathlib.Omega.{arith}
use lib.Dec.{eqb}
use lib.ListN.{length, length-append}
use borrow.Author.Tests.{le-leb}
use Rattle.ground.specs.Choice.{pick}
use Rattle.ground.specs.Lists.{every, all_of, total, joined}
use Rattle.ground.proofs.Bools.{facts, every_first, every_more}
use Rattle.ground.proofs.Counts.{length_mapped}
use Rattle.kinds.specs.Kinds.{output_kind}
use Rattle.netlist.specs.Netlist.{Run, const, piece, Meta, Io, Cell, Netlist, operand_width, meta_strings, cell_runs, strings_of}
use Rattle.netlist.specs.Rules.{output_bits, short_string, roomy}
use Rattle.netlist.proofs.Laying.{Roomy, roomy_is, is_roomy, strings_long}
use Rattle.fronts.specs.Fronts.{number_run, number_cell}

-- FRONTS: what is counted and asked of a list zs that begins with xs
module _ {A : Type 0} where
  -- what all pass, those of the front pass, and those behind it
  pub every_split : (p : A → Bool) (xs ys : List A) → every p (xs ++ ys) ≡ true → (every p xs ≡ true) × (every p ys ≡ true)
  unfolding every
  every_split p [] ys h = (refl, h)
  every_split p (x ∷ xs) ys h =
      let f = every_first p x (xs ++ ys) h in
      let r = every_split p xs ys f.1 in
      (every_more p x xs f.0 r.0, r.1)

  -- a sum over a list is that of its front and its back
  pub total_append : (f : A → ℕ) (xs ys : List A) → total f (xs ++ ys) ≡ total f xs + total f ys
  unfolding total
  total_append f [] ys = omega arith
  total_append f (x ∷ xs) ys = omega (arith, total_append f xs ys)

  module _ {B : Type 0} where
    joined_append : (f : A → List B) (xs ys : List A) → length (joined f (xs ++ ys)) ≡ length (joined f xs) + length (joined f ys)
    unfolding joined
    joined_append f [] ys = omega arith
    joined_append f (x ∷ xs) ys = omega (arith, length-append (f x) (joined f (xs ++ ys)), length-append (f x) (joined f xs), joined_append f xs ys)

  module _ (xs ys zs : List A) (e : zs ≡ xs ++ ys) where
    front_length : length xs ≤ length zs
    front_length = rw e (omega (arith, length-append xs ys))

    front_every : (p : A → Bool) → every p zs ≡ true → every p xs ≡ true
    front_every p h = (every_split p xs ys (rw e at h)).0

    front_total : (f : A → ℕ) → total f xs ≤ total f zs
    front_total f = rw e (omega (arith, total_append f xs ys))

    front_joined : {B : Type 0} (f : A → List B) → length (joined f xs) ≤ length (joined f zs)
    front_joined f = rw e (omega (arith, joined_append f xs ys))

-- CELLS TOLD BY NUMBERS are as many, as wide and of the same names
pub width_numbered : (ns : List ℕ) (rs : List Run) → operand_width (map (number_run ns) rs) ≡ operand_width rs
unfolding total
width_numbered ns [] = refl
width_numbered ns (const ts ∷ rs) = ap (λ (n : ℕ). length ts + n) (width_numbered ns rs)
width_numbered ns (piece row o w ∷ rs) = ap (λ (n : ℕ). w + n) (width_numbered ns rs)

module _ {A : Type 0} (g : A → A) where
  total_mapped : (f : A → ℕ) → ((x : A) → f (g x) ≡ f x) → (xs : List A) → total f (map g xs) ≡ total f xs
  unfolding total
  total_mapped f k [] = refl
  total_mapped f k (x ∷ xs) = ap₂ (λ (n m : ℕ). n + m) (k x) (total_mapped f k xs)

  every_mapped : (p : A → Bool) → ((x : A) → p (g x) ≡ p x) → (xs : List A) → every p xs ≡ true → every p (map g xs) ≡ true
  unfolding every
  every_mapped p k [] h = refl
  every_mapped p k (x ∷ xs) h = let f = every_first p x xs h in every_more p (g x) (map g xs) (k x ∙ f.0) (every_mapped p k xs f.1)

  joined_mapped : {B : Type 0} (f : A → List B) → ((x : A) → length (f (g x)) ≡ length (f x)) → (xs : List A) → length (joined f (map g xs)) ≡ length (joined f xs)
  unfolding joined
  joined_mapped f k [] = refl
  joined_mapped f k (x ∷ xs) = omega (arith, length-append (f (g x)) (joined f (map g xs)), length-append (f x) (joined f xs), k x, joined_mapped f k xs)

output_numbered : (ns : List ℕ) (c : Cell) → output_bits (number_cell ns c) ≡ output_bits c
output_numbered ns c = ap (λ (n : ℕ). pick (eqb c.kind output_kind) n 0) (width_numbered ns c.a)

runs_numbered : (ns : List ℕ) (c : Cell) → length (cell_runs (number_cell ns c)) ≡ length (cell_runs c)
runs_numbered ns c =
    let f = number_run ns in
    omega (
      arith,
      length-append (map f c.a) (map f c.b ++ map f c.c),
      length-append (map f c.b) (map f c.c),
      length-append c.a (c.b ++ c.c),
      length-append c.b c.c,
      length_mapped f c.a,
      length_mapped f c.b,
      length_mapped f c.c,
    )

-- A FRONT of a netlist with room has room
module _ (N : Netlist) (room : roomy N ≡ true) (ns : List ℕ) where
  pub front_roomy : (ms ms' : List Meta) (is is' : List Io) (cs cs' : List Cell) → N.metas ≡ ms ++ ms' → N.ios ≡ is ++ is' → N.cells ≡ cs ++ cs'
      → roomy (record { metas = ms; ios = is; cells = map (number_cell ns) cs }) ≡ true
  front_roomy ms ms' is is' cs cs' e f g =
      let r = roomy_is N room in
      let M : Netlist = record { metas = ms; ios = is; cells = map (number_cell ns) cs } in
      let names : length (joined (λ (c : Cell). c.name) (map (number_cell ns) cs)) ≡ length (joined (λ (c : Cell). c.name) cs) = joined_mapped (number_cell ns) (λ (c : Cell). c.name) (λ c. refl) cs in
      is_roomy M record {
        cells = omega (arith, length_mapped (number_cell ns) cs, front_length cs cs' N.cells g, r.cells);
        bits = omega (arith, total_mapped (number_cell ns) (λ (c : Cell). c.width) (λ c. refl) cs, front_total cs cs' N.cells g (λ (c : Cell). c.width), r.bits);
        outputs = omega (arith, total_mapped (number_cell ns) output_bits (output_numbered ns) cs, front_total cs cs' N.cells g output_bits, r.outputs);
        runs = omega (arith, joined_mapped (number_cell ns) cell_runs (runs_numbered ns) cs, front_joined cs cs' N.cells g cell_runs, r.runs);
        metas = omega (arith, front_length ms ms' N.metas e, r.metas);
        members = omega (arith, front_joined ms ms' N.metas e (λ (m : Meta). m.members), r.members);
        ios = omega (arith, front_length is is' N.ios f, r.ios);
        meta_strings = front_every ms ms' N.metas e (λ (m : Meta). short_string m.name && short_string m.text) r.meta_strings;
        io_strings = front_every is is' N.ios f (λ (i : Io). short_string i.name) r.io_strings;
        cell_strings = every_mapped (number_cell ns) (λ (c : Cell). short_string c.name) (λ c. refl) cs (front_every cs cs' N.cells g (λ (c : Cell). short_string c.name) r.cell_strings);
        strings = omega (
          arith,
          strings_long M,
          strings_long N,
          front_joined ms ms' N.metas e (λ (m : Meta). m.name ++ m.text),
          front_joined is is' N.ios f (λ (i : Io). i.name),
          front_joined cs cs' N.cells g (λ (c : Cell). c.name),
          names,
          r.strings,
        );
      }
