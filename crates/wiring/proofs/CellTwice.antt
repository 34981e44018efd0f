-- Rule 9 of a cell, test by test.
-- Assumes nothing.
use mathlib.Core.Path.{◌≡◌, refl, sym, ◌∙◌}
use mathlib.Core.Bool.{Bool, true, false, ◌&&◌, ◌||◌}
use mathlib.Core.List.{List}
use Prim.Native.Nat.{ℕ, ◌<◌, ◌≤◌}
use native.Mathlib.Omega.{arith}
use lib.Dec.{leb}
use borrow.Author.Tests.{le-leb, lt-leb}
use Rattle.ground.proofs.Bools.{or_left}
use Rattle.signs.specs.Pieces.{decoded}
use Rattle.kinds.specs.Kinds.{kind_at}
use Rattle.form.specs.declared.Wiring.{Wiring}
use Rattle.netlist.specs.Netlist.{Cell}
use Rattle.netlist.specs.Rules.{taken, names_as}
use Rattle.saying.specs.Values.{row_of, name_in}
use Rattle.saying.specs.Rules.{declares}

module _ (text : List ℕ) (w : Wiring) (numbers : List ℕ) (index : ℕ) (cs : List Cell) (r : ℕ) (is : r ≡ row_of numbers index) where
  abbrev Asks : Bool
  Asks = declares numbers index || ((kind_at w.kind).named && taken (name_in text (kind_at w.kind).named w.name) (names_as w.kind cs))

  pub twice_number : 1 ≤ r → true ≡ Asks
  twice_number h =
      let e : leb 1 (row_of numbers index) ≡ true = le-leb 1 (row_of numbers index) (omega (arith, is)) in
      sym (or_left (declares numbers index) _ e)

  module _ (h : r < 1) where
    new : leb 1 (row_of numbers index) ≡ false
    new = lt-leb 1 (row_of numbers index) (omega (arith, is))

    pub twice_name : (b : Bool) → (kind_at w.kind).named ≡ true → b ≡ taken (decoded text w.name.from) (names_as w.kind cs) → b ≡ Asks
    twice_name b n e = rw (new, n) e

    pub twice_nothing : (kind_at w.kind).named ≡ false → false ≡ Asks
    twice_nothing n = rw (new, n)
