-- The search of pads, from the last to the first.
use mathlib.Core.Path.{◌≡◌, sym}
use mathlib.Core.List.{List}
use Prim.Native.Nat.{ℕ, suc, ◌-◌, ◌<◌}
use native.Mathlib.Omega.{arith}
use lib.ListN.{length, get_or, drop}
use lib.Seq.{drop-cons}
use Rattle.ground.specs.Choice.{pick}
use Rattle.pads.specs.declared.Pad.{Pad}
use Rattle.pads.specs.Pads.{pad_named, first_from}

-- the first pad from pad t on
abbrev pub far : List ℕ → List ℕ → List Pad → ℕ → ℕ
far strings name pads t = first_from strings name (length pads - t) t (drop t pads)

pub far_none : (strings name : List ℕ) (pads : List Pad) → far strings name pads (length pads) ≡ length pads
unfolding first_from
far_none strings name pads =
    let e : length pads - length pads ≡ 0 = omega arith in
    rw e

pub far_more : (strings name : List ℕ) (pads : List Pad) (d : Pad) (j : ℕ) → j < length pads
    → pick (pad_named strings (get_or pads j d) name) j (far strings name pads (suc j)) ≡ far strings name pads j
unfolding first_from
far_more strings name pads d j h =
    let e : length pads - j ≡ suc (length pads - suc j) = omega arith in
    sym (rw (e, drop-cons pads j d h))

pub far_all : (strings name : List ℕ) (pads : List Pad) → far strings name pads 0 ≡ first_from strings name (length pads) 0 pads
far_all strings name pads =
    let e : length pads - 0 ≡ length pads = omega arith in
    rw e
