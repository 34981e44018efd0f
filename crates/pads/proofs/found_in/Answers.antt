use mathlib.Core.Path.{ap, ◌∙◌}
use Prim.Native.Nat.{◌≤◌}
use native.Mathlib.Omega.{arith}
use Rattle.pads.specs.Pads.{first_pad}
use Rattle.pads.proofs.Looked.{row_found, none_found}
use Rattle.pads.proofs.found_in.Goals as goal

pub offset_bounds-pads-row : goal.offset_bounds-pads-row
offset_bounds-pads-row c = omega (arith, c.requires.0, c.requires.1.long, c.if-row-n.true)

pub bounds-pads-row : goal.bounds-pads-row
bounds-pads-row c = omega (arith, c.requires.0, c.requires.1.long, c.if-row-n.true)

pub returns-then-row-n : goal.returns-then-row-n
returns-then-row-n c =
    let x = c in
    let a = x.args in
    let few : a.n ≤ 64 = omega (arith, x.requires.0, x.requires.1.long) in
    let is = c.find_among-row.ensures ∙ ap (first_pad a.strings.now a.name.now) c.pads_of-pads.ensures in
    rw c.pads_of-pads.ensures (row_found a.strings.now a.name.now a.n a.ios.now few x.requires.1 _ is c.if-row-n.true)

pub returns : goal.returns
returns c =
    let x = c in
    let a = x.args in
    let few : a.n ≤ 64 = omega (arith, x.requires.0, x.requires.1.long) in
    let is = c.find_among-row.ensures ∙ ap (first_pad a.strings.now a.name.now) c.pads_of-pads.ensures in
    rw c.refused.ensures (none_found a.strings.now a.name.now a.n a.ios.now few x.requires.1 _ is c.if-row-n.false)
