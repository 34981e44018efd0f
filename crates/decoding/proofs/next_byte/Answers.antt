use native.Mathlib.Omega.{arith}
use Rattle.signs.proofs.Strings.{meant_inside, raw_next, escape_high, escape_low, escape_inside, escape_next}
use Rattle.decoding.proofs.next_byte.Goals as goal

pub bounds-text-at : goal.bounds-text-at
bounds-text-at c = let a = c in meant_inside a.args.text.now a.args.at a.requires

pub overflow_add-result : goal.overflow_add-result
overflow_add-result c = let a = c in omega (arith, meant_inside a.args.text.now a.args.at a.requires)

pub returns-then-b-ne92 : goal.returns-then-b-ne92
returns-then-b-ne92 c = let a = c in raw_next a.args.text.now a.args.at a.requires c.if-b-ne92.true

pub overflow_add-at : goal.overflow_add-at
overflow_add-at c = let a = c in omega (arith, meant_inside a.args.text.now a.args.at a.requires)

pub bounds-text-at-2 : goal.bounds-text-at-2
bounds-text-at-2 c = let a = c in omega (arith, escape_inside a.args.text.now a.args.at a.requires c.if-b-ne92.false)

pub hex_value-high-requires : goal.hex_value-high-requires
hex_value-high-requires c = let a = c in escape_high a.args.text.now a.args.at a.requires c.if-b-ne92.false

pub overflow_add-at-2 : goal.overflow_add-at-2
overflow_add-at-2 c = let a = c in omega (arith, escape_inside a.args.text.now a.args.at a.requires c.if-b-ne92.false)

pub bounds-text-at-3 : goal.bounds-text-at-3
bounds-text-at-3 c = let a = c in escape_inside a.args.text.now a.args.at a.requires c.if-b-ne92.false

pub hex_value-low-requires : goal.hex_value-low-requires
hex_value-low-requires c = let a = c in escape_low a.args.text.now a.args.at a.requires c.if-b-ne92.false

pub overflow_add-result-3 : goal.overflow_add-result-3
overflow_add-result-3 c = let a = c in omega (arith, escape_inside a.args.text.now a.args.at a.requires c.if-b-ne92.false)

pub returns : goal.returns
returns c = let a = c in rw (c.hex_value-high.ensures.0, c.hex_value-low.ensures.0) (escape_next a.args.text.now a.args.at a.requires c.if-b-ne92.false)
