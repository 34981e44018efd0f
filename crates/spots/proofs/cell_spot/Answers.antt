use mathlib.Core.Path.{◌∙◌}
use borrow.Author.Tests.{eq-eqb, ne_eqb}
use Rattle.lexis.proofs.Spots.{spot_empty, spot_large, spot_offset, spot_width, spot_count, spot_good}
use Rattle.spots.proofs.cell_spot.Goals as goal

pub returns-then-behind-from : goal.returns-then-behind-from
returns-then-behind-from c =
    let a = c.args in
    let i = c.numeral_at-i in
    c.no_spot.ensures ∙ spot_empty a.text.now a.k i.result i.ensures c.if-behind-from.true

pub returns-then-i : goal.returns-then-i
returns-then-i c =
    let a = c.args in
    let i = c.numeral_at-i in
    c.no_spot-then-i.ensures ∙ spot_large a.text.now a.k i.result i.ensures c.if-i.true

pub returns-then-o : goal.returns-then-o
returns-then-o c =
    let a = c.args in
    let i = c.numeral_at-i in
    let o = c.part_or-o in
    c.no_spot-then-o.ensures ∙ spot_offset a.text.now a.k i.result i.ensures o.result o.ensures c.if-o.true

pub returns-then-w : goal.returns-then-w
returns-then-w c =
    let a = c.args in
    let i = c.numeral_at-i in
    let o = c.part_or-o in
    let w = c.part_or-w in
    c.no_spot-then-w.ensures ∙ spot_width a.text.now a.k i.result i.ensures o.result o.ensures w.result w.ensures c.if-w.true

pub returns-then-byte_at-eq42 : goal.returns-then-byte_at-eq42
returns-then-byte_at-eq42 c =
    let a = c.args in
    let i = c.numeral_at-i in
    let o = c.part_or-o in
    let w = c.part_or-w in
    c.no_spot-then-byte_at-eq42.ensures
    ∙ spot_count a.text.now a.k i.result i.ensures o.result o.ensures w.result w.ensures
    (rw (← c.byte_at.ensures) (eq-eqb _ _ c.if-byte_at-eq42.true))

pub returns : goal.returns
returns c =
    let a = c.args in
    let i = c.numeral_at-i in
    let o = c.part_or-o in
    let w = c.part_or-w in
    spot_good a.text.now a.k i.result i.ensures o.result o.ensures w.result w.ensures
    c.if-behind-from.false c.if-i.false c.if-o.false c.if-w.false
    (rw (← c.byte_at.ensures) (ne_eqb _ _ c.if-byte_at-eq42.false))
