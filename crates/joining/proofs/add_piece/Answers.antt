use mathlib.Core.Path.{sym, ◌∙◌}
use native.Mathlib.Omega.{arith}
use Prim.Native.Nat.{◌<◌, ◌+◌}
use Rattle.laying.proofs.Lasting.{last_from_some}
use Rattle.laying.proofs.Adding.{rows_all, rows_few, trits_room, last_room, piece_none, piece_on, piece_added}
use Rattle.joining.proofs.add_piece.Goals as goal

pub returns-then-width-eq0 : goal.returns-then-width-eq0
returns-then-width-eq0 c =
    let s = c in
    let a = s.args in
    let h = s.requires.2.opened in
    λ trits. piece_none a.p.cell a.p.offset a.p.width c.if-width-eq0.true

pub last_is_from-requires : goal.last_is_from-requires
last_is_from-requires c =
    let s = c in
    let a = s.args in
    let h = s.requires.2.opened in
    (rows_all h, rows_few h)

pub overflow_sub-at : goal.overflow_sub-at
overflow_sub-at c =
    let s = c in
    let a = s.args in
    let h = s.requires.2.opened in
    let f = last_from_some a.runs.now a.first a.so.runs (a.p.cell + 1) (a.p.offset + a.p.width) (sym c.last_is_from.ensures ∙ c.if-last_is_from.true) in
    omega arith

pub bounds-runs-at : goal.bounds-runs-at
bounds-runs-at c =
    let s = c in
    let a = s.args in
    let h = s.requires.2.opened in
    let f = last_from_some a.runs.now a.first a.so.runs (a.p.cell + 1) (a.p.offset + a.p.width) (sym c.last_is_from.ensures ∙ c.if-last_is_from.true) in
    omega (arith, rows_all h, rows_few h)

pub overflow_add-long-then-last_is_from : goal.overflow_add-long-then-last_is_from
overflow_add-long-then-last_is_from c =
    let s = c in
    let a = s.args in
    let h = s.requires.2.opened in
    let f = last_from_some a.runs.now a.first a.so.runs (a.p.cell + 1) (a.p.offset + a.p.width) (sym c.last_is_from.ensures ∙ c.if-last_is_from.true) in
    record { fits = omega (arith, last_room h f) }

pub put_row-requires : goal.put_row-requires
put_row-requires c =
    let s = c in
    let a = s.args in
    let h = s.requires.2.opened in
    let f = last_from_some a.runs.now a.first a.so.runs (a.p.cell + 1) (a.p.offset + a.p.width) (sym c.last_is_from.ensures ∙ c.if-last_is_from.true) in
    omega (arith, rows_all h, rows_few h)

pub returns-then-last_is_from : goal.returns-then-last_is_from
returns-then-last_is_from c =
    let s = c in
    let a = s.args in
    let h = s.requires.2.opened in
    let w : 0 < a.p.width = omega arith in
    λ trits. piece_on a.p.cell a.p.offset a.p.width w (sym c.last_is_from.ensures ∙ c.if-last_is_from.true) (omega (arith, trits_room h)) c.put_row.ensures

pub add_row-requires : goal.add_row-requires
add_row-requires c =
    let s = c in
    let a = s.args in
    let h = s.requires.2.opened in
    (rows_all h, rows_few h, omega (arith, trits_room h))

pub returns : goal.returns
returns c =
    let s = c in
    let a = s.args in
    let h = s.requires.2.opened in
    let w : 0 < a.p.width = omega arith in
    λ trits. piece_added a.p.cell a.p.offset a.p.width w _ (sym c.last_is_from.ensures ∙ c.if-last_is_from.false) (omega (arith, trits_room h)) c.add_row.ensures
