use mathlib.Core.Path.{sym, ◌∙◌}
use native.Mathlib.Omega.{arith}
use Prim.Native.Nat.{◌<◌}
use Rattle.laying.proofs.Lasting.{last_some}
use Rattle.laying.proofs.Adding.{rows_all, rows_few, trits_room, last_room, constant_none, constant_on, constant_added}
use Rattle.joining.proofs.add_known.Goals as goal

pub returns-then-size-eq0 : goal.returns-then-size-eq0
returns-then-size-eq0 c =
    let s = c in
    let a = s.args in
    let h = s.requires.opened in
    λ trits ts e. constant_none ts a.size e c.if-size-eq0.true

pub last_is-requires : goal.last_is-requires
last_is-requires c =
    let s = c in
    let a = s.args in
    let h = s.requires.opened in
    (rows_all h, rows_few h)

pub overflow_sub-at : goal.overflow_sub-at
overflow_sub-at c =
    let s = c in
    let a = s.args in
    let h = s.requires.opened in
    let f = last_some a.runs.now a.first a.so.runs 0 (sym c.last_is.ensures ∙ c.if-last_is.true) in
    omega arith

pub bounds-runs-at : goal.bounds-runs-at
bounds-runs-at c =
    let s = c in
    let a = s.args in
    let h = s.requires.opened in
    let f = last_some a.runs.now a.first a.so.runs 0 (sym c.last_is.ensures ∙ c.if-last_is.true) in
    omega (arith, rows_all h, rows_few h)

pub bounds-runs-at-then-last_is : goal.bounds-runs-at-then-last_is
bounds-runs-at-then-last_is c =
    let s = c in
    let a = s.args in
    let h = s.requires.opened in
    let f = last_some a.runs.now a.first a.so.runs 0 (sym c.last_is.ensures ∙ c.if-last_is.true) in
    omega (arith, rows_all h, rows_few h)

pub overflow_add-long-then-last_is : goal.overflow_add-long-then-last_is
overflow_add-long-then-last_is c =
    let s = c in
    let a = s.args in
    let h = s.requires.opened in
    let f = last_some a.runs.now a.first a.so.runs 0 (sym c.last_is.ensures ∙ c.if-last_is.true) in
    record { fits = omega (arith, last_room h f) }

pub put_row-requires : goal.put_row-requires
put_row-requires c =
    let s = c in
    let a = s.args in
    let h = s.requires.opened in
    let f = last_some a.runs.now a.first a.so.runs 0 (sym c.last_is.ensures ∙ c.if-last_is.true) in
    omega (arith, rows_all h, rows_few h)

pub overflow_add-result : goal.overflow_add-result
overflow_add-result c =
    let s = c in
    let a = s.args in
    let h = s.requires.opened in
    record { fits = omega (arith, trits_room h) }

pub returns-then-last_is : goal.returns-then-last_is
returns-then-last_is c =
    let s = c in
    let a = s.args in
    let h = s.requires.opened in
    let w : 0 < a.size = omega arith in
    λ trits ts e. constant_on ts a.size e w (sym c.last_is.ensures ∙ c.if-last_is.true) (trits_room h) c.put_row.ensures (omega arith) (omega arith)

pub overflow_cast-start : goal.overflow_cast-start
overflow_cast-start c =
    let s = c in
    let a = s.args in
    let h = s.requires.opened in
    record { fits = omega (arith, trits_room h) }

pub add_row-requires : goal.add_row-requires
add_row-requires c =
    let s = c in
    let a = s.args in
    let h = s.requires.opened in
    (rows_all h, rows_few h, trits_room h)

pub returns : goal.returns
returns c =
    let s = c in
    let a = s.args in
    let h = s.requires.opened in
    let w : 0 < a.size = omega arith in
    λ trits ts e. constant_added ts a.size e w _ (sym c.last_is.ensures ∙ c.if-last_is.false) (trits_room h) c.add_row.ensures
