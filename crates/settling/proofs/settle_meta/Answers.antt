use mathlib.Core.Path.{◌∙◌}
use native.Mathlib.Omega.{arith}
use lib.ListN.{length-set}
use Rattle.settling.proofs.settle_meta.Goals as goal

pub bounds-row-3-2 : goal.bounds-row-3-2
bounds-row-3-2 c = simp length-set (omega arith)

pub bounds-row-5 : goal.bounds-row-5
bounds-row-5 c = simp length-set (omega arith)

pub bounds-row-7 : goal.bounds-row-7
bounds-row-7 c = simp length-set (omega arith)

pub returns : goal.returns
returns c =
    let first = c.lay_string-second in
    let second = c.lay_string-end in (
      rw (c.word-4.ensures, c.word-3.ensures, c.word-2.ensures, c.word.ensures, first.ensures.0),
      second.ensures.1 ∙ rw (first.ensures.1, first.ensures.0),
      rw (second.ensures.0, first.ensures.0, c.wide.ensures.0, c.wide-2.ensures.0),
    )
