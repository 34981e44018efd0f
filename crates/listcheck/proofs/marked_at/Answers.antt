use mathlib.Core.Path.{◌∙◌, sym}
use Prim.Native.Nat.{◌*◌}
use Rattle.loadlist.proofs.Laws.{mark_first, mark_second, mark_zero}
use Rattle.listcheck.proofs.marked_at.Goals as goal

pub returns-then-byte_at-ne71 : goal.returns-then-byte_at-ne71
returns-then-byte_at-ne71 c =
    let s = c in
    mark_first s.args.list.now (8 * s.args.k) (λ q. c.if-byte_at-ne71.true (c.byte_at.ensures ∙ q))

pub returns-then-byte_at-ne83 : goal.returns-then-byte_at-ne83
returns-then-byte_at-ne83 c =
    let s = c in
    mark_second s.args.list.now (8 * s.args.k) (sym c.byte_at.ensures ∙ c.if-byte_at-ne71.false) (λ q. c.if-byte_at-ne83.true (c.byte_at-2.ensures ∙ q))

pub returns : goal.returns
returns c =
    let s = c in
    rw c.byte_at-3.ensures (mark_zero s.args.list.now (8 * s.args.k) (sym c.byte_at.ensures ∙ c.if-byte_at-ne71.false) (sym c.byte_at-2.ensures ∙ c.if-byte_at-ne83.false))
