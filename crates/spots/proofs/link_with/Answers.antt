use native.Mathlib.Omega.{arith}
use Rattle.signs.proofs.Laws.{in_text}
use Rattle.spots.proofs.link_with.Goals as goal

pub meta_link-requires : goal.meta_link-requires
meta_link-requires c =
    let a = c.args in
    let b = c.byte_at-b.ensures in
    in_text a.text.now c.inside_end-k.result (omega (arith, b, c.if-b-eq33.true))
