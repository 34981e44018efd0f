use mathlib.Core.Path.{◌≡◌, ◌∙◌}
use mathlib.Core.Bool.{true, false}
use Rattle.asking.specs.References.{misnamed_in}
use Rattle.asking.proofs.RefLaws.{misnamed_said}
use Rattle.asking.proofs.refs.misnames.Goals as goal

pub returns-then-refers_to : goal.returns-then-refers_to
unfolding misnamed_in
returns-then-refers_to c = let a = c.args in let e : false ≡ misnamed_in a.asks a.map.now a.metas.now a.n a.r = rw (c.if-r.true, ← c.row_of.ensures.0, ← c.refers_to.ensures, c.if-refers_to.true) in (e, λ ns numbers m l t h. e ∙ misnamed_said a.asks a.map.now a.metas.now a.n a.r ns numbers m l t h)

pub returns-then-r : goal.returns-then-r
unfolding misnamed_in
returns-then-r c = let a = c.args in let e : true ≡ misnamed_in a.asks a.map.now a.metas.now a.n a.r = rw (c.if-r.true, ← c.row_of.ensures.0, ← c.refers_to.ensures, c.if-refers_to.false) in (e, λ ns numbers m l t h. e ∙ misnamed_said a.asks a.map.now a.metas.now a.n a.r ns numbers m l t h)

pub returns : goal.returns
unfolding misnamed_in
returns c = let a = c.args in let e : false ≡ misnamed_in a.asks a.map.now a.metas.now a.n a.r = rw c.if-r.false in (e, λ ns numbers m l t h. e ∙ misnamed_said a.asks a.map.now a.metas.now a.n a.r ns numbers m l t h)
