use Prim.Native.Nat.{◌*◌}
use mathlib.Core.List.{[], ◌∷◌}
use Rattle.metas.proofs.MetaLaws.{four_fours}
use mathlib.Core.Path.{refl}
use Rattle.metas.proofs.put_meta.Goals as goal

pub returns : goal.returns
returns c = let p = c in let q = p in let r = q in let s = r in let a = s.args in let w = a.row in four_fours a.metas.now _ _ _ _ (a.n * 16) (w.kind ∷ w.name.at ∷ w.name.size ∷ w.text.at ∷ []) (w.text.size ∷ 0 ∷ w.members ∷ 0 ∷ []) (w.trits ∷ w.inside ∷ w.source ∷ w.number ∷ []) (w.range.first.line ∷ w.range.first.column ∷ w.range.last.line ∷ w.range.last.column ∷ []) refl refl refl s.put_four.ensures r.put_four-2.ensures q.put_four-3.ensures p.put_four-4.ensures
