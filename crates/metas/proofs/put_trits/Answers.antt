use Rattle.metas.specs.MetaRows.{trits_said}
use Rattle.noting.specs.Formed.{DeclIn}
use lib.ListN.{length}
use Prim.Native.Nat.{◌+◌, ◌≤◌}
use mathlib.Core.Path.{subst}
use Rattle.metas.proofs.put_trits.Goals as goal

pub put_payload-requires : goal.put_payload-requires
put_payload-requires c = let s = c in let a = s.args in let e = c.in-Attr.is in ((subst (DeclIn a.text.now) e s.requires.0).1, subst (λ d. a.at + length (trits_said a.text.now d) ≤ length a.trits.now) e s.requires.1)

pub returns-in-Attr : goal.returns-in-Attr
returns-in-Attr c = rw c.in-Attr.is c.put_payload.ensures
