use Rattle.metas.proofs.MetaLaws.{trits_room}
use Rattle.metas.specs.MetaRows.{payload_trits}
use Rattle.noting.specs.Formed.{PayloadIn}
use lib.ListN.{length}
use Prim.Native.Nat.{◌+◌, ◌≤◌}
use mathlib.Core.Path.{subst}
use Rattle.metas.proofs.put_payload.Goals as goal

pub copy_trits-requires : goal.copy_trits-requires
copy_trits-requires c = let s = c in let a = s.args in let e = c.in-Bits.is in let d = subst (PayloadIn a.text.now) e s.requires.0 in (d.inside, trits_room a.text.now _ a.at (length a.trits.now) d.inside (subst (λ p. a.at + length (payload_trits a.text.now p) ≤ length a.trits.now) e s.requires.1))

pub returns-in-Bits : goal.returns-in-Bits
returns-in-Bits c = rw c.in-Bits.is c.copy_trits.ensures
