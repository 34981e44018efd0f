use Rattle.metas.proofs.MetaLaws.{rows_with_lem}
use Rattle.metas.specs.MetaRows.{members_said}
use Rattle.ground.proofs.Regions.{part_length}
use Rattle.ground.specs.Regions.{part}
use native.Mathlib.Omega.{arith}
use lib.ListN.{length}
use Prim.Native.Nat.{◌+◌, ◌≤◌}
use Rattle.metas.proofs.put_rows.Goals as goal

pub put_members-requires : goal.put_members-requires
unfolding part
put_members-requires c = let s = c in let a = s.args in let r : 8195 + 1024 ≤ length a.rows.now = omega (arith, s.requires.1) in let l = part_length 8195 1024 a.rows.now r in (s.requires.0, λ ns. rw l (s.requires.3 ns))

pub returns : goal.returns
unfolding part
returns c = let p = c in let q = p in let a = q.args in λ ns m. rows_with_lem a.rows.now _ _ (members_said a.text.now ns a.decl) a.n a.row (q.put_members.ensures ns m) p.put_meta.ensures
