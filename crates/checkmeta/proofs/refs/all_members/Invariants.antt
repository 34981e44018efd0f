use mathlib.Core.Path.{◌≡◌}
use lib.ListN.{drop}
use Rattle.ground.specs.Lists.{every}
use Rattle.netlist.specs.Rules.{refers, is_member}
use Rattle.checkmeta.specs.Fields.{kinds_in}
use Rattle.checkmeta.proofs.refs.all_members.Given as goal

abbrev pub invariant-loop-member : goal.invariant-loop-member
invariant-loop-member l = every (refers is_member (kinds_in l.n l.metas)) (drop l.member-index l.members) ≡ every (refers is_member (kinds_in l.n l.metas)) l.members
