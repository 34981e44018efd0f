use mathlib.Core.Path.{◌≡◌}
use Rattle.brackets.specs.Walks.{members_left}
use Rattle.asking.specs.References.{first_misnamed, misnamed_in}
use Rattle.asking.specs.declared.Asks.TheVariants.{Member}
use Rattle.asking.proofs.refs.first_misnamed_member.Given as goal

abbrev pub invariant-loop-m : goal.invariant-loop-m
invariant-loop-m l = first_misnamed (misnamed_in Member l.map l.metas l.n) (members_left l.text l.tour) ≡ first_misnamed (misnamed_in Member l.map l.metas l.n) (members_left l.text l.initial.tour)

abbrev pub decreases-loop-m : goal.decreases-loop-m
decreases-loop-m l = l.tour.left
