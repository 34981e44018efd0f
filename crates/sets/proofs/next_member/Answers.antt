use mathlib.Core.Path.{sym}
use Rattle.brackets.proofs.Shorts.{member_short}
use Rattle.sets.proofs.next_member.Goals as goal

pub returns-in-Some : goal.returns-in-Some
returns-in-Some c = sym (member_short c.args.text.now c.args.reader.next.at _ (sym c.in-Some.ensures))
