use Rattle.writing.proofs.Stands.{put_in, put_past, put_most}
use borrow.Author.Rules.{rules}
use Rattle.writing.proofs.room.put.Goals as goal

pub returns-then-n-room : goal.returns-then-n-room
returns-then-n-room c = put_in _ _ _

pub returns-then-n-eq18446744073709551615 : goal.returns-then-n-eq18446744073709551615
returns-then-n-eq18446744073709551615 c = put_most _ _ _ (search rules) (search rules)

pub returns : goal.returns
returns c = put_past _ _ _ (search rules)
