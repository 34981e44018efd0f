use borrow.Author.Tests.{lt-ltb, le-ltb}
use Rattle.recording.specs.ByKind.{copied}
use Rattle.recording.proofs.is_copied.Goals as goal

pub returns-then-kind-lt4 : goal.returns-then-kind-lt4
unfolding copied
returns-then-kind-lt4 c = rw (lt-ltb c.args.kind 4 c.if-kind-lt4.true)

pub returns : goal.returns
unfolding copied
returns c = rw (le-ltb c.args.kind 4 c.if-kind-lt4.false)
