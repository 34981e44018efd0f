use mathlib.Core.Path.{◌∙◌}
use borrow.Author.Tests.{lt-leb, le-leb}
use Rattle.brackets.specs.Parts.{base_of, base_width}
use Rattle.laying.proofs.Walking.{none_bare, some_bare_lem}
use Rattle.cellruns.proofs.operands.is_bare.Goals as goal

pub returns-then-token-lt4 : goal.returns-then-token-lt4
returns-then-token-lt4 c = rw (lt-leb 4 _ c.if-token-lt4.true) c.base_bare.ensures

pub returns-then-token-eq0 : goal.returns-then-token-eq0
returns-then-token-eq0 c = rw (le-leb 4 _ c.if-token-lt4.false) (none_bare c.args.token.count (base_width (base_of c.args.token)) c.if-token-eq0.true)

pub returns : goal.returns
returns c = rw (le-leb 4 _ c.if-token-lt4.false) (c.base_bare-2.ensures ∙ some_bare_lem c.args.token.count (base_width (base_of c.args.token)) c.if-token-eq0.false)
