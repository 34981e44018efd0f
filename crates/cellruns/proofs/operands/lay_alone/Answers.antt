use Rattle.laying.specs.Bare.{token_part}
use Rattle.laying.proofs.Walking.{alone_fits, alone_laid, alone_full}
use Rattle.cellruns.proofs.operands.lay_alone.Goals as goal

pub add_token-requires : goal.add_token-requires
add_token-requires c = (c.requires.0, alone_fits c.args.text.now (token_part c.args.token) c.requires.0 c.requires.1)

pub returns-in_err-used : goal.returns-in_err-used
returns-in_err-used c = rw c.from_residual.ensures (alone_full c.args.text.now (token_part c.args.token) c.requires.0 (rw c.in_err-used.was at c.add_token.ensures))

pub returns : goal.returns
returns c = alone_laid c.args.text.now (token_part c.args.token) c.requires.0 (rw c.in_ok-used.was at c.add_token.ensures) c.is_bare.ensures
