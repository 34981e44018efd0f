use Rattle.brackets.proofs.Widths.{token_narrow}
use mathlib.Core.Path.{sym, ◌∙◌}
use Rattle.enclosed.proofs.measures.operand_at.Goals as goal

pub operand_from-requires : goal.operand_from-requires
operand_from-requires c = (c.requires, token_narrow c.args.text.now c.args.reader.next.at c.requires _ _ (sym c.first_token.ensures ∙ c.in_ok-token.was))
