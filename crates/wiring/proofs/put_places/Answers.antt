use mathlib.Core.Path.{◌∙◌}
use Rattle.wiring.proofs.put_places.Goals as goal

pub returns : goal.returns
returns c = c.put_three.ensures ∙ rw (c.operand_word-3.ensures, c.operand_word-2.ensures, c.operand_word.ensures)
