use mathlib.Core.Path.{sym, ◌∙◌}
use Rattle.writing.proofs.Stands.{then, same_text}
use Rattle.writing.proofs.Parts.{escaped_raw, escaped_hex}
use Rattle.quotes.proofs.put_byte.Goals as goal

pub returns-then-is_raw : goal.returns-then-is_raw
returns-then-is_raw c = same_text c.put.ensures (escaped_raw _ (sym c.is_raw.ensures ∙ c.if-is_raw.true))

pub returns : goal.returns
returns c = same_text (then c.put-m.ensures (then c.put-m-2.ensures c.put-2.ensures))
    (λ k. rw (c.hex_digit.ensures, c.hex_digit-2.ensures) (escaped_hex _ (sym c.is_raw.ensures ∙ c.if-is_raw.false) k))
