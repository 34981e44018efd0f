use Rattle.writing.proofs.Stands.{then, same_text}
use Rattle.writing.proofs.Digits.{signed_below, signed_above}
use borrow.Author.Rules.{rules}
use Rattle.decimals.proofs.put_signed.Goals as goal

pub returns-then-x-ge2147483648 : goal.returns-then-x-ge2147483648
returns-then-x-ge2147483648 c = same_text (then c.put-m.ensures c.put_number.ensures) (signed_below _ c.if-x-ge2147483648.true (search rules))

pub returns : goal.returns
returns c = same_text c.put_number-2.ensures (signed_above _ c.if-x-ge2147483648.false)
