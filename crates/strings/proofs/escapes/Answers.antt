use Rattle.strings.proofs.escapes.Goals as goal

pub returns-then-is_hex : goal.returns-then-is_hex
returns-then-is_hex c = rw (← c.byte_at.ensures, ← c.is_hex.ensures, c.if-is_hex.true, ← c.byte_at-then-is_hex.ensures) c.is_hex-then-is_hex.ensures

pub returns : goal.returns
returns c = rw (← c.byte_at.ensures, ← c.is_hex.ensures, c.if-is_hex.false)
