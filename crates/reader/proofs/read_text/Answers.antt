use Rattle.reading.proofs.Answering.{short_rows, short_strings, short_bits, short_work, all_long}
use Rattle.reader.proofs.read_text.Goals as goal

pub returns-then-rows-lt26307 : goal.returns-then-rows-lt26307
returns-then-rows-lt26307 c = let a = c.args in
    rw c.too_short.ensures (short_rows a.text.now a.rows.now a.strings.now a.bits.now a.work.now c.if-rows-lt26307.true)

pub returns-then-strings-lt16384 : goal.returns-then-strings-lt16384
returns-then-strings-lt16384 c = let a = c.args in
    rw c.too_short-then-strings-lt16384.ensures (short_strings a.text.now a.rows.now a.strings.now a.bits.now a.work.now c.if-rows-lt26307.false c.if-strings-lt16384.true)

pub returns-then-bits-lt393728 : goal.returns-then-bits-lt393728
returns-then-bits-lt393728 c = let a = c.args in
    rw c.too_short-then-bits-lt393728.ensures (short_bits a.text.now a.rows.now a.strings.now a.bits.now a.work.now c.if-rows-lt26307.false c.if-strings-lt16384.false c.if-bits-lt393728.true)

pub returns-then-work-lt132608 : goal.returns-then-work-lt132608
returns-then-work-lt132608 c = let a = c.args in
    rw c.too_short-then-work-lt132608.ensures (short_work a.text.now a.rows.now a.strings.now a.bits.now a.work.now c.if-rows-lt26307.false c.if-strings-lt16384.false c.if-bits-lt393728.false c.if-work-lt132608.true)

pub returns : goal.returns
returns c = let a = c.args in
    all_long a.text.now a.rows.now a.strings.now a.bits.now a.work.now c.if-rows-lt26307.false c.if-strings-lt16384.false c.if-bits-lt393728.false c.if-work-lt132608.false c.read_past.ensures
