use mathlib.Core.Path.{ap}
use Rattle.reading.specs.Outcome.{Outcome, behind_rows, behind_strings, behind_bits, behind_work}
use Rattle.reader.proofs.read_past.Goals as goal

pub returns : goal.returns
returns c = let a = c.args in
    rw (c.trits_end-trits.ensures, c.work_end-end.ensures)
    (ap (λ (o : Outcome). behind_rows a.rows.now (behind_strings a.strings.now (behind_bits a.bits.now (behind_work a.work.now o)))) c.read_in.ensures)
