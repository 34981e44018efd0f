use Rattle.std.proofs.lemmas.Result.{err_from_is_err_and}
use mathlib.Core.Path.{ap, sym, ◌∙◌}
use native.Mathlib.Omega.{arith}
use lib.ListN.{length}
use Rattle.ground.proofs.Regions.{length_zeros}
use Rattle.scanning.proofs.Sequences.{sound_short}
use Rattle.reading.proofs.Answering.{sound_read, unsound_read}
use Rattle.reader.proofs.read_blank.Goals as goal

pub read_sound-r-requires : goal.read_sound-r-requires
read_sound-r-requires c = let p = c in
    (sound_short p.args.text.now (sym c.whole.ensures ∙ c.in_ok-whole.was), p.requires.0, p.requires.1)

pub cleared-requires : goal.cleared-requires
cleared-requires c = let p = c.requires in
    let k = c.read_sound-r.auto in
    (omega (arith, k, ap length p.0.rows, length_zeros 26307), omega (arith, k, ap length p.1, length_zeros 16384), omega (arith, k, ap length p.0.bits, length_zeros 393728))

pub returns-in_err-whole : goal.returns-in_err-whole
returns-in_err-whole c = let p = c in
    let q = err_from_is_err_and c.from_residual.result c.from_residual.ensures.1 in
    rw (q.1, q.2, p.requires.0.rows, p.requires.0.bits, p.requires.1) (unsound_read p.args.text.now _ (sym c.whole.ensures ∙ c.in_err-whole.was))

pub returns : goal.returns
returns c = sound_read c.args.text.now (sym c.whole.ensures ∙ c.in_ok-whole.was) c.read_sound-r.ensures c.cleared.ensures
