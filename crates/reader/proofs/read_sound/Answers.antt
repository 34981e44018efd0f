use Rattle.std.proofs.lemmas.Result.{err_from_is_err_and}
use Rattle.reading.proofs.Answering.{sound_stopped, sound_all}
use Rattle.reader.proofs.read_sound.Goals as goal

pub end_reading-requires : goal.end_reading-requires
end_reading-requires c = let p = c in
    (record { bits = _; whole = sound_all c.declarations.ensures _ c.in_ok-n.was }, p.requires.2)

pub returns-in_err-n : goal.returns-in_err-n
returns-in_err-n c = let q = err_from_is_err_and c.from_residual.result c.from_residual.ensures.1 in rw (q.1, q.2) (sound_stopped c.declarations.ensures _ c.in_err-n.was)

pub returns : goal.returns
returns c = c.end_reading.ensures.of _ (sound_all c.declarations.ensures _ c.in_ok-n.was)
