use mathlib.Core.Path.{ap, ◌∙◌}
use Rattle.ground.specs.Regions.{zeros}
use Rattle.reading.proofs.Answering.{clears_none, clears_all}
use Rattle.reader.proofs.cleared.Goals as goal

pub returns-in-Ok : goal.returns-in-Ok
returns-in-Ok c = clears_none c.in-Ok.is

pub returns-in-Err : goal.returns-in-Err
returns-in-Err c = let p = c.requires in
    clears_all _ c.in-Err.is (c.clear_words.ensures ∙ ap zeros p.0) (c.clear_bytes.ensures ∙ ap zeros p.1) (c.clear_bytes-in-Err.ensures ∙ ap zeros p.2)
