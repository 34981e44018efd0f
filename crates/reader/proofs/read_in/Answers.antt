use mathlib.Core.Path.{ap, ◌∙◌}
use native.Mathlib.Omega.{arith}
use Rattle.ground.specs.Regions.{zeros}
use Rattle.reader.proofs.read_in.Goals as goal

pub read_blank-r-requires : goal.read_blank-r-requires
read_blank-r-requires c = let p = c.requires in
    (record { rows = c.clear_words.ensures ∙ ap zeros p.0; bits = c.clear_bytes-2.ensures ∙ ap zeros p.2; work = c.clear_words-2.ensures ∙ ap zeros p.3 }, c.clear_bytes.ensures ∙ ap zeros p.1)

pub returns : goal.returns
returns c =
    let b = c.read_blank-r in
    rw (c.clear_words-3.ensures ∙ ap zeros {y = 132608} (omega (arith, b.auto, c.clear_words-2.auto.words, c.requires.3))) b.ensures
