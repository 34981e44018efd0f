use mathlib.Core.Path.{ap}
use mathlib.Core.List.{List, ◌++◌}
use Prim.Native.Nat.{ℕ}
use Rattle.celllines.proofs.Words.{word_fits, word_between}
use Rattle.writing.proofs.Stands.{same_text}
use Rattle.ground.specs.Text.{bytes}
use Rattle.writing.specs.Words.{text}
use Rattle.celllines.proofs.put_keyword.Goals as goal

pub put_part-requires : goal.put_part-requires
put_part-requires c = word_fits c.args.kind c.requires

pub returns : goal.returns
unfolding text bytes
returns c = same_text c.put_part.ensures (λ k. ap (λ (w : List ℕ). w ++ k) (word_between c.args.kind c.requires))
