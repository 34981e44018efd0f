use Rattle.noting.specs.Formed.{LabelIn}
use mathlib.Core.Path.{subst}
use Rattle.metas.proofs.scope_row.Goals as goal

pub spot_of-requires : goal.spot_of-requires
spot_of-requires c = let s = c in (s.requires.0, subst (LabelIn s.args.text.now) c.in-Named.is s.requires.1)

pub returns-in-Named : goal.returns-in-Named
returns-in-Named c = rw (c.plain_row.ensures, c.spot_of.ensures, c.in-Named.is)

pub returns-in-Indexed : goal.returns-in-Indexed
returns-in-Indexed c = rw (c.plain_row-in-Indexed.ensures, c.no_spot.ensures, c.in-Indexed.is)
