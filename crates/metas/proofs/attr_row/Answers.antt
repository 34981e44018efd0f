use Rattle.noting.specs.Formed.{PayloadIn}
use mathlib.Core.Path.{subst}
use Rattle.metas.proofs.attr_row.Goals as goal

pub spot_of-requires : goal.spot_of-requires
spot_of-requires c = let s = c in (s.requires.0, subst (PayloadIn s.args.text.now) c.in-Text.is s.requires.2)

pub returns-in-Bits : goal.returns-in-Bits
returns-in-Bits c = rw (c.constant_row.ensures, c.spot_of-spot.ensures, c.in-Bits.is)

pub returns-in-Integer : goal.returns-in-Integer
returns-in-Integer c = rw (c.plain_row.ensures, c.spot_of-spot.ensures, c.in-Integer.is)

pub returns-in-Text : goal.returns-in-Text
returns-in-Text c = rw (c.string_row.ensures, c.spot_of.ensures, c.spot_of-spot.ensures, c.in-Text.is)
