use mathlib.Core.Path.{◌∙◌}
use Rattle.pads.proofs.Named.{named_short, named_same}
use Rattle.pads.proofs.pad_named.Goals as goal

pub returns-then-strings-end : goal.returns-then-strings-end
returns-then-strings-end c = named_short c.args.strings.now c.args.pad c.args.name.now _ _ c.wide-start.ensures.0 c.wide.ensures.0 c.if-strings-end.true

pub returns : goal.returns
returns c = c.same_bytes.ensures ∙ named_same c.args.strings.now c.args.pad c.args.name.now _ _ c.wide-start.ensures.0 c.wide.ensures.0 c.if-strings-end.false
