use Rattle.scanning.specs.Modes.{lacking}
use Rattle.scanning.proofs.Plain.{skip_none}
use Rattle.scanning.proofs.scan.onward.Goals as goal

pub returns-then-mode-ne0 : goal.returns-then-mode-ne0
returns-then-mode-ne0 c = skip_none c.args.text.now (lacking c.args.mode) c.args.i c.requires

pub returns-then-b-eq10 : goal.returns-then-b-eq10
unfolding lacking
returns-then-b-eq10 c = rw c.if-mode-ne0.false c.past_plain.ensures

pub returns : goal.returns
unfolding lacking
returns c = rw c.if-mode-ne0.false c.past_bytes.ensures
