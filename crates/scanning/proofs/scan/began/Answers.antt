use Rattle.scanning.specs.Modes.{lacking}
use Rattle.scanning.proofs.Sequences.{lacking_some}
use Rattle.scanning.proofs.scan.began.Goals as goal

pub returns-then-mode-eq0 : goal.returns-then-mode-eq0
unfolding lacking
returns-then-mode-eq0 c = rw c.if-mode-eq0.true

pub returns-else-mode-eq0 : goal.returns-else-mode-eq0
unfolding lacking
returns-else-mode-eq0 c = rw (lacking_some _ c.if-mode-eq0.false)
