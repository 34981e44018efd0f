use Rattle.ground.proofs.Tests.{tests}
use Rattle.running.proofs.slots.gate_of.Goals as goal

pub returns-then-op-eq5 : goal.returns-then-op-eq5
returns-then-op-eq5 c = search (tests, ← c.and3.ensures)

pub returns-then-op-eq6 : goal.returns-then-op-eq6
returns-then-op-eq6 c = search (tests, ← c.or3.ensures)

pub returns-then-op-eq7 : goal.returns-then-op-eq7
returns-then-op-eq7 c = search (tests, ← c.xor3.ensures)

pub returns : goal.returns
returns c = search tests
