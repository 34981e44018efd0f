use Rattle.placing.proofs.Seeking.{Seeking}
use Rattle.placing.specs.InTables.{reads_in}
use Rattle.placing.specs.Marks.{placed_in, first_open}
use Rattle.placing.proofs.search.open_read.Given as goal

abbrev pub invariant-loop-k : goal.invariant-loop-k
invariant-loop-k l = Seeking l.runs l.n (placed_in l.marks) l.end (first_open l.n (placed_in l.marks) (reads_in l.cells l.runs l.row)) l.k
