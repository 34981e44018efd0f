use Rattle.hexlines.proofs.Falls.{left}
use Rattle.hexlines.proofs.tell_list.Given as goal

abbrev pub decreases-loop-reader : goal.decreases-loop-reader
decreases-loop-reader g l = left l.reader
