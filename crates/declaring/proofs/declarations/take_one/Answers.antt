use Rattle.std.proofs.lemmas.Result.{err_from_is_err_and}
use Rattle.declaring.proofs.Declaring.{one_refused, one_more}
use Rattle.declaring.proofs.declarations.take_one.Goals as goal

pub returns-in_err-m : goal.returns-in_err-m
returns-in_err-m c = let q = err_from_is_err_and c.from_residual.result c.from_residual.ensures.1 in rw (q.1, q.2) (one_refused c.args.reader c.note.ensures _ c.in_err-m.was)

pub returns : goal.returns
returns c = one_more c.args.reader c.note.ensures _ c.in_ok-m.was
