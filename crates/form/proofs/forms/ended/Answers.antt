use Rattle.form.proofs.Shorts.{line_short}
use Rattle.form.proofs.forms.ended.Goals as goal

pub returns-then-end-gt0 : goal.returns-then-end-gt0
returns-then-end-gt0 c =
    let a = c.args in
    let e = c.byte_with-end in
    line_short a.text.now a.reader.next.at e.result e.ensures c.if-end-gt0.true a.token a.decl
