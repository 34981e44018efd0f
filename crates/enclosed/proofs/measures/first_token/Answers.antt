use mathlib.Core.Path.{sym, ◌∙◌}
use Rattle.lexis.proofs.Links.{bracket_special}
use Rattle.brackets.proofs.Shorts.{byte_mark}
use Rattle.enclosed.proofs.measures.first_token.Goals as goal

pub returns-then-end-gt0 : goal.returns-then-end-gt0
returns-then-end-gt0 c =
    let p = c in
    let a = p.args in
    let e = c.byte_with-end in
    c.mark_before.ensures ∙ sym (byte_mark a.text.now a.reader.next.at 91 e.result e.ensures c.if-end-gt0.true bracket_special)
