use mathlib.Core.Path.{◌∙◌}
use Rattle.lexis.proofs.Links.{special_some}
use Rattle.form.proofs.Shorts.{mark_short}
use Rattle.form.proofs.forms.mark_at.Goals as goal

pub byte_with-end-requires : goal.byte_with-end-requires
byte_with-end-requires c = let p = c in special_some p.args.b p.requires

pub returns-then-end-gt0 : goal.returns-then-end-gt0
returns-then-end-gt0 c =
    let p = c in
    let a = p.args in
    let e = c.byte_with-end in
    c.mark_before.ensures ∙ mark_short a.text.now a.reader.next.at a.b e.result e.ensures c.if-end-gt0.true p.requires
