use mathlib.Core.Path.{sym, ◌∙◌}
use Rattle.laying.proofs.Walking.{at_none, at_refused, at_alone, at_within, alone_in, operand_fits, operand_laid, nothing_laid}
use Rattle.cellruns.proofs.lay_operand.Goals as goal

pub returns-in_default : goal.returns-in_default
returns-in_default c =
    let a = c.args in
    let w = at_refused a.text.now a.operand c.if-operand.true _ (sym c.first_token-step.ensures ∙ c.in_default.is) in
    operand_laid a.text.now a.operand w (nothing_laid a.text.now a.runs.now a.trits.now a.so)

pub lay_alone-requires : goal.lay_alone-requires
lay_alone-requires c =
    let a = c.args in
    let h = c.requires in
    let e = sym c.first_token-step.ensures ∙ c.in-Ok.is in
    let is = sym c.is_part.ensures ∙ c.if-is_part.true in
    let w = at_alone a.text.now a.operand c.if-operand.true _ _ e is in
    (alone_in a.text.now a.operand c.if-operand.true _ _ e is, operand_fits a.text.now a.operand w h.1 h.2 h.3)

pub returns-then-is_part : goal.returns-then-is_part
returns-then-is_part c =
    let a = c.args in
    let e = sym c.first_token-step.ensures ∙ c.in-Ok.is in
    let is = sym c.is_part.ensures ∙ c.if-is_part.true in
    let w = at_alone a.text.now a.operand c.if-operand.true _ _ e is in
    operand_laid a.text.now a.operand w c.lay_alone.ensures

pub lay_within-requires : goal.lay_within-requires
lay_within-requires c =
    let a = c.args in
    let h = c.requires in
    let e = sym c.first_token-step.ensures ∙ c.in-Ok.is in
    let not = sym c.is_part.ensures ∙ c.if-is_part.false in
    let w = at_within a.text.now a.operand c.if-operand.true _ _ e not in
    (h.0, operand_fits a.text.now a.operand w h.1 h.2 h.3)

pub returns-then-operand : goal.returns-then-operand
returns-then-operand c =
    let a = c.args in
    let e = sym c.first_token-step.ensures ∙ c.in-Ok.is in
    let not = sym c.is_part.ensures ∙ c.if-is_part.false in
    let w = at_within a.text.now a.operand c.if-operand.true _ _ e not in
    operand_laid a.text.now a.operand w c.lay_within.ensures

pub returns : goal.returns
returns c =
    let a = c.args in
    let w = at_none a.text.now a.operand c.if-operand.false in
    operand_laid a.text.now a.operand w (nothing_laid a.text.now a.runs.now a.trits.now a.so)
