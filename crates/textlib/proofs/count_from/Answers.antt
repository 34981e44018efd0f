use Rattle.std.proofs.Common.{◌≡◌, ◌+◌, ◌-◌, Ok, Err, arith, rules, length}
use Rattle.textlib.specs.Told.{moved_by, counted}
use Rattle.textlib.proofs.Counting.{count_none, count_on, count_ended, count_stopped}
use mathlib.Core.Path.{sym, ◌∙◌, ap}
use Rattle.textlib.proofs.count_from.Goals as goal

pub returns-in_err-moved_by : goal.returns-in_err-moved_by
returns-in_err-moved_by c =
    let told = sym (c.moved_by.ensures ∙ ap moved_by c.next_with.ensures) ∙ c.in_err-moved_by.was in
    let e : c.from_residual.result ≡ Err c.in_err-moved_by.field-0.0 = search rules in
    rw e (count_stopped (length c.args.text.now + 1 - c.loop-tokens.tokens) c.args.text.now c.loop-tokens.tokens c.loop-tokens.at (omega arith) _ told ∙ c.loop-tokens.invariant)

pub returns-in-None : goal.returns-in-None
returns-in-None c =
    let told = sym (c.moved_by.ensures ∙ ap moved_by c.next_with.ensures) ∙ (c.in_ok-moved_by.was ∙ ap Ok c.in-None.is) in
    ap counted (omega arith) ∙ count_ended (length c.args.text.now + 1 - c.loop-tokens.tokens) c.args.text.now c.loop-tokens.tokens c.loop-tokens.at (omega arith) told ∙ c.loop-tokens.invariant

pub loop-tokens-preserved : goal.loop-tokens-preserved
loop-tokens-preserved c =
    let told = sym (c.moved_by.ensures ∙ ap moved_by c.next_with.ensures) ∙ (c.in_ok-moved_by.was ∙ ap Ok c.in-Some.is) in
    let left : length c.args.text.now + 1 - (c.loop-tokens.tokens + 1) ≡ length c.args.text.now + 1 - c.loop-tokens.tokens - 1 = omega arith in
    rw left (count_on (length c.args.text.now + 1 - c.loop-tokens.tokens) c.args.text.now c.loop-tokens.tokens c.loop-tokens.at (omega arith) _ told ∙ c.loop-tokens.invariant)

pub returns : goal.returns
returns c =
    let all : c.loop-tokens.tokens ≡ length c.args.text.now + 1 = omega arith in
    ap counted (sym all) ∙ count_none (length c.args.text.now + 1 - c.loop-tokens.tokens) c.args.text.now c.loop-tokens.tokens c.loop-tokens.at (omega arith) ∙ c.loop-tokens.invariant
