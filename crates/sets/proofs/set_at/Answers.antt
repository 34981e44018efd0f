use Rattle.std.proofs.Common.{rules, ◌≡◌, ◌+◌, ◌-◌, ◌<◌, Err, length}
use Rattle.brackets.proofs.Shorts.{member_short}
use Rattle.brackets.proofs.Measures.{member_refused, member_took, member_other, set_none, set_took, set_other, set_refused}
use Rattle.brackets.specs.Parts.{set_from, set_end}
use native.Mathlib.Omega.{arith}
use mathlib.Core.Path.{sym, ◌∙◌, ap}
use Prim.Native.Nat.{ℕ, suc}
use Rattle.sets.proofs.set_at.Goals as goal

-- one turn less is left behind each member
fewer : (n i : ℕ) → i < n + 1 → n + 1 - (i + 1) ≡ n + 1 - i - 1
fewer n i h = omega arith

pub loop-count-init : goal.loop-count-init
loop-count-init c =
    let all : length c.args.text.now + 1 - 0 ≡ suc (length c.args.text.now) = omega arith in
    ap (λ (n : ℕ). set_from n c.args.text.now 0 c.args.reader.next.at) all

pub loop-count-preserved-in-Some : goal.loop-count-preserved-in-Some
loop-count-preserved-in-Some c =
    let text = c.args.text.now in
    let l = c.loop-count in
    let told = member_short text l.next.next.at _ (sym c.in-Some.ensures) in
    rw (fewer (length text) l.count c.loop-count-test.true)
    (set_took (length text + 1 - l.count) text l.count l.next.next.at (omega arith) _ _ told ∙ l.invariant)

pub returns-else-is_sort : goal.returns-else-is_sort
returns-else-is_sort c =
    let text = c.args.text.now in
    let l = c.loop-count in
    let told = member_other text l.next.next.at _ _ (sym c.inside_with.ensures ∙ c.in_ok-token.was) (sym c.is_sort.ensures ∙ c.if-is_sort.false) in
    c.set_end.ensures ∙ ap (λ (n : ℕ). set_end n c.in_ok-token.token c.in_ok-token.r) (omega arith) ∙ set_other (length text + 1 - l.count) text l.count l.next.next.at (omega arith) _ _ told ∙ l.invariant

pub returns-in_err-token : goal.returns-in_err-token
returns-in_err-token c =
    let text = c.args.text.now in
    let l = c.loop-count in
    let told = member_refused text l.next.next.at _ (sym c.inside_with.ensures ∙ c.in_err-token.was) in
    let e : c.from_residual.result ≡ Err c.in_err-token.field-0.0 = search rules in
    e ∙ set_refused (length text + 1 - l.count) text l.count l.next.next.at (omega arith) _ told ∙ l.invariant

pub loop-count-preserved : goal.loop-count-preserved
loop-count-preserved c =
    let text = c.args.text.now in
    let l = c.loop-count in
    let told = member_took text l.next.next.at _ _ (sym c.inside_with.ensures ∙ c.in_ok-token.was) (sym c.is_sort.ensures ∙ c.if-is_sort.true) in
    rw (fewer (length text) l.count c.loop-count-test.true)
    (set_took (length text + 1 - l.count) text l.count l.next.next.at (omega arith) _ _ told ∙ l.invariant)

pub returns : goal.returns
returns c =
    let text = c.args.text.now in
    let l = c.loop-count in
    set_none (length text + 1 - l.count) text l.count l.next.next.at (omega arith) ∙ l.invariant
