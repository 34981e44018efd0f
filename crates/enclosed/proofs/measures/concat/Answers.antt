use Rattle.std.proofs.Common.{rules, ◌≡◌, ◌+◌, ◌-◌, Err, length}
use Rattle.brackets.proofs.Widths.{inside_narrow}
use Rattle.brackets.proofs.Measures.{part_refused, part_took, part_other, concat_none, concat_took, concat_other, concat_refused}
use Rattle.brackets.specs.Parts.{concat_from}
use native.Mathlib.Omega.{arith}
use mathlib.Core.Path.{sym, ◌∙◌, ap}
use Prim.Native.Nat.{ℕ, suc}
use Rattle.enclosed.proofs.measures.concat.Goals as goal

pub loop-i-init : goal.loop-i-init
loop-i-init c =
    let all : length c.args.text.now + 1 - 0 ≡ suc (length c.args.text.now) = omega arith in
    (omega arith, ap (λ (n : ℕ). concat_from n c.args.text.now 0 c.args.reader.next.at) all)

pub token_width-width-requires : goal.token_width-width-requires
token_width-width-requires c =
    (inside_narrow c.args.text.now c.loop-i.next.next.at c.requires _ _ (sym c.inside_with.ensures ∙ c.in_ok-token.was)).width
    (sym c.is_part.ensures ∙ c.if-is_part.true)

pub overflow_add-width : goal.overflow_add-width
overflow_add-width c =
    let n = (inside_narrow c.args.text.now c.loop-i.next.next.at c.requires _ _ (sym c.inside_with.ensures ∙ c.in_ok-token.was)).width
    (sym c.is_part.ensures ∙ c.if-is_part.true) in
    omega (arith, n, c.token_width-width.ensures)

pub returns-else-is_part : goal.returns-else-is_part
returns-else-is_part c =
    let text = c.args.text.now in
    let l = c.loop-i in
    let told = part_other text l.next.next.at _ _ (sym c.inside_with.ensures ∙ c.in_ok-token.was) (sym c.is_part.ensures ∙ c.if-is_part.false) in
    c.concat_end.ensures ∙ concat_other (length text + 1 - l.i) text l.width l.next.next.at (omega arith) _ _ told ∙ l.invariant.1

pub returns-in_err-token : goal.returns-in_err-token
returns-in_err-token c =
    let text = c.args.text.now in
    let l = c.loop-i in
    let told = part_refused text l.next.next.at _ (sym c.inside_with.ensures ∙ c.in_err-token.was) in
    let e : c.from_residual.result ≡ Err c.in_err-token.field-0.0 = search rules in
    e ∙ concat_refused (length text + 1 - l.i) text l.width l.next.next.at (omega arith) _ told ∙ l.invariant.1

pub loop-i-preserved : goal.loop-i-preserved
loop-i-preserved c =
    let text = c.args.text.now in
    let l = c.loop-i in
    let told = sym c.inside_with.ensures ∙ c.in_ok-token.was in
    let is = sym c.is_part.ensures ∙ c.if-is_part.true in
    let n = (inside_narrow text l.next.next.at c.requires _ _ told).width is in
    let fewer : length text + 1 - (l.i + 1) ≡ length text + 1 - l.i - 1 = omega arith in (
      omega (arith, n, c.token_width-width.ensures),
      rw (c.token_width-width.ensures, fewer) (concat_took (length text + 1 - l.i) text l.width l.next.next.at (omega arith) _ _ _ (part_took text l.next.next.at _ _ told is) ∙ l.invariant.1),
    )

pub returns : goal.returns
returns c =
    let text = c.args.text.now in
    let l = c.loop-i in
    concat_none (length text + 1 - l.i) text l.width l.next.next.at (omega arith) ∙ l.invariant.1
