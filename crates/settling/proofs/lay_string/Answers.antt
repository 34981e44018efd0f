use mathlib.Core.Path.{◌≡◌, sym, ap, ◌∙◌}
use Prim.Native.Nat.{ℕ, ◌+◌}
use lib.ListN.{length}
use Rattle.signs.specs.Pieces.{decoded}
use Rattle.settling.proofs.Strings.{spelled_none, spelled_some, string_laid}
use native.Mathlib.Omega.{arith}
use Rattle.settling.proofs.lay_string.Goals as goal

pub returns-then-size-eq0 : goal.returns-then-size-eq0
returns-then-size-eq0 c =
    let a = c.args in
    let z = c.if-size-eq0.true in
    (omega (arith, z), rw (spelled_none a.text.now a.at a.size z))

pub fill-requires : goal.fill-requires
fill-requires c =
    let p = c in
    let a = p.args in
    c.wide-3.ensures.0 ∙ p.requires.0 ∙ ap length (spelled_some a.text.now a.at a.size c.if-size-eq0.false)
    ∙ ap (λ (k : ℕ). length (decoded a.text.now k)) (sym c.wide-2.ensures.0)

pub returns : goal.returns
returns c =
    let p = c in
    let a = p.args in
    let w = c.wide in
    let at : c.wide-2.result ≡ a.at = c.wide-2.ensures.0 in (
      ap (λ (k : ℕ). a.s + k) w.ensures.0,
      string_laid a.text.now a.at a.size a.strings.now _ a.s (a.s + w.result) c.if-size-eq0.false p.requires.0 (ap (λ (k : ℕ). a.s + k) w.ensures.0) p.requires.1 (rw at at c.fill.ensures),
    )
