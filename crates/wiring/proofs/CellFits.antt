-- The operands of a cell of good form that passes its width rule: none is wider than 256, and each that is written has a bit, so it
-- begins inside the text.
-- Assumes nothing.
use mathlib.Core.Path.{◌≡◌, refl, sym, ap, ◌∙◌}
use mathlib.Core.Bool.{Bool, true, false, ◌&&◌}
use mathlib.Core.List.{List}
use Prim.Native.Nat.{ℕ, ◌+◌, ◌<◌, ◌≤◌}
use Prim.Native.String.{String}
use native.Mathlib.Omega.{arith}
use lib.Dec.{leb, eqb}
use lib.ListN.{length}
use borrow.Author.Tests.{eqb-true, leb-true, lt-leb}
use Rattle.ground.specs.Choice.{pick}
use Rattle.ground.proofs.Bools.{bool_cases, and_true, never_both}
use Rattle.kinds.specs.Kinds.{Kind, wide, alike, all_alike, compared, output, mux, adc, kind_at}
use Rattle.kinds.proofs.Widths.{each_kind, wide_is, Fits, bounded}
use Rattle.brackets.specs.Parts.{parts_at}
use Rattle.brackets.specs.declared.Operand.{Operand}
use Rattle.form.specs.declared.Wiring.{Wiring}
use Rattle.brackets.proofs.Sums.{widths}
use Rattle.noting.specs.Formed.{OperandIn, WiringIn}
use Rattle.wiring.proofs.CellPlaces.{operand_inside, operand_none}

-- what a width rule gives of each operand
record Each (k : Kind) (a b c : ℕ) : Type 0 where
  a_most : a ≤ 256
  b_most : b ≤ 256
  c_most : c ≤ 256
  a_some : 1 ≤ k.operands → 1 ≤ a
  b_some : 2 ≤ k.operands → 1 ≤ b
  c_some : 3 ≤ k.operands → 1 ≤ c

abbrev Eached : Kind → Type 0
Eached k = (w a b c : ℕ) → Fits k w a b c → Each k a b c

module _ (k : Kind) (w a b c : ℕ) (f : Fits k w a b c) where
  none_each : k.operands ≡ 0 → Each k a b c
  none_each e = let x = f.first (omega arith) in let y = f.second (omega arith) in let z = f.third (omega arith) in
      record { a_most = omega arith; b_most = omega arith; c_most = omega arith; a_some = λ h. omega arith; b_some = λ h. omega arith; c_some = λ h. omega arith }

  one_each : k.operands ≡ 1 → wide a ≡ true → Each k a b c
  one_each e h = let x = wide_is a h in let y = f.second (omega arith) in let z = f.third (omega arith) in
      record { a_most = omega arith; b_most = omega arith; c_most = omega arith; a_some = λ h. omega arith; b_some = λ h. omega arith; c_some = λ h. omega arith }

  two_each : k.operands ≡ 2 → wide a ≡ true → b ≡ a → Each k a b c
  two_each e h s = let x = wide_is a h in let z = f.third (omega arith) in
      record { a_most = omega arith; b_most = omega arith; c_most = omega arith; a_some = λ h. omega arith; b_some = λ h. omega arith; c_some = λ h. omega arith }

  three_each : wide a ≡ true → wide b ≡ true → wide c ≡ true → Each k a b c
  three_each p q r = let x = wide_is a p in let y = wide_is b q in let z = wide_is c r in
      record { a_most = omega arith; b_most = omega arith; c_most = omega arith; a_some = λ h. omega arith; b_some = λ h. omega arith; c_some = λ h. omega arith }

alike_each : (k : Kind) → k.operands ≡ 1 → (w a b c : ℕ) → alike w a b c ≡ true → Fits k w a b c → Each k a b c
alike_each k e w a b c h f =
    let r = and_true (wide w) (eqb a w) h in
    one_each k w a b c f e (rw (eqb-true a w r.1) r.0)

all_each : (k : Kind) → k.operands ≡ 2 → (w a b c : ℕ) → all_alike w a b c ≡ true → Fits k w a b c → Each k a b c
all_each k e w a b c h f =
    let r = and_true (wide w) (eqb a w && eqb b w) h in
    let s = and_true (eqb a w) (eqb b w) r.1 in
    two_each k w a b c f e (rw (eqb-true a w s.0) r.0) (eqb-true b w s.1 ∙ sym (eqb-true a w s.0))

compared_each : (k : Kind) → k.operands ≡ 2 → (w a b c : ℕ) → compared w a b c ≡ true → Fits k w a b c → Each k a b c
compared_each k e w a b c h f =
    let r = and_true (eqb w 1) (wide a && eqb b a) h in
    let s = and_true (wide a) (eqb b a) r.1 in
    two_each k w a b c f e s.0 (eqb-true b a s.1)

output_each : Eached output
output_each w a b c f = one_each output w a b c f refl (and_true (eqb w 0) (wide a) f.widths).1

mux_each : Eached mux
mux_each w a b c f =
    let r = and_true (wide w) (eqb a 1 && (eqb b w && eqb c w)) f.widths in
    let s = and_true (eqb a 1) (eqb b w && eqb c w) r.1 in
    let t = and_true (eqb b w) (eqb c w) s.1 in
    three_each mux w a b c f (rw (eqb-true a 1 s.0)) (rw (eqb-true b w t.0) r.0) (rw (eqb-true c w t.1) r.0)

adc_each : Eached adc
adc_each w a b c f =
    let r = and_true (wide w) (wide a && (eqb b a && (eqb c 1 && eqb w (a + 1)))) f.widths in
    let s = and_true (wide a) (eqb b a && (eqb c 1 && eqb w (a + 1))) r.1 in
    let t = and_true (eqb b a) (eqb c 1 && eqb w (a + 1)) s.1 in
    let u = and_true (eqb c 1) (eqb w (a + 1)) t.1 in
    three_each adc w a b c f s.0 (rw (eqb-true b a t.0) s.0) (rw (eqb-true c 1 u.0))

each : (n : ℕ) → Eached (kind_at n)
each n =
    each_kind Eached
    (λ w a b c f. none_each _ w a b c f refl)
    output_each
    (λ w a b c f. alike_each _ refl w a b c f.widths f)
    (λ w a b c f. alike_each _ refl w a b c f.widths f)
    (λ v w a b c f. all_each _ refl w a b c f.widths f)
    mux_each adc_each
    (λ w a b c f. compared_each _ refl w a b c f.widths f)
    (λ v w a b c f. compared_each _ refl w a b c f.widths f)
    (λ w a b c f. none_each _ w a b c f refl) n

-- an operand that the keyword does not have is 0 wide
unused : (text : List ℕ) (n k : ℕ) (o : Operand) → OperandIn text (leb n k) o → k < n → o.width ≡ 0
unused text n k o h l = h.width ∙ operand_none text o (h.given ∙ lt-leb n k l)

-- one that is written begins inside the text
begins : (text : List ℕ) (n k : ℕ) (o : Operand) → OperandIn text (leb n k) o → (n ≤ k → 1 ≤ o.width) → o.given ≡ true → o.at < length text
begins text n k o h some g = operand_inside text o (let s = some (leb-true n k (sym h.given ∙ g)) in omega (arith, h.width))

-- A CELL that passes its width rule
pub record Fitting (text : List ℕ) (w : Wiring) : Type 0 where
  pub all : w.a.width + w.b.width + w.c.width ≤ 513
  pub a_most : w.a.width ≤ 256
  pub b_most : w.b.width ≤ 256
  pub c_most : w.c.width ≤ 256
  pub a_at : w.a.given ≡ true → w.a.at < length text
  pub b_at : w.b.given ≡ true → w.b.at < length text
  pub c_at : w.c.given ≡ true → w.c.at < length text

pub fitting : (text : List ℕ) (w : Wiring) → WiringIn text w → (kind_at w.kind).widths w.width w.a.width w.b.width w.c.width ≡ true → Fitting text w
fitting text w i h =
    let k = (kind_at w.kind).operands in
    let f : Fits (kind_at w.kind) w.width w.a.width w.b.width w.c.width = record {
      widths = h;
      first = unused text 1 k w.a i.a;
      second = unused text 2 k w.b i.b;
      third = unused text 3 k w.c i.c;
    } in
    let e = each w.kind w.width w.a.width w.b.width w.c.width f in
    record {
      all = bounded w.kind w.width w.a.width w.b.width w.c.width f;
      a_most = e.a_most;
      b_most = e.b_most;
      c_most = e.c_most;
      a_at = begins text 1 k w.a i.a e.a_some;
      b_at = begins text 2 k w.b i.b e.b_some;
      c_at = begins text 3 k w.c i.c e.c_some;
    }
