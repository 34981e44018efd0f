-- What the width rules give of every kind.
use mathlib.Core.Path.{◌≡◌, refl}
use mathlib.Core.Bool.{Bool, true, false, ◌&&◌}
use Prim.Native.Nat.{ℕ, ◌+◌, ◌<◌, ◌≤◌}
use Prim.Native.String.{String}
use native.Mathlib.Omega.{arith}
use lib.Dec.{eqb, leb}
use borrow.Author.Tests.{eqb-true, eqb-false, leb-true}
use Rattle.ground.specs.Choice.{pick}
use Rattle.ground.proofs.Bools.{and_true, bool_cases}
use Rattle.ground.proofs.Outcome.{any_two}
use Rattle.kinds.specs.Kinds.{Kind, wide, input, output, alike, all_alike, compared, buf, inverter, gate, mux, adc, eq, less, no_kind, kind_at}

-- a fact of both ways of a choice holds of the choice
pub picked : {A : Type 0} (P : A → Type 0) (b : Bool) (x y : A) → P x → P y → P (pick b x y)
picked P true x y p q = p
picked P false x y p q = q

-- a fact of every kind, shown of each line of the table
pub each_kind : (P : Kind → Type 0) → P input → P output → P buf → P inverter → ((w : String) → P (gate w)) → P mux → P adc → P eq → ((w : String) → P (less w)) → P no_kind → (n : ℕ) → P (kind_at n)
unfolding kind_at
each_kind P i o b v g m a e l z n =
    picked P (eqb n 1) _ _ i (picked P (eqb n 2) _ _ o (picked P (eqb n 3) _ _ b (picked P (eqb n 4) _ _ v
    (picked P (eqb n 5) _ _ (g "and") (picked P (eqb n 6) _ _ (g "or") (picked P (eqb n 7) _ _ (g "xor")
    (picked P (eqb n 8) _ _ m (picked P (eqb n 9) _ _ a (picked P (eqb n 10) _ _ e
    (picked P (eqb n 11) _ _ (l "ult") (picked P (eqb n 12) _ _ (l "slt") z)))))))))))

pub wide_is : (n : ℕ) → wide n ≡ true → (1 ≤ n) × (n ≤ 256)
wide_is n h = let p = and_true (leb 1 n) (leb n 256) h in (leb-true _ _ p.0, leb-true _ _ p.1)

-- operands that pass the width rule, where a kind's unused ones are empty
pub record Fits (k : Kind) (w a b c : ℕ) : Type 0 where
  pub widths : k.widths w a b c ≡ true
  pub first : k.operands < 1 → a ≡ 0
  pub second : k.operands < 2 → b ≡ 0
  pub third : k.operands < 3 → c ≡ 0

-- what a cell reads is at most 513 bits wide in all
abbrev Bounded : Kind → Type 0
Bounded k = (w a b c : ℕ) → Fits k w a b c → a + b + c ≤ 513

alike_bounded : (w a b c : ℕ) → alike w a b c ≡ true → b ≡ 0 → c ≡ 0 → a + b + c ≤ 513
alike_bounded w a b c h p q =
    let r = and_true (wide w) (eqb a w) h in
    omega (arith, wide_is w r.0, eqb-true a w r.1)

all_bounded : (w a b c : ℕ) → all_alike w a b c ≡ true → c ≡ 0 → a + b + c ≤ 513
all_bounded w a b c h q =
    let r = and_true (wide w) (eqb a w && eqb b w) h in
    let s = and_true (eqb a w) (eqb b w) r.1 in
    omega (arith, wide_is w r.0, eqb-true a w s.0, eqb-true b w s.1)

compared_bounded : (w a b c : ℕ) → compared w a b c ≡ true → c ≡ 0 → a + b + c ≤ 513
compared_bounded w a b c h q =
    let r = and_true (eqb w 1) (wide a && eqb b a) h in
    let s = and_true (wide a) (eqb b a) r.1 in
    omega (arith, wide_is a s.0, eqb-true b a s.1)

mux_bounded : Bounded mux
mux_bounded w a b c f =
    let r = and_true (wide w) (eqb a 1 && (eqb b w && eqb c w)) f.widths in
    let s = and_true (eqb a 1) (eqb b w && eqb c w) r.1 in
    let t = and_true (eqb b w) (eqb c w) s.1 in
    omega (arith, wide_is w r.0, eqb-true a 1 s.0, eqb-true b w t.0, eqb-true c w t.1)

adc_bounded : Bounded adc
adc_bounded w a b c f =
    let r = and_true (wide w) (wide a && (eqb b a && (eqb c 1 && eqb w (a + 1)))) f.widths in
    let s = and_true (wide a) (eqb b a && (eqb c 1 && eqb w (a + 1))) r.1 in
    let t = and_true (eqb b a) (eqb c 1 && eqb w (a + 1)) s.1 in
    let u = and_true (eqb c 1) (eqb w (a + 1)) t.1 in
    omega (arith, wide_is a s.0, eqb-true b a t.0, eqb-true c 1 u.0)

output_bounded : Bounded output
output_bounded w a b c f =
    let r = and_true (eqb w 0) (wide a) f.widths in
    omega (arith, wide_is a r.1, f.second (omega arith), f.third (omega arith))

pub bounded : (n w a b c : ℕ) → Fits (kind_at n) w a b c → a + b + c ≤ 513
bounded n =
    each_kind Bounded
    (λ w a b c f. omega (arith, f.first (omega arith), f.second (omega arith), f.third (omega arith)))
    output_bounded
    (λ w a b c f. alike_bounded w a b c f.widths (f.second (omega arith)) (f.third (omega arith)))
    (λ w a b c f. alike_bounded w a b c f.widths (f.second (omega arith)) (f.third (omega arith)))
    (λ v w a b c f. all_bounded w a b c f.widths (f.third (omega arith)))
    mux_bounded adc_bounded
    (λ w a b c f. compared_bounded w a b c f.widths (f.third (omega arith)))
    (λ v w a b c f. compared_bounded w a b c f.widths (f.third (omega arith)))
    (λ w a b c f. omega (arith, f.first (omega arith), f.second (omega arith), f.third (omega arith))) n

-- THE RULES as the code tests them
pub and_more : (x y z : Bool) → x && (y && z) ≡ (x && y) && z
and_more true y z = refl
and_more false y z = refl

pub and_none : (x : Bool) → false ≡ x && false
and_none true = refl
and_none false = refl

-- the rules of the kinds that share one, by their numbers
module _ (w a b c : ℕ) where
  pub alike_at : (n : ℕ) → 3 ≤ n → n < 5 → alike w a b c ≡ (kind_at n).widths w a b c
  unfolding kind_at
  alike_at n h l = bool_cases (eqb n 3) (λ e. rw (eqb-true n 3 e)) (λ e. let m : n ≡ 4 = (let d = eqb-false n 3 e in omega arith) in rw m)

  pub gate_at : (n : ℕ) → 5 ≤ n → n < 8 → all_alike w a b c ≡ (kind_at n).widths w a b c
  unfolding kind_at
  gate_at n h l = bool_cases (eqb n 5) (λ e. rw (eqb-true n 5 e)) (λ e. bool_cases (eqb n 6) (λ f. rw (eqb-true n 6 f))
      (λ f. let m : n ≡ 7 = (let d = eqb-false n 5 e in let g = eqb-false n 6 f in omega arith) in rw m))

  pub compared_at : (n : ℕ) → 10 ≤ n → n < 13 → compared w a b c ≡ (kind_at n).widths w a b c
  unfolding kind_at
  compared_at n h l = bool_cases (eqb n 10) (λ e. rw (eqb-true n 10 e)) (λ e. bool_cases (eqb n 11) (λ f. rw (eqb-true n 11 f))
      (λ f. let m : n ≡ 12 = (let d = eqb-false n 10 e in let g = eqb-false n 11 f in omega arith) in rw m))

-- the contract of `fits` allows one answer
pub one_fit : (w a b c n : ℕ) (o p : Bool) → o ≡ (kind_at n).widths w a b c → p ≡ (kind_at n).widths w a b c → o ≡ p
one_fit w a b c = any_two (λ n. (kind_at n).widths w a b c)

-- .. and that of `wide`
pub one_wide : (n : ℕ) (o p : Bool) → o ≡ wide n → p ≡ wide n → o ≡ p
one_wide = any_two wide
