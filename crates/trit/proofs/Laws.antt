-- Laws of single gates: each is one computed test over all cases.
use mathlib.Core.Path.{◌≡◌}
use mathlib.Core.Bool.{Bool, true, false, ◌&&◌}
use Prim.Native.Nat.{ℕ, zero, suc, ◌<◌}
use native.Mathlib.Omega.{arith}
use lib.Dec.{T, eqb, leb, ltb, eqb→eq}
use Rattle.ground.specs.Choice.{pick}
use Rattle.ground.proofs.Bools.{and_first, and_second}
use Rattle.trit.specs.Trit.{not_of, and_of, or_of, xor_of, holds, count_of, carry_of}
use Rattle.trit.specs.Gates.{mux_gate, carry_gates}

-- a test at each of the three trits
abbrev pub each : (ℕ → Bool) → Bool
each P = P 0 && (P 1 && P 2)

pub each_at : (P : ℕ → Bool) → T (each P) → (a : ℕ) → a < 3 → T (P a)
each_at P t zero h = and_first (P 0) _ t
each_at P t (suc zero) h = and_first (P 1) (P 2) (and_second (P 0) _ t)
each_at P t (suc (suc zero)) h = and_second (P 1) (P 2) (and_second (P 0) _ t)
each_at P t (suc (suc (suc n))) h = absurd (omega arith)

-- two functions agree at all trits
abbrev pub same1 : (f g : ℕ → ℕ) → Bool
same1 f g = each (λ a. eqb (f a) (g a))

abbrev pub same2 : (f g : ℕ → ℕ → ℕ) → Bool
same2 f g = each (λ a. same1 (f a) (g a))

abbrev pub same3 : (f g : ℕ → ℕ → ℕ → ℕ) → Bool
same3 f g = each (λ a. same2 (f a) (g a))

-- the laws that such a test gives: `law2 f g tt`
pub law1 : (f g : ℕ → ℕ) → T (same1 f g) → (a : ℕ) → a < 3 → f a ≡ g a
law1 f g t a h = eqb→eq (f a) (g a) (each_at (λ x. eqb (f x) (g x)) t a h)

pub law2 : (f g : ℕ → ℕ → ℕ) → T (same2 f g) → (a b : ℕ) → a < 3 → b < 3 → f a b ≡ g a b
law2 f g t a b ha hb = law1 (f a) (g a) (each_at (λ x. same1 (f x) (g x)) t a ha) b hb

pub law3 : (f g : ℕ → ℕ → ℕ → ℕ) → T (same3 f g) → (a b c : ℕ) → a < 3 → b < 3 → c < 3 → f a b c ≡ g a b c
law3 f g t a b c ha hb hc = law2 (f a) (g a) (each_at (λ x. same2 (f x) (g x)) t a ha) b c hb hc

-- every gate gives a trit, of any numbers
pub pick_trit : {a b : ℕ} (t : Bool) → a < 3 → b < 3 → pick t a b < 3
pick_trit true p q = p
pick_trit false p q = q

pub zero_trit : 0 < 3
zero_trit = omega arith

pub one_trit : 1 < 3
one_trit = omega arith

pub x_trit : 2 < 3
x_trit = omega arith

pub not_trit : (a : ℕ) → not_of a < 3
unfolding not_of
not_trit a = pick_trit (eqb a 0) one_trit (pick_trit (eqb a 1) zero_trit x_trit)

pub and_trit : (a b : ℕ) → and_of a b < 3
unfolding and_of
and_trit a b = pick_trit (eqb a 0) zero_trit (pick_trit (eqb b 0) zero_trit (pick_trit (ltb 1 a) x_trit (pick_trit (ltb 1 b) x_trit one_trit)))

pub or_trit : (a b : ℕ) → or_of a b < 3
unfolding or_of
or_trit a b = pick_trit (eqb a 1) one_trit (pick_trit (eqb b 1) one_trit (pick_trit (ltb 1 a) x_trit (pick_trit (ltb 1 b) x_trit zero_trit)))

pub xor_trit : (a b : ℕ) → xor_of a b < 3
unfolding xor_of
xor_trit a b = pick_trit (ltb 1 a) x_trit (pick_trit (ltb 1 b) x_trit (pick_trit (eqb a b) zero_trit one_trit))

pub carry_trit : (a b c : ℕ) → carry_of a b c < 3
unfolding carry_of
carry_trit a b c = pick_trit (leb 2 (count_of 1 a b c)) one_trit (pick_trit (leb 2 (count_of 0 a b c)) zero_trit x_trit)

-- the order of a gate's operands does not matter
pub and_comm : (a b : ℕ) → a < 3 → b < 3 → and_of a b ≡ and_of b a
unfolding and_of
and_comm = law2 and_of (λ a b. and_of b a) tt

pub or_comm : (a b : ℕ) → a < 3 → b < 3 → or_of a b ≡ or_of b a
unfolding or_of
or_comm = law2 or_of (λ a b. or_of b a) tt

pub xor_comm : (a b : ℕ) → a < 3 → b < 3 → xor_of a b ≡ xor_of b a
unfolding xor_of
xor_comm = law2 xor_of (λ a b. xor_of b a) tt

-- the carry's four gates come to the carry rule
pub carry_gates_lem : (a b c : ℕ) → a < 3 → b < 3 → c < 3 → carry_gates a b c ≡ carry_of a b c
unfolding carry_gates and_of or_of carry_of count_of holds
carry_gates_lem = law3 carry_gates carry_of tt

-- mux on one bit
abbrev pub mux_of : ℕ → ℕ → ℕ → ℕ
mux_of s a b = pick (eqb s 1) a (pick (eqb s 0) b 2)

pub mux_gate_lem : (s a b : ℕ) → s < 3 → a < 3 → b < 3 → mux_gate s a b ≡ mux_of s a b
unfolding mux_gate not_of and_of or_of xor_of
mux_gate_lem = law3 mux_gate mux_of tt
