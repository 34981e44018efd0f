-- Bit lists of any length: the single gates of mux, adc, eq, ult and slt come to their rules; lengths; results are trits.
use mathlib.Core.Path.{◌≡◌, refl, ap, ap₂, ◌∙◌, sym}
use mathlib.Core.Bool.{Bool, true, false, ◌&&◌, ◌||◌}
use mathlib.Core.List.{List, [], ◌∷◌, ◌++◌, map}
use Prim.Native.Nat.{ℕ, zero, suc, ◌+◌, ◌<◌}
use native.Mathlib.Omega.{arith}
use lib.Dec.{eqb}
use lib.ListN.{length, get_or, take, drop, replicate}
use Rattle.ground.specs.Choice.{pick}
use Rattle.trit.specs.Trit.{not_of, or_of, xor_of, carry_of, Trits}
use Rattle.trit.specs.Mux.{mux_bits}
use Rattle.trit.specs.Wide.{not_bits, pairs, adc_bits, clash, agree, some_clash, all_agree, eq_bit, ult_from, ult_bit, slt_from, slt_bit}
use Rattle.trit.specs.Gates.{mux_gate, mux_gates, adc_gates, eq_gates_from, eq_gates, ult_gates_from, ult_gates, slt_gates_from, slt_gates}
use Rattle.trit.proofs.Laws.{law1, law2, law3, pick_trit, zero_trit, one_trit, x_trit, not_trit, xor_trit, or_trit, carry_trit, carry_gates_lem, mux_of, mux_gate_lem}

-- Bit lists that hold trits

pub trits_map : (slot : ℕ → ℕ) → ((j : ℕ) → slot j < 3) → (xs : List ℕ) → Trits (map slot xs)
trits_map slot h [] = tt
trits_map slot h (x ∷ xs) = (h x, trits_map slot h xs)

pub trits_append : (xs ys : List ℕ) → Trits xs → Trits ys → Trits (xs ++ ys)
trits_append [] ys p q = q
trits_append (x ∷ xs) ys p q = (p.0, trits_append xs ys p.1 q)

pub trits_take : (n : ℕ) (xs : List ℕ) → Trits xs → Trits (take n xs)
trits_take zero xs p = tt
trits_take (suc n) [] p = tt
trits_take (suc n) (x ∷ xs) p = (p.0, trits_take n xs p.1)

pub trits_drop : (n : ℕ) (xs : List ℕ) → Trits xs → Trits (drop n xs)
trits_drop zero xs p = p
trits_drop (suc n) [] p = tt
trits_drop (suc n) (x ∷ xs) p = trits_drop n xs p.1

-- at each place, past the end too
pub trits_at : (xs : List ℕ) → Trits xs → (i : ℕ) → get_or xs i 0 < 3
trits_at [] p i = zero_trit
trits_at (x ∷ xs) p zero = p.0
trits_at (x ∷ xs) p (suc i) = trits_at xs p.1 i

pub trits_from : (xs : List ℕ) → ((i : ℕ) → i < length xs → get_or xs i 0 < 3) → Trits xs
trits_from [] h = tt
trits_from (x ∷ xs) h = (h 0 (omega arith), trits_from xs (λ i l. h (suc i) (omega arith)))

pub trits_same : (n a : ℕ) → a < 3 → Trits (replicate n a)
trits_same zero a h = tt
trits_same (suc n) a h = (h, trits_same n a h)

-- Bit by bit

pub not_length : (xs : List ℕ) → length (not_bits xs) ≡ length xs
unfolding not_bits
not_length [] = refl
not_length (x ∷ xs) = ap suc (not_length xs)

pub not_trits : (xs : List ℕ) → Trits (not_bits xs)
unfolding not_bits
not_trits [] = tt
not_trits (x ∷ xs) = (not_trit x, not_trits xs)

pub not_at : (xs : List ℕ) (i : ℕ) → i < length xs → get_or (not_bits xs) i 0 ≡ not_of (get_or xs i 0)
unfolding not_bits
not_at [] i h = absurd (omega arith)
not_at (x ∷ xs) zero h = refl
not_at (x ∷ xs) (suc i) h = not_at xs i (omega arith)

pub pairs_at : (f : ℕ → ℕ → ℕ) (xs ys : List ℕ) (i : ℕ) → i < length xs → i < length ys → get_or (pairs f xs ys) i 0 ≡ f (get_or xs i 0) (get_or ys i 0)
unfolding pairs
pairs_at f [] ys i h k = absurd (omega arith)
pairs_at f (x ∷ xs) [] i h k = absurd (omega arith)
pairs_at f (x ∷ xs) (y ∷ ys) zero h k = refl
pairs_at f (x ∷ xs) (y ∷ ys) (suc i) h k = pairs_at f xs ys i (omega arith) (omega arith)

pub pairs_length : (f : ℕ → ℕ → ℕ) (xs ys : List ℕ) → length xs ≡ length ys → length (pairs f xs ys) ≡ length xs
unfolding pairs
pairs_length f [] ys e = refl
pairs_length f (x ∷ xs) [] e = sym e
pairs_length f (x ∷ xs) (y ∷ ys) e = ap suc (pairs_length f xs ys (omega arith))

pub pairs_trits : (f : ℕ → ℕ → ℕ) → ((a b : ℕ) → f a b < 3) → (xs ys : List ℕ) → Trits (pairs f xs ys)
unfolding pairs
pairs_trits f h [] ys = tt
pairs_trits f h (x ∷ xs) [] = tt
pairs_trits f h (x ∷ xs) (y ∷ ys) = (h x y, pairs_trits f h xs ys)

-- gates that agree on trits agree bit by bit
pub pairs_same : (f g : ℕ → ℕ → ℕ) → ((a b : ℕ) → a < 3 → b < 3 → f a b ≡ g a b) → (xs ys : List ℕ) → Trits xs → Trits ys → pairs f xs ys ≡ pairs g xs ys
unfolding pairs
pairs_same f g h [] ys p q = refl
pairs_same f g h (x ∷ xs) [] p q = refl
pairs_same f g h (x ∷ xs) (y ∷ ys) p q = ap₂ (λ a l. a ∷ l) (h x y p.0 q.0) (pairs_same f g h xs ys p.1 q.1)

-- mux

pick_cons : (s t : Bool) (a b : ℕ) (xs ys zs : List ℕ) → pick s (a ∷ xs) (pick t (b ∷ ys) (2 ∷ zs)) ≡ pick s a (pick t b 2) ∷ pick s xs (pick t ys zs)
pick_cons true t a b xs ys zs = refl
pick_cons false true a b xs ys zs = refl
pick_cons false false a b xs ys zs = refl

pick_nil : {A : Type 0} (s t : Bool) (z : A) → pick s z (pick t z z) ≡ z
pick_nil true t z = refl
pick_nil false true z = refl
pick_nil false false z = refl

-- the rule, bit by bit
pub mux_pairs : (s : ℕ) (xs ys : List ℕ) → length xs ≡ length ys → mux_bits s xs ys ≡ pairs (mux_of s) xs ys
unfolding mux_bits pairs
mux_pairs s [] [] e = pick_nil (eqb s 1) (eqb s 0) []
mux_pairs s [] (y ∷ ys) e = absurd (omega arith)
mux_pairs s (x ∷ xs) [] e = absurd (omega arith)
mux_pairs s (x ∷ xs) (y ∷ ys) e =
    pick_cons (eqb s 1) (eqb s 0) x y xs ys (replicate (length xs) 2) ∙ ap (λ l. mux_of s x y ∷ l) (mux_pairs s xs ys (omega arith))

pub mux_gates_lem : (s : ℕ) (xs ys : List ℕ) → s < 3 → Trits xs → Trits ys → length xs ≡ length ys → mux_gates s xs ys ≡ mux_bits s xs ys
unfolding mux_gates
mux_gates_lem s xs ys h p q e = pairs_same (mux_gate s) (mux_of s) (λ a b. mux_gate_lem s a b h) xs ys p q ∙ sym (mux_pairs s xs ys e)

pub mux_length : (s : ℕ) (xs ys : List ℕ) → length xs ≡ length ys → length (mux_bits s xs ys) ≡ length xs
mux_length s xs ys e = ap length (mux_pairs s xs ys e) ∙ pairs_length (mux_of s) xs ys e

pub mux_trits : (s : ℕ) (xs ys : List ℕ) → Trits xs → Trits ys → Trits (mux_bits s xs ys)
unfolding mux_bits
mux_trits s xs ys p q = go (eqb s 1) (eqb s 0)
  where
    go : (t u : Bool) → Trits (pick t xs (pick u ys (replicate (length xs) 2)))
    go true u = p
    go false true = q
    go false false = trits_same (length xs) 2 x_trit

-- adc

pub adc_gates_lem : (xs ys : List ℕ) (c : ℕ) → Trits xs → Trits ys → c < 3 → adc_gates xs ys c ≡ adc_bits xs ys c
unfolding adc_gates adc_bits
adc_gates_lem [] ys c p q h = refl
adc_gates_lem (x ∷ xs) [] c p q h = refl
adc_gates_lem (x ∷ xs) (y ∷ ys) c p q h =
    rw (carry_gates_lem x y c p.0 q.0 h) (ap (λ l. xor_of (xor_of x y) c ∷ l) (adc_gates_lem xs ys (carry_of x y c) p.1 q.1 (carry_trit x y c)))

pub adc_length : (xs ys : List ℕ) (c : ℕ) → length xs ≡ length ys → length (adc_bits xs ys c) ≡ length xs + 1
unfolding adc_bits
adc_length [] ys c e = refl
adc_length (x ∷ xs) [] c e = absurd (omega arith)
adc_length (x ∷ xs) (y ∷ ys) c e = omega (arith, adc_length xs ys (carry_of x y c) (omega arith))

pub adc_trits : (xs ys : List ℕ) (c : ℕ) → c < 3 → Trits (adc_bits xs ys c)
unfolding adc_bits
adc_trits [] ys c h = (h, tt)
adc_trits (x ∷ xs) [] c h = (h, tt)
adc_trits (x ∷ xs) (y ∷ ys) c h = (xor_trit (xor_of x y) c, adc_trits xs ys (carry_of x y c) (carry_trit x y c))

-- eq

-- what is told where the sum so far is d, and of the places above some clash (c), all agree (s)
abbrev told : ℕ → Bool → Bool → ℕ
told d c s = pick (eqb d 1 || c) 0 (pick (eqb d 0 && s) 1 2)

-- one place more
told_step : (c s : Bool) (d a b : ℕ) → d < 3 → a < 3 → b < 3 → told (or_of d (xor_of a b)) c s ≡ told d (clash a b || c) (agree a b && s)
unfolding or_of xor_of clash agree
told_step true true = law3 (λ d a b. told (or_of d (xor_of a b)) true true) (λ d a b. told d (clash a b || true) (agree a b && true)) tt
told_step true false = law3 (λ d a b. told (or_of d (xor_of a b)) true false) (λ d a b. told d (clash a b || true) (agree a b && false)) tt
told_step false true = law3 (λ d a b. told (or_of d (xor_of a b)) false true) (λ d a b. told d (clash a b || false) (agree a b && true)) tt
told_step false false = law3 (λ d a b. told (or_of d (xor_of a b)) false false) (λ d a b. told d (clash a b || false) (agree a b && false)) tt

told_end : (d : ℕ) → d < 3 → not_of d ≡ told d false true
unfolding not_of
told_end = law1 not_of (λ d. told d false true) tt

-- the first place is one more after a sum of 0
first_sum : (a b : ℕ) → a < 3 → b < 3 → xor_of a b ≡ or_of 0 (xor_of a b)
unfolding or_of xor_of
first_sum = law2 xor_of (λ a b. or_of 0 (xor_of a b)) tt

eq_from_lem : (xs ys : List ℕ) (d : ℕ) → Trits xs → Trits ys → d < 3 → eq_gates_from xs ys d ≡ told d (some_clash xs ys) (all_agree xs ys)
unfolding eq_gates_from some_clash all_agree
eq_from_lem [] ys d p q h = told_end d h
eq_from_lem (x ∷ xs) [] d p q h = told_end d h
eq_from_lem (x ∷ xs) (y ∷ ys) d p q h =
    eq_from_lem xs ys (or_of d (xor_of x y)) p.1 q.1 (or_trit d (xor_of x y))
    ∙ told_step (some_clash xs ys) (all_agree xs ys) d x y h p.0 q.0

pub eq_gates_lem : (xs ys : List ℕ) → Trits xs → Trits ys → eq_gates xs ys ≡ eq_bit xs ys
unfolding eq_gates eq_gates_from eq_bit some_clash all_agree
eq_gates_lem [] ys p q = refl
eq_gates_lem (x ∷ xs) [] p q = refl
eq_gates_lem (x ∷ xs) (y ∷ ys) p q =
    ap (eq_gates_from xs ys) (first_sum x y p.0 q.0) ∙ eq_from_lem (x ∷ xs) (y ∷ ys) 0 p q zero_trit

pub eq_trit : (xs ys : List ℕ) → eq_bit xs ys < 3
unfolding eq_bit
eq_trit xs ys = pick_trit (some_clash xs ys) zero_trit (pick_trit (all_agree xs ys) one_trit x_trit)

-- ult

ult_from_lem : (xs ys : List ℕ) (c : ℕ) → Trits xs → Trits ys → c < 3 → ult_gates_from xs ys c ≡ ult_from xs ys c
unfolding ult_gates_from ult_from
ult_from_lem [] ys c p q h = refl
ult_from_lem (x ∷ xs) [] c p q h = refl
ult_from_lem (x ∷ xs) (y ∷ ys) c p q h =
    rw (carry_gates_lem (not_of x) y c (not_trit x) q.0 h) (ult_from_lem xs ys (carry_of (not_of x) y c) p.1 q.1 (carry_trit (not_of x) y c))

pub ult_gates_lem : (xs ys : List ℕ) → Trits xs → Trits ys → ult_gates xs ys ≡ ult_bit xs ys
unfolding ult_gates ult_bit
ult_gates_lem xs ys p q = ult_from_lem xs ys 0 p q zero_trit

ult_from_trit : (xs ys : List ℕ) (c : ℕ) → c < 3 → ult_from xs ys c < 3
unfolding ult_from
ult_from_trit [] ys c h = h
ult_from_trit (x ∷ xs) [] c h = h
ult_from_trit (x ∷ xs) (y ∷ ys) c h = ult_from_trit xs ys (carry_of (not_of x) y c) (carry_trit (not_of x) y c)

pub ult_trit : (xs ys : List ℕ) → ult_bit xs ys < 3
unfolding ult_bit
ult_trit xs ys = ult_from_trit xs ys 0 zero_trit

-- slt

slt_from_lem : (xs ys : List ℕ) (c : ℕ) → Trits xs → Trits ys → c < 3 → slt_gates_from xs ys c ≡ slt_from xs ys c
unfolding slt_gates_from slt_from
slt_from_lem [] ys c p q h = refl
slt_from_lem (x ∷ []) [] c p q h = refl
slt_from_lem (x ∷ []) (y ∷ ys) c p q h = carry_gates_lem x (not_of y) c p.0 (not_trit y) h
slt_from_lem (x ∷ x' ∷ xs) [] c p q h = refl
slt_from_lem (x ∷ x' ∷ xs) (y ∷ ys) c p q h =
    rw (carry_gates_lem (not_of x) y c (not_trit x) q.0 h) (slt_from_lem (x' ∷ xs) ys (carry_of (not_of x) y c) p.1 q.1 (carry_trit (not_of x) y c))

pub slt_gates_lem : (xs ys : List ℕ) → Trits xs → Trits ys → slt_gates xs ys ≡ slt_bit xs ys
unfolding slt_gates slt_bit
slt_gates_lem xs ys p q = slt_from_lem xs ys 0 p q zero_trit

slt_from_trit : (xs ys : List ℕ) (c : ℕ) → c < 3 → slt_from xs ys c < 3
unfolding slt_from
slt_from_trit [] ys c h = h
slt_from_trit (x ∷ []) [] c h = h
slt_from_trit (x ∷ []) (y ∷ ys) c h = carry_trit x (not_of y) c
slt_from_trit (x ∷ x' ∷ xs) [] c h = h
slt_from_trit (x ∷ x' ∷ xs) (y ∷ ys) c h = slt_from_trit (x' ∷ xs) ys (carry_of (not_of x) y c) (carry_trit (not_of x) y c)

pub slt_trit : (xs ys : List ℕ) → slt_bit xs ys < 3
unfolding slt_bit
slt_trit xs ys = slt_from_trit xs ys 0 zero_trit
