-- Worked cases, computed: the records of a cell of each kind, as document 01 lists them, and values.
use Prim.Native.Nat.{ℕ}
use mathlib.Core.Path.{◌≡◌, refl}
use mathlib.Core.List.{List, [], ◌∷◌, ◌++◌, map}
use lib.ListN.{length}
use Rattle.ground.specs.Lists.{joined}
use Rattle.trit.specs.Trit.{not_of, and_of, or_of, xor_of, holds, carry_of, count_of}
use Rattle.trit.specs.Wide.{not_bits, pairs, adc_bits, clash, agree, some_clash, all_agree, eq_bit, ult_from, ult_bit, slt_from, slt_bit}
use Rattle.trit.specs.Mux as trit
use Rattle.kinds.specs.Kinds.{kind_at}
use Rattle.netlist.specs.Netlist.{Run, const, piece}
use Rattle.netlist.specs.Runs.{falling, known_bits}
use Rattle.loadlist.specs.Records.{rec}
use Rattle.loadlist.specs.declared.Record.{Record}
use Rattle.cells.specs.Operands.{bits_from}
use Rattle.cells.specs.Values.{kind_value}
use Rattle.cells.specs.Records.{Made, made, not_made, gate_made, mux_from, mux_made, adc_made, eq_from, eq_made, ult_made, slt_made, kind_made}

-- a cell of two-bit operands in slots 3, 4 and 5, 6, with slot 7 for a single bit; its records make slot 8 and on
pub record Making : Type 0 where
  pub kind : ℕ
  pub a : List ℕ
  pub b : List ℕ
  pub c : List ℕ
  pub made : Made

abbrev making : ℕ → List ℕ → List ℕ → List ℕ → List Record → List ℕ → Making
making kind a b c rs os = record { kind = kind; a = a; b = b; c = c; made = made rs os }

abbrev x : List ℕ
x = 3 ∷ 4 ∷ []

abbrev y : List ℕ
y = 5 ∷ 6 ∷ []

abbrev s : List ℕ
s = 7 ∷ []

makings : List Making
makings =
    making 3 x [] [] [] x
    ∷ making 4 x [] [] (rec 4 3 0 ∷ rec 4 4 0 ∷ []) (8 ∷ 9 ∷ [])
    ∷ making 5 x y [] (rec 5 3 5 ∷ rec 5 4 6 ∷ []) (8 ∷ 9 ∷ [])
    ∷ making 6 x y [] (rec 6 3 5 ∷ rec 6 4 6 ∷ []) (8 ∷ 9 ∷ [])
    ∷ making 7 x y [] (rec 7 3 5 ∷ rec 7 4 6 ∷ []) (8 ∷ 9 ∷ [])
    -- not s, xor s s; per bit and s a, and (not s) b, or, xor with xor s s
    ∷ making 8 s x y
    (rec 4 7 0 ∷ rec 7 7 7
    ∷ rec 5 7 3 ∷ rec 5 8 5 ∷ rec 6 10 11 ∷ rec 7 9 12
    ∷ rec 5 7 4 ∷ rec 5 8 6 ∷ rec 6 14 15 ∷ rec 7 9 16 ∷ [])
    (13 ∷ 17 ∷ [])
    -- xor a b; xor that, carry; and a b; or a b; and that, carry; or
    ∷ making 9 x y s
    (rec 7 3 5 ∷ rec 7 8 7 ∷ rec 5 3 5 ∷ rec 6 3 5 ∷ rec 5 11 7 ∷ rec 6 10 12
    ∷ rec 7 4 6 ∷ rec 7 14 13 ∷ rec 5 4 6 ∷ rec 6 4 6 ∷ rec 5 17 13 ∷ rec 6 16 18 ∷ [])
    (9 ∷ 15 ∷ 19 ∷ [])
    -- xor; xor, or with the sum so far; a not
    ∷ making 10 x y [] (rec 7 3 5 ∷ rec 7 4 6 ∷ rec 6 8 9 ∷ rec 4 10 0 ∷ []) (11 ∷ [])
    -- not a; and, or, and with the last, or
    ∷ making 11 x y []
    (rec 4 3 0 ∷ rec 5 8 5 ∷ rec 6 8 5 ∷ rec 5 10 0 ∷ rec 6 9 11
    ∷ rec 4 4 0 ∷ rec 5 13 6 ∷ rec 6 13 6 ∷ rec 5 15 12 ∷ rec 6 14 16 ∷ [])
    (17 ∷ [])
    -- at the top: not b, then a and not b
    ∷ making 12 x y []
    (rec 4 3 0 ∷ rec 5 8 5 ∷ rec 6 8 5 ∷ rec 5 10 0 ∷ rec 6 9 11
    ∷ rec 4 6 0 ∷ rec 5 4 13 ∷ rec 6 4 13 ∷ rec 5 15 12 ∷ rec 6 14 16 ∷ [])
    (17 ∷ [])
    ∷ []

made_right : map (λ (m : Making). kind_made m.kind 8 m.a m.b m.c) makings ≡ map (λ (m : Making). m.made) makings
unfolding makings not_made gate_made mux_from mux_made adc_made eq_from eq_made ult_made slt_made kind_made
made_right = refl

-- and their number is the table's
counted_right : map (λ (m : Making). length m.made.records) makings ≡ map (λ (m : Making). (kind_at m.kind).records (length m.made.outs) (length m.a)) makings
unfolding makings kind_at
counted_right = refl

-- values of two-bit operands, bit 0 first: a = X1, b = 10, single bits 0, 1, X
pub record Valued : Type 0 where
  pub kind : ℕ
  pub a : List ℕ
  pub b : List ℕ
  pub c : List ℕ
  pub is : List ℕ

abbrev valued : ℕ → List ℕ → List ℕ → List ℕ → List ℕ → Valued
valued kind a b c v = record { kind = kind; a = a; b = b; c = c; is = v }

abbrev p : List ℕ
p = 1 ∷ 2 ∷ []

abbrev q : List ℕ
q = 0 ∷ 1 ∷ []

values : List Valued
values =
    valued 2 p [] [] p
    ∷ valued 3 p [] [] p
    ∷ valued 4 p [] [] (0 ∷ 2 ∷ [])
    ∷ valued 5 p q [] (0 ∷ 2 ∷ [])
    ∷ valued 6 p q [] (1 ∷ 1 ∷ [])
    ∷ valued 7 p q [] (1 ∷ 2 ∷ [])
    ∷ valued 8 (1 ∷ []) p q p
    ∷ valued 8 (0 ∷ []) p q q
    ∷ valued 8 (2 ∷ []) q q (2 ∷ 2 ∷ [])
    ∷ valued 9 p q (1 ∷ []) (0 ∷ 2 ∷ 1 ∷ [])
    ∷ valued 9 p q (2 ∷ []) (2 ∷ 2 ∷ 2 ∷ [])
    ∷ valued 10 p q [] (0 ∷ [])
    ∷ valued 10 p (1 ∷ 1 ∷ []) [] (2 ∷ [])
    ∷ valued 10 q q [] (1 ∷ [])
    ∷ valued 11 p q [] (2 ∷ [])
    ∷ valued 11 (1 ∷ 0 ∷ []) q [] (1 ∷ [])
    ∷ valued 12 (1 ∷ 0 ∷ []) q [] (0 ∷ [])
    ∷ valued 12 q (1 ∷ 0 ∷ []) [] (1 ∷ [])
    ∷ []

valued_right : map (λ (v : Valued). kind_value v.kind v.a v.b v.c) values ≡ map (λ (v : Valued). v.is) values
unfolding values not_of and_of or_of xor_of holds carry_of count_of not_bits pairs adc_bits clash agree some_clash all_agree eq_bit ult_from ult_bit slt_from slt_bit trit.mux_bits kind_value
valued_right = refl

-- the first part is the most significant: `[1X %0+2:2]` over a row of the bits 0, 1, 2, 0
operand_right : bits_from (λ row. 0 ∷ 1 ∷ 2 ∷ 0 ∷ []) (const (1 ∷ 2 ∷ []) ∷ piece 0 2 2 ∷ []) ≡ 2 ∷ 0 ∷ 2 ∷ 1 ∷ []
unfolding bits_from joined falling known_bits
operand_right = refl
