-- Document 01, Cells: the table of the twelve keywords. A kind's number is its keyword's place in the table, from 1.
use Rattle.std.specs.Prelude.{ℕ, ◌+◌, ◌*◌, Bool, true, false, ◌&&◌, List, [], ◌∷◌, map, leb, eqb}
use Prim.Native.String.{String}
use Rattle.ground.specs.Choice.{pick}

-- a line of the table: the keyword, whether a name follows it, the number of operands, the width rule (of the declared width and
-- the widths of the operands in order), and the number of records (of the declared width and the first operand's)
pub record Kind : Type 0 where
  pub word : String
  pub named : Bool
  pub operands : ℕ
  pub widths : ℕ → ℕ → ℕ → ℕ → Bool
  pub records : ℕ → ℕ → ℕ

abbrev kind : String → Bool → ℕ → (ℕ → ℕ → ℕ → ℕ → Bool) → (ℕ → ℕ → ℕ) → Kind
kind word named operands widths records = record { word = word; named = named; operands = operands; widths = widths; records = records }

-- "w is 1 to 256 .. operands are 1 to 256 wide"
abbrev pub wide : ℕ → Bool
wide n = leb 1 n && leb n 256

abbrev pub input_kind : ℕ
input_kind = 1

abbrev pub output_kind : ℕ
output_kind = 2

abbrev pub buf_kind : ℕ
buf_kind = 3

abbrev pub not_kind : ℕ
not_kind = 4

abbrev pub and_kind : ℕ
and_kind = 5

abbrev pub or_kind : ℕ
or_kind = 6

abbrev pub xor_kind : ℕ
xor_kind = 7

abbrev pub mux_kind : ℕ
mux_kind = 8

abbrev pub adc_kind : ℕ
adc_kind = 9

abbrev pub eq_kind : ℕ
eq_kind = 10

abbrev pub ult_kind : ℕ
ult_kind = 11

abbrev pub slt_kind : ℕ
slt_kind = 12

-- input "s" | w | assigned | w
abbrev pub input : Kind
input = kind "input" true 0 (λ w a b c. wide w) (λ w a. w)

-- output "s" v | 0 | v | width of v
abbrev pub output : Kind
output = kind "output" true 1 (λ w v b c. eqb w 0 && wide v) (λ w v. v)

-- a=w
abbrev pub alike : ℕ → ℕ → ℕ → ℕ → Bool
alike w a b c = wide w && eqb a w

-- a=b=w
abbrev pub all_alike : ℕ → ℕ → ℕ → ℕ → Bool
all_alike w a b c = wide w && (eqb a w && eqb b w)

-- a=b, w=1
abbrev pub compared : ℕ → ℕ → ℕ → ℕ → Bool
compared w a b c = eqb w 1 && (wide a && eqb b a)

abbrev pub buf : Kind
buf = kind "buf" false 1 alike (λ w a. 0)

abbrev pub inverter : Kind
inverter = kind "not" false 1 alike (λ w a. w)

abbrev pub gate : String → Kind
gate word = kind word false 2 all_alike (λ w a. w)

-- mux s a b | s=1, a=b=w | 2+4w
abbrev pub mux : Kind
mux = kind "mux" false 3 (λ w s a b. wide w && (eqb s 1 && (eqb a w && eqb b w))) (λ w s. 2 + 4 * w)

-- adc a b c | a=b, c=1, w=a+1 | 6 per operand bit
abbrev pub adc : Kind
adc = kind "adc" false 3 (λ w a b c. wide w && (wide a && (eqb b a && (eqb c 1 && eqb w (a + 1))))) (λ w a. 6 * a)

-- eq a b | 2 per bit
abbrev pub eq : Kind
eq = kind "eq" false 2 compared (λ w a. 2 * a)

-- ult, slt a b | 5 per bit
abbrev pub less : String → Kind
less word = kind word false 2 compared (λ w a. 5 * a)

-- no kind has this number
abbrev pub no_kind : Kind
no_kind = kind "" false 0 (λ w a b c. false) (λ w a. 0)

unfoldable pub kind_at : ℕ → Kind
kind_at n =
    pick (eqb n input_kind) input
    (pick (eqb n output_kind) output
    (pick (eqb n buf_kind) buf
    (pick (eqb n not_kind) inverter
    (pick (eqb n and_kind) (gate "and")
    (pick (eqb n or_kind) (gate "or")
    (pick (eqb n xor_kind) (gate "xor")
    (pick (eqb n mux_kind) mux
    (pick (eqb n adc_kind) adc
    (pick (eqb n eq_kind) eq
    (pick (eqb n ult_kind) (less "ult")
    (pick (eqb n slt_kind) (less "slt")
    no_kind)))))))))))

abbrev pub is_kind : ℕ → Bool
is_kind n = leb 1 n && leb n 12

-- the keywords in the order of their numbers
abbrev pub keywords : List String
keywords = map (λ n. (kind_at n).word) (1 ∷ 2 ∷ 3 ∷ 4 ∷ 5 ∷ 6 ∷ 7 ∷ 8 ∷ 9 ∷ 10 ∷ 11 ∷ 12 ∷ [])
