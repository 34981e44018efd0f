-- The records of a cell, and the slots of its bits. Document 01, Load list: "Bits go from 0 up .. Fields stand as named, a before b;
-- each or without named fields, eq's or and mux's last xor take the lower slot first." `k` is the slot that the next record makes;
-- operands are the slots of their bits, bit 0 first.
use Rattle.std.specs.Prelude.{ℕ, ◌+◌, List, [], ◌∷◌, ◌++◌, eqb, get_or}
use Rattle.ground.specs.Choice.{pick}
use Rattle.kinds.specs.Kinds.{not_kind, and_kind, or_kind, xor_kind, mux_kind, adc_kind, eq_kind, ult_kind, slt_kind}
use Rattle.loadlist.specs.Records.{rec, not_op, and_op, or_op, xor_op}
use Rattle.loadlist.specs.declared.Record.{Record}

pub record Made : Type 0 where
  pub records : List Record
  pub outs : List ℕ

abbrev pub made : List Record → List ℕ → Made
made rs os = record { records = rs; outs = os }

-- these records, with these slots of bits, before those made later
abbrev pub then : List Record → List ℕ → Made → Made
then rs os m = made (rs ++ m.records) (os ++ m.outs)

-- not: one record a bit
unfoldable pub not_made : ℕ → List ℕ → Made
not_made k [] = made [] []
not_made k (x ∷ xs) = then (rec not_op x 0 ∷ []) (k ∷ []) (not_made (k + 1) xs)

-- and, or, xor: one record a bit
unfoldable pub gate_made : ℕ → ℕ → List ℕ → List ℕ → Made
gate_made op k [] ys = made [] []
gate_made op k (x ∷ xs) [] = made [] []
gate_made op k (x ∷ xs) (y ∷ ys) = then (rec op x y ∷ []) (k ∷ []) (gate_made op (k + 1) xs ys)

-- "mux (first not s, xor s s): and s a; and (not s) b; or; xor with xor s s": `n` is the slot of not s, `x` that of xor s s
unfoldable pub mux_from : ℕ → ℕ → ℕ → ℕ → List ℕ → List ℕ → Made
mux_from s n x k [] ys = made [] []
mux_from s n x k (a ∷ xs) [] = made [] []
mux_from s n x k (a ∷ xs) (b ∷ ys) =
    then (rec and_op s a ∷ rec and_op n b ∷ rec or_op k (k + 1) ∷ rec xor_op x (k + 2) ∷ []) ((k + 3) ∷ []) (mux_from s n x (k + 4) xs ys)

unfoldable pub mux_made : ℕ → ℕ → List ℕ → List ℕ → Made
mux_made k s xs ys = then (rec not_op s 0 ∷ rec xor_op s s ∷ []) [] (mux_from s k (k + 1) (k + 2) xs ys)

-- the carry: "and a b; or a b; and that, carry; or (the next carry)"; the first of its four records makes slot k
abbrev pub carry_records : ℕ → ℕ → ℕ → ℕ → List Record
carry_records k a b c = rec and_op a b ∷ rec or_op a b ∷ rec and_op (k + 1) c ∷ rec or_op k (k + 2) ∷ []

-- "adc: xor a b; xor that, carry; and a b; or a b; and that, carry; or (the next carry)"; "the top bit is the last carry"
unfoldable pub adc_made : ℕ → List ℕ → List ℕ → ℕ → Made
adc_made k [] ys c = made [] (c ∷ [])
adc_made k (a ∷ xs) [] c = made [] (c ∷ [])
adc_made k (a ∷ xs) (b ∷ ys) c =
    then (rec xor_op a b ∷ rec xor_op k c ∷ carry_records (k + 2) a b c) ((k + 1) ∷ []) (adc_made (k + 6) xs ys (k + 5))

-- "eq: xor, then from bit 1 an or with the sum so far; last a not": `sum` is the slot of the sum so far
unfoldable pub eq_from : ℕ → ℕ → List ℕ → List ℕ → Made
eq_from sum k [] ys = made (rec not_op sum 0 ∷ []) (k ∷ [])
eq_from sum k (a ∷ xs) [] = made (rec not_op sum 0 ∷ []) (k ∷ [])
eq_from sum k (a ∷ xs) (b ∷ ys) = then (rec xor_op a b ∷ rec or_op sum k ∷ []) [] (eq_from (k + 1) (k + 2) xs ys)

unfoldable pub eq_made : ℕ → List ℕ → List ℕ → Made
eq_made k [] ys = made [] []
eq_made k (a ∷ xs) [] = made [] []
eq_made k (a ∷ xs) (b ∷ ys) = then (rec xor_op a b ∷ []) [] (eq_from k (k + 1) xs ys)

-- "ult: not a, then adc's last four records over not a, b and the last"
abbrev pub below_records : ℕ → ℕ → ℕ → ℕ → List Record
below_records k a b c = rec not_op a 0 ∷ carry_records (k + 1) k b c

unfoldable pub ult_made : ℕ → List ℕ → List ℕ → ℕ → Made
ult_made k [] ys c = made [] (c ∷ [])
ult_made k (a ∷ xs) [] c = made [] (c ∷ [])
ult_made k (a ∷ xs) (b ∷ ys) c = then (below_records k a b c) [] (ult_made (k + 5) xs ys (k + 4))

-- "slt at the top: not b, then a and not b"
unfoldable pub slt_made : ℕ → List ℕ → List ℕ → ℕ → Made
slt_made k [] ys c = made [] (c ∷ [])
slt_made k (a ∷ []) [] c = made [] (c ∷ [])
slt_made k (a ∷ []) (b ∷ ys) c = made (rec not_op b 0 ∷ carry_records (k + 1) a k c) ((k + 4) ∷ [])
slt_made k (a ∷ a' ∷ xs) [] c = made [] (c ∷ [])
slt_made k (a ∷ a' ∷ xs) (b ∷ ys) c = then (below_records k a b c) [] (slt_made (k + 5) (a' ∷ xs) ys (k + 4))

-- a cell of a kind; "The first carry of ult and slt is slot 0; adc's is c". A buffer has no record: its bits are its operand's slots.
unfoldable pub kind_made : ℕ → ℕ → List ℕ → List ℕ → List ℕ → Made
kind_made kind k a b c =
    pick (eqb kind not_kind) (not_made k a)
    (pick (eqb kind and_kind) (gate_made and_op k a b)
    (pick (eqb kind or_kind) (gate_made or_op k a b)
    (pick (eqb kind xor_kind) (gate_made xor_op k a b)
    (pick (eqb kind mux_kind) (mux_made k (get_or a 0 0) b c)
    (pick (eqb kind adc_kind) (adc_made k a b (get_or c 0 0))
    (pick (eqb kind eq_kind) (eq_made k a b)
    (pick (eqb kind ult_kind) (ult_made k a b 0)
    (pick (eqb kind slt_kind) (slt_made k a b 0)
    (made [] a)))))))))
