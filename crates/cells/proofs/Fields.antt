-- The records of a cell are gates over slots that are made before: operations 4 to 7, fields below the record's own slot.
use mathlib.Core.Path.{◌≡◌, refl, ap, ◌∙◌, sym, subst}
use mathlib.Core.Bool.{Bool, true, false}
use mathlib.Core.List.{List, [], ◌∷◌, ◌++◌, append-nil}
use Prim.Native.Nat.{ℕ, zero, suc, ◌+◌, ◌<◌, ◌≤◌}
use native.Mathlib.Omega.{arith}
use lib.Dec.{eqb}
use lib.ListN.{length, get_or, length-append}
use Rattle.ground.specs.Choice.{pick}
use Rattle.kinds.specs.Kinds.{not_kind, and_kind, or_kind, xor_kind, mux_kind, adc_kind, eq_kind, ult_kind, slt_kind}
use Rattle.kinds.proofs.Widths.{picked}
use Rattle.loadlist.specs.Records.{rec, not_op, and_op, or_op, xor_op}
use Rattle.loadlist.specs.declared.Record.{Record}
use Rattle.cells.specs.Records.{Made, made, then, not_made, gate_made, mux_from, mux_made, carry_records, adc_made, eq_from, eq_made, below_records, ult_made, slt_made, kind_made}

-- record k
pub record GateAt (k : ℕ) (r : Record) : Type 0 where
  pub low : 4 ≤ r.op
  pub high : r.op ≤ 7
  pub first : r.first < k
  pub second : r.second < k
  pub unary : r.op ≡ 4 → r.second ≡ 0

-- the records from k on
abbrev pub Gates : ℕ → List Record → Type 0
Gates k [] = Unit {0}
Gates k (r ∷ rs) = GateAt k r × Gates (k + 1) rs

abbrev pub Below : ℕ → List ℕ → Type 0
Below k [] = Unit {0}
Below k (x ∷ xs) = (x < k) × Below k xs

pub below_more : (k n : ℕ) → k ≤ n → (xs : List ℕ) → Below k xs → Below n xs
below_more k n l [] h = tt
below_more k n l (x ∷ xs) h = (omega (arith, h.0), below_more k n l xs h.1)

pub gates_append : (k : ℕ) (rs qs : List Record) (n : ℕ) → n ≡ k + length rs → Gates k rs → Gates n qs → Gates k (rs ++ qs)
gates_append k [] qs n e p q = subst (λ (z : ℕ). Gates z qs) (omega arith) q
gates_append k (r ∷ rs) qs n e p q = (p.0, gates_append (k + 1) rs qs n (omega arith) p.1 q)

inverts : (k x : ℕ) → x < k → GateAt k (rec not_op x 0)
inverts k x l = record { low = omega arith; high = omega arith; first = l; second = omega arith; unary = λ _. refl }

-- and, or, xor
two : (op k x y : ℕ) → 5 ≤ op → op ≤ 7 → x < k → y < k → GateAt k (rec op x y)
two op k x y a b l m = record { low = omega arith; high = b; first = l; second = m; unary = λ e. absurd (omega arith) }

not_gates : (k : ℕ) (xs : List ℕ) → Below k xs → Gates k (not_made k xs).records
unfolding not_made
not_gates k [] h = tt
not_gates k (x ∷ xs) h = (inverts k x h.0, not_gates (k + 1) xs (below_more k (k + 1) (omega arith) xs h.1))

gate_gates : (op k : ℕ) (xs ys : List ℕ) → 5 ≤ op → op ≤ 7 → Below k xs → Below k ys → Gates k (gate_made op k xs ys).records
unfolding gate_made
gate_gates op k [] ys a b p q = tt
gate_gates op k (x ∷ xs) [] a b p q = tt
gate_gates op k (x ∷ xs) (y ∷ ys) a b p q =
    (two op k x y a b p.0 q.0, gate_gates op (k + 1) xs ys a b (below_more k (k + 1) (omega arith) xs p.1) (below_more k (k + 1) (omega arith) ys q.1))

mux_gates_lem : (s n x k : ℕ) (xs ys : List ℕ) → s < k → n < k → x < k → Below k xs → Below k ys → Gates k (mux_from s n x k xs ys).records
unfolding mux_from
mux_gates_lem s n x k [] ys ls ln lx p q = tt
mux_gates_lem s n x k (a ∷ xs) [] ls ln lx p q = tt
mux_gates_lem s n x k (a ∷ xs) (b ∷ ys) ls ln lx p q = (
  two and_op k s a (omega arith) (omega arith) ls p.0,
  (
    two and_op (k + 1) n b (omega arith) (omega arith) (omega arith) (omega (arith, q.0)),
    (
      two or_op (k + 1 + 1) k (k + 1) (omega arith) (omega arith) (omega arith) (omega arith),
      (
        two xor_op (k + 1 + 1 + 1) x (k + 2) (omega arith) (omega arith) (omega arith) (omega arith),
        subst (λ (z : ℕ). Gates z (mux_from s n x (k + 4) xs ys).records) (omega arith)
            (mux_gates_lem s n x (k + 4) xs ys (omega arith) (omega arith) (omega arith) (below_more k (k + 4) (omega arith) xs p.1) (below_more k (k + 4) (omega arith) ys q.1)),
      ),
    ),
  ),
)

carry_gates_lem : (k a b c : ℕ) → a < k → b < k → c < k → Gates k (carry_records k a b c)
carry_gates_lem k a b c la lb lc = (
  two and_op k a b (omega arith) (omega arith) la lb,
  (
    two or_op (k + 1) a b (omega arith) (omega arith) (omega arith) (omega arith),
    (
      two and_op (k + 1 + 1) (k + 1) c (omega arith) (omega arith) (omega arith) (omega arith),
      (two or_op (k + 1 + 1 + 1) k (k + 2) (omega arith) (omega arith) (omega arith) (omega arith), tt),
    ),
  ),
)

adc_gates_lem : (k : ℕ) (xs ys : List ℕ) (c : ℕ) → Below k xs → Below k ys → c < k → Gates k (adc_made k xs ys c).records
unfolding adc_made
adc_gates_lem k [] ys c p q l = tt
adc_gates_lem k (a ∷ xs) [] c p q l = tt
adc_gates_lem k (a ∷ xs) (b ∷ ys) c p q l =
    gates_append k (rec xor_op a b ∷ rec xor_op k c ∷ carry_records (k + 2) a b c) (adc_made (k + 6) xs ys (k + 5)).records (k + 6) refl (
      two xor_op k a b (omega arith) (omega arith) p.0 q.0,
      (
        two xor_op (k + 1) k c (omega arith) (omega arith) (omega arith) (omega arith),
        subst (λ (z : ℕ). Gates z (carry_records (k + 2) a b c)) (omega arith) (carry_gates_lem (k + 2) a b c (omega (arith, p.0)) (omega (arith, q.0)) (omega arith)),
      ),
    )
    (adc_gates_lem (k + 6) xs ys (k + 5) (below_more k (k + 6) (omega arith) xs p.1) (below_more k (k + 6) (omega arith) ys q.1) (omega arith))

eq_from_gates : (sum k : ℕ) (xs ys : List ℕ) → sum < k → Below k xs → Below k ys → Gates k (eq_from sum k xs ys).records
unfolding eq_from
eq_from_gates sum k [] ys l p q = (inverts k sum l, tt)
eq_from_gates sum k (a ∷ xs) [] l p q = (inverts k sum l, tt)
eq_from_gates sum k (a ∷ xs) (b ∷ ys) l p q = (
  two xor_op k a b (omega arith) (omega arith) p.0 q.0,
  (
    two or_op (k + 1) sum k (omega arith) (omega arith) (omega arith) (omega arith),
    subst (λ (z : ℕ). Gates z (eq_from (k + 1) (k + 2) xs ys).records) (omega arith)
        (eq_from_gates (k + 1) (k + 2) xs ys (omega arith) (below_more k (k + 2) (omega arith) xs p.1) (below_more k (k + 2) (omega arith) ys q.1)),
  ),
)

eq_gates_lem : (k : ℕ) (xs ys : List ℕ) → Below k xs → Below k ys → Gates k (eq_made k xs ys).records
unfolding eq_made
eq_gates_lem k [] ys p q = tt
eq_gates_lem k (a ∷ xs) [] p q = tt
eq_gates_lem k (a ∷ xs) (b ∷ ys) p q = (
  two xor_op k a b (omega arith) (omega arith) p.0 q.0,
  eq_from_gates k (k + 1) xs ys (omega arith) (below_more k (k + 1) (omega arith) xs p.1) (below_more k (k + 1) (omega arith) ys q.1),
)

below_gates : (k a b c : ℕ) → a < k → b < k → c < k → Gates k (below_records k a b c)
below_gates k a b c la lb lc = (inverts k a la, carry_gates_lem (k + 1) k b c (omega arith) (omega arith) (omega arith))

ult_gates_lem : (k : ℕ) (xs ys : List ℕ) (c : ℕ) → Below k xs → Below k ys → c < k → Gates k (ult_made k xs ys c).records
unfolding ult_made
ult_gates_lem k [] ys c p q l = tt
ult_gates_lem k (a ∷ xs) [] c p q l = tt
ult_gates_lem k (a ∷ xs) (b ∷ ys) c p q l =
    gates_append k (below_records k a b c) (ult_made (k + 5) xs ys (k + 4)).records (k + 5) refl (below_gates k a b c p.0 q.0 l)
    (ult_gates_lem (k + 5) xs ys (k + 4) (below_more k (k + 5) (omega arith) xs p.1) (below_more k (k + 5) (omega arith) ys q.1) (omega arith))

slt_gates_lem : (k : ℕ) (xs ys : List ℕ) (c : ℕ) → Below k xs → Below k ys → c < k → Gates k (slt_made k xs ys c).records
unfolding slt_made
slt_gates_lem k [] ys c p q l = tt
slt_gates_lem k (a ∷ []) [] c p q l = tt
slt_gates_lem k (a ∷ []) (b ∷ ys) c p q l = (inverts k b q.0, carry_gates_lem (k + 1) a k c (omega (arith, p.0)) (omega arith) (omega arith))
slt_gates_lem k (a ∷ a' ∷ xs) [] c p q l = tt
slt_gates_lem k (a ∷ a' ∷ xs) (b ∷ ys) c p q l =
    gates_append k (below_records k a b c) (slt_made (k + 5) (a' ∷ xs) ys (k + 4)).records (k + 5) refl (below_gates k a b c p.0 q.0 l)
    (slt_gates_lem (k + 5) (a' ∷ xs) ys (k + 4) (below_more k (k + 5) (omega arith) (a' ∷ xs) p.1) (below_more k (k + 5) (omega arith) ys q.1) (omega arith))

-- the first slot of an operand; slot 0 where it has none
first_below : (k : ℕ) (xs : List ℕ) → 0 < k → Below k xs → get_or xs 0 0 < k
first_below k [] l h = l
first_below k (x ∷ xs) l h = h.0

-- EVERY KIND
pub record GatesOf (k : ℕ) (m : Made) : Type 0 where
  pub all : Gates k m.records

mux_all : (k s : ℕ) (xs ys : List ℕ) → s < k → Below k xs → Below k ys → Gates k (mux_made k s xs ys).records
unfolding mux_made
mux_all k s xs ys l p q = (
  inverts k s l,
  (
    two xor_op (k + 1) s s (omega arith) (omega arith) (omega arith) (omega arith),
    subst (λ (z : ℕ). Gates z (mux_from s k (k + 1) (k + 2) xs ys).records) (omega arith)
        (mux_gates_lem s k (k + 1) (k + 2) xs ys (omega arith) (omega arith) (omega arith) (below_more k (k + 2) (omega arith) xs p) (below_more k (k + 2) (omega arith) ys q)),
  ),
)

pub kind_gates : (kind k : ℕ) (a b c : List ℕ) → 0 < k → Below k a → Below k b → Below k c → GatesOf k (kind_made kind k a b c)
unfolding kind_made
kind_gates kind k a b c l p q r =
    picked (GatesOf k) (eqb kind not_kind) _ _ (record { all = not_gates k a p })
    (picked (GatesOf k) (eqb kind and_kind) _ _ (record { all = gate_gates and_op k a b (omega arith) (omega arith) p q })
    (picked (GatesOf k) (eqb kind or_kind) _ _ (record { all = gate_gates or_op k a b (omega arith) (omega arith) p q })
    (picked (GatesOf k) (eqb kind xor_kind) _ _ (record { all = gate_gates xor_op k a b (omega arith) (omega arith) p q })
    (picked (GatesOf k) (eqb kind mux_kind) _ _ (record { all = mux_all k (get_or a 0 0) b c (first_below k a l p) q r })
    (picked (GatesOf k) (eqb kind adc_kind) _ _ (record { all = adc_gates_lem k a b (get_or c 0 0) p q (first_below k c l r) })
    (picked (GatesOf k) (eqb kind eq_kind) _ _ (record { all = eq_gates_lem k a b p q })
    (picked (GatesOf k) (eqb kind ult_kind) _ _ (record { all = ult_gates_lem k a b 0 p q l })
    (picked (GatesOf k) (eqb kind slt_kind) _ _ (record { all = slt_gates_lem k a b 0 p q l })
    (record { all = tt })))))))))
