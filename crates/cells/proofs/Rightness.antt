-- The records of each kind come to the kind's gates, for operands of any width whose slots are made.
use mathlib.Core.Path.{◌≡◌, refl, ap, ap₂, ◌∙◌, sym, subst}
use mathlib.Core.List.{List, [], ◌∷◌, ◌++◌, map, append_assoc}
use Prim.Native.Nat.{ℕ, zero, suc, ◌+◌, ◌<◌, ◌≤◌}
use native.Mathlib.Omega.{arith}
use native.Mathlib.Nat.{add-zero}
use lib.ListN.{length, get_or, length-append}
use Rattle.trit.specs.Trit.{not_of, and_of, or_of, xor_of}
use Rattle.trit.specs.Wide.{not_bits, pairs}
use Rattle.trit.specs.Gates.{mux_gate, mux_gates, carry_gates, adc_gates, eq_gates_from, eq_gates, ult_gates_from, ult_gates, slt_gates_from, slt_gates}
use Rattle.loadlist.specs.Records.{rec, not_op, and_op, or_op, xor_op}
use Rattle.loadlist.specs.Run.{slot_of, slots_from}
use Rattle.loadlist.specs.declared.Record.{Record}
use Rattle.cells.specs.Records.{Made, made, then, not_made, gate_made, mux_from, mux_made, carry_records, adc_made, eq_from, eq_made, below_records, ult_made, slt_made}
use Rattle.cells.proofs.Running.{at, reads_of, Early, old, new, reads_old, both_old, early_old, ran_step, ran_start, ran_end, Right, right_none, right_then}

module _ (ins : List ℕ) where
  -- the slot k of a value that is just added
  last : (S : List ℕ) (k v : ℕ) → k ≡ length S → reads_of (S ++ (v ∷ [])) (k ∷ []) ≡ v ∷ []
  last S k v e = ap (λ (x : ℕ). x ∷ []) (new S (v ∷ []) k 0 (e ∙ sym (add-zero (length S))))

  last_early : (S : List ℕ) (k v : ℕ) → k ≡ length S → Early (S ++ (v ∷ [])) (k ∷ [])
  last_early S k v e = (omega (arith, length-append S (v ∷ [])), tt)

  next : (S : List ℕ) (k v : ℕ) → k ≡ length S → k + 1 ≡ length (S ++ (v ∷ []))
  next S k v e = omega (arith, length-append S (v ∷ []))

  -- NOT
  pub not_right : (S : List ℕ) (k : ℕ) → k ≡ length S → (xs : List ℕ) → Early S xs → Right ins S (not_made k xs) (not_bits (reads_of S xs))
  unfolding not_made not_bits slots_from
  not_right S k e [] h = right_none ins S [] tt
  not_right S k e (x ∷ xs) h =
      let v = not_of (at S x) in
      let w = not_right (S ++ (v ∷ [])) (k + 1) (next S k v e) xs (early_old S (v ∷ []) xs h.1) in
      right_then ins S (v ∷ []) (rec not_op x 0 ∷ []) (k ∷ []) (v ∷ []) (not_bits (reads_of S xs)) (not_made (k + 1) xs) refl (last S k v e) (last_early S k v e)
      (subst (λ (l : List ℕ). Right ins (S ++ (v ∷ [])) (not_made (k + 1) xs) (not_bits l)) (reads_old S (v ∷ []) xs h.1) w)

  -- AND, OR, XOR: an operation that makes f of its two slots
  pub gate_right : (op : ℕ) (f : ℕ → ℕ → ℕ) → ((S : List ℕ) (x y : ℕ) → slot_of (rec op x y) ins S ≡ f (at S x) (at S y))
      → (S : List ℕ) (k : ℕ) → k ≡ length S → (xs ys : List ℕ) → Early S xs → Early S ys → Right ins S (gate_made op k xs ys) (pairs f (reads_of S xs) (reads_of S ys))
  unfolding gate_made pairs slots_from
  gate_right op f g S k e [] ys p q = right_none ins S [] tt
  gate_right op f g S k e (x ∷ xs) [] p q = right_none ins S [] tt
  gate_right op f g S k e (x ∷ xs) (y ∷ ys) p q =
      let v = f (at S x) (at S y) in
      let w = gate_right op f g (S ++ (v ∷ [])) (k + 1) (next S k v e) xs ys (early_old S (v ∷ []) xs p.1) (early_old S (v ∷ []) ys q.1) in
      right_then ins S (v ∷ []) (rec op x y ∷ []) (k ∷ []) (v ∷ []) (pairs f (reads_of S xs) (reads_of S ys)) (gate_made op (k + 1) xs ys)
      (ap (λ (z : ℕ). S ++ (z ∷ [])) (g S x y)) (last S k v e) (last_early S k v e)
      (both_old (λ a b. Right ins (S ++ (v ∷ [])) (gate_made op (k + 1) xs ys) (pairs f a b)) S (v ∷ []) xs ys p.1 q.1 w)

  -- places among the slots just added: k is the first of them
  spot : (S : List ℕ) (k : ℕ) → k ≡ length S → (T : List ℕ) (i j : ℕ) → i ≡ k + j → at (S ++ T) i ≡ at T j
  spot S k e T i j f = new S T i j (omega arith)

  -- MUX, bit by bit: the select, its not and its xor with itself stand in slots that are made
  module _ (s n x σ ν ξ : ℕ) where
    abbrev mux_bit : ℕ → ℕ → ℕ
    mux_bit a b = xor_of ξ (or_of (and_of σ a) (and_of ν b))

    pub mux_bits : (S : List ℕ) (k : ℕ) → k ≡ length S → s < length S → n < length S → x < length S → at S s ≡ σ → at S n ≡ ν → at S x ≡ ξ
        → (xs ys : List ℕ) → Early S xs → Early S ys → Right ins S (mux_from s n x k xs ys) (pairs mux_bit (reads_of S xs) (reads_of S ys))
    unfolding mux_from pairs
    mux_bits S k e ls ln lx es en ex [] ys p q = right_none ins S [] tt
    mux_bits S k e ls ln lx es en ex (a ∷ xs) [] p q = right_none ins S [] tt
    mux_bits S k e ls ln lx es en ex (b ∷ xs) (c ∷ ys) p q =
        let g = and_of σ (at S b) in
        let h = and_of ν (at S c) in
        let o = or_of g h in
        let r = xor_of ξ o in
        let T = g ∷ h ∷ o ∷ r ∷ [] in
        let l = length-append S T in
        let w = mux_bits (S ++ T) (k + 4) (omega arith) (omega arith) (omega arith) (omega arith) (old S T s ls ∙ es) (old S T n ln ∙ en) (old S T x lx ∙ ex) xs ys (early_old S T xs p.1) (early_old S T ys q.1) in
        right_then ins S T _ ((k + 3) ∷ []) (r ∷ []) (pairs mux_bit (reads_of S xs) (reads_of S ys)) (mux_from s n x (k + 4) xs ys)
        (ran_start ins S _
        ∙ ran_step ins S [] (rec and_op s b) _ g (ap₂ and_of (old S [] s ls ∙ es) (old S [] b p.0))
        ∙ ran_step ins S (g ∷ []) (rec and_op n c) _ h (ap₂ and_of (old S (g ∷ []) n ln ∙ en) (old S (g ∷ []) c q.0))
        ∙ ran_step ins S (g ∷ h ∷ []) (rec or_op k (k + 1)) _ o (ap₂ or_of (spot S k e (g ∷ h ∷ []) k 0 (omega arith)) (spot S k e (g ∷ h ∷ []) (k + 1) 1 refl))
        ∙ ran_step ins S (g ∷ h ∷ o ∷ []) (rec xor_op x (k + 2)) [] r (ap₂ xor_of (old S (g ∷ h ∷ o ∷ []) x lx ∙ ex) (spot S k e (g ∷ h ∷ o ∷ []) (k + 2) 2 refl))
        ∙ ran_end ins (S ++ T))
        (ap (λ (z : ℕ). z ∷ []) (spot S k e T (k + 3) 3 refl)) (omega arith, tt)
        (both_old (λ a b. Right ins (S ++ T) (mux_from s n x (k + 4) xs ys) (pairs mux_bit a b)) S T xs ys p.1 q.1 w)

  pub mux_right : (S : List ℕ) (k : ℕ) → k ≡ length S → (s : ℕ) → s < length S → (xs ys : List ℕ) → Early S xs → Early S ys
      → Right ins S (mux_made k s xs ys) (mux_gates (at S s) (reads_of S xs) (reads_of S ys))
  unfolding mux_made mux_gates mux_gate
  mux_right S k e s ls xs ys p q =
      let σ = at S s in
      let T = not_of σ ∷ xor_of σ σ ∷ [] in
      let l = length-append S T in
      let w = mux_bits s k (k + 1) σ (not_of σ) (xor_of σ σ) (S ++ T) (k + 2) (omega arith) (omega arith) (omega arith) (omega arith) (old S T s ls) (spot S k e T k 0 (omega arith)) (spot S k e T (k + 1) 1 refl) xs ys (early_old S T xs p) (early_old S T ys q) in
      right_then ins S T (rec not_op s 0 ∷ rec xor_op s s ∷ []) [] [] (pairs (mux_bit s k (k + 1) σ (not_of σ) (xor_of σ σ)) (reads_of S xs) (reads_of S ys)) (mux_from s k (k + 1) (k + 2) xs ys)
      (ran_start ins S _
      ∙ ran_step ins S [] (rec not_op s 0) _ (not_of σ) (ap not_of (old S [] s ls))
      ∙ ran_step ins S (not_of σ ∷ []) (rec xor_op s s) [] (xor_of σ σ) (ap₂ xor_of (old S (not_of σ ∷ []) s ls) (old S (not_of σ ∷ []) s ls))
      ∙ ran_end ins (S ++ T))
      refl tt
      (both_old (λ a b. Right ins (S ++ T) (mux_from s k (k + 1) (k + 2) xs ys) (pairs (mux_bit s k (k + 1) σ (not_of σ) (xor_of σ σ)) a b)) S T xs ys p q w)

  -- THE CARRY: what its four records add, the next carry last
  abbrev carried : ℕ → ℕ → ℕ → List ℕ
  carried α β γ = and_of α β ∷ or_of α β ∷ and_of (or_of α β) γ ∷ or_of (and_of α β) (and_of (or_of α β) γ) ∷ []

  pub carry_ran : (S : List ℕ) (k : ℕ) → k ≡ length S → (x y c : ℕ) → x < length S → y < length S → c < length S
      → slots_from (carry_records k x y c) ins S ≡ S ++ carried (at S x) (at S y) (at S c)
  carry_ran S k e x y c lx ly lc =
      let α = at S x in
      let β = at S y in
      let γ = at S c in
      let g = and_of α β in
      let p = or_of α β in
      let q = and_of p γ in
      ran_start ins S _
      ∙ ran_step ins S [] (rec and_op x y) _ g (ap₂ and_of (old S [] x lx) (old S [] y ly))
      ∙ ran_step ins S (g ∷ []) (rec or_op x y) _ p (ap₂ or_of (old S (g ∷ []) x lx) (old S (g ∷ []) y ly))
      ∙ ran_step ins S (g ∷ p ∷ []) (rec and_op (k + 1) c) _ q (ap₂ and_of (spot S k e (g ∷ p ∷ []) (k + 1) 1 refl) (old S (g ∷ p ∷ []) c lc))
      ∙ ran_step ins S (g ∷ p ∷ q ∷ []) (rec or_op k (k + 2)) [] (or_of g q) (ap₂ or_of (spot S k e (g ∷ p ∷ q ∷ []) k 0 (omega arith)) (spot S k e (g ∷ p ∷ q ∷ []) (k + 2) 2 refl))
      ∙ ran_end ins (S ++ carried α β γ)

  -- ADC
  pub adc_right : (S : List ℕ) (k : ℕ) → k ≡ length S → (xs ys : List ℕ) (c : ℕ) → Early S xs → Early S ys → c < length S
      → Right ins S (adc_made k xs ys c) (adc_gates (reads_of S xs) (reads_of S ys) (at S c))
  unfolding adc_made adc_gates carry_gates
  adc_right S k e [] ys c p q lc = right_none ins S (c ∷ []) (lc, tt)
  adc_right S k e (x ∷ xs) [] c p q lc = right_none ins S (c ∷ []) (lc, tt)
  adc_right S k e (x ∷ xs) (y ∷ ys) c p q lc =
      let α = at S x in
      let β = at S y in
      let γ = at S c in
      let u = xor_of α β in
      let v = xor_of u γ in
      let R = S ++ (u ∷ v ∷ []) in
      let T = u ∷ v ∷ carried α β γ in
      let l = length-append S T in
      let m = length-append S (u ∷ v ∷ []) in
      let w = adc_right (S ++ T) (k + 6) (omega arith) xs ys (k + 5) (early_old S T xs p.1) (early_old S T ys q.1) (omega arith) in
      let f : slots_from (carry_records (k + 2) x y c) ins R ≡ S ++ T =
      carry_ran R (k + 2) (omega arith) x y c (omega (arith, p.0)) (omega (arith, q.0)) (omega arith)
      ∙ rw (old S (u ∷ v ∷ []) x p.0, old S (u ∷ v ∷ []) y q.0, old S (u ∷ v ∷ []) c lc) (append_assoc S (u ∷ v ∷ []) (carried α β γ)) in
      let g : slots_from (rec xor_op x y ∷ rec xor_op k c ∷ carry_records (k + 2) x y c) ins S ≡ S ++ T =
      ran_start ins S _
      ∙ ran_step ins S [] (rec xor_op x y) _ u (ap₂ xor_of (old S [] x p.0) (old S [] y q.0))
      ∙ ran_step ins S (u ∷ []) (rec xor_op k c) _ v (ap₂ xor_of (spot S k e (u ∷ []) k 0 (omega arith)) (old S (u ∷ []) c lc))
      ∙ f in
      right_then ins S T _ ((k + 1) ∷ []) (v ∷ []) (adc_gates (reads_of S xs) (reads_of S ys) (carry_gates α β γ)) (adc_made (k + 6) xs ys (k + 5)) g
      (ap (λ (z : ℕ). z ∷ []) (spot S k e T (k + 1) 1 refl)) (omega arith, tt)
      (subst (λ (z : ℕ). Right ins (S ++ T) (adc_made (k + 6) xs ys (k + 5)) (adc_gates (reads_of S xs) (reads_of S ys) z)) (spot S k e T (k + 5) 5 refl)
      (both_old (λ a b. Right ins (S ++ T) (adc_made (k + 6) xs ys (k + 5)) (adc_gates a b (at (S ++ T) (k + 5)))) S T xs ys p.1 q.1 w))

  -- EQ: `sum` is the slot of the sum so far
  eq_end : (S : List ℕ) (k : ℕ) → k ≡ length S → (sum : ℕ) → sum < length S → Right ins S (made (rec not_op sum 0 ∷ []) (k ∷ [])) (not_of (at S sum) ∷ [])
  eq_end S k e sum l =
      let v = not_of (at S sum) in
      record {
        added = v ∷ [];
        ran = ran_start ins S _ ∙ ran_step ins S [] (rec not_op sum 0) [] v (ap not_of (old S [] sum l)) ∙ ran_end ins (S ++ (v ∷ []));
        holds = last S k v e;
        early = last_early S k v e;
      }

  pub eq_from_lem : (S : List ℕ) (k : ℕ) → k ≡ length S → (sum : ℕ) → sum < length S → (xs ys : List ℕ) → Early S xs → Early S ys
      → Right ins S (eq_from sum k xs ys) (eq_gates_from (reads_of S xs) (reads_of S ys) (at S sum) ∷ [])
  unfolding eq_from eq_gates_from
  eq_from_lem S k e sum l [] ys p q = eq_end S k e sum l
  eq_from_lem S k e sum l (x ∷ xs) [] p q = eq_end S k e sum l
  eq_from_lem S k e sum l (x ∷ xs) (y ∷ ys) p q =
      let u = xor_of (at S x) (at S y) in
      let v = or_of (at S sum) u in
      let T = u ∷ v ∷ [] in
      let m = length-append S T in
      let w = eq_from_lem (S ++ T) (k + 2) (omega arith) (k + 1) (omega arith) xs ys (early_old S T xs p.1) (early_old S T ys q.1) in
      right_then ins S T _ [] [] (eq_gates_from (reads_of S xs) (reads_of S ys) v ∷ []) (eq_from (k + 1) (k + 2) xs ys)
      (ran_start ins S _
      ∙ ran_step ins S [] (rec xor_op x y) _ u (ap₂ xor_of (old S [] x p.0) (old S [] y q.0))
      ∙ ran_step ins S (u ∷ []) (rec or_op sum k) [] v (ap₂ or_of (old S (u ∷ []) sum l) (spot S k e (u ∷ []) k 0 (omega arith)))
      ∙ ran_end ins (S ++ T))
      refl tt
      (subst (λ (z : ℕ). Right ins (S ++ T) (eq_from (k + 1) (k + 2) xs ys) (eq_gates_from (reads_of S xs) (reads_of S ys) z ∷ [])) (spot S k e T (k + 1) 1 refl)
      (both_old (λ a b. Right ins (S ++ T) (eq_from (k + 1) (k + 2) xs ys) (eq_gates_from a b (at (S ++ T) (k + 1)) ∷ [])) S T xs ys p.1 q.1 w))

  -- operands have a bit
  pub eq_right : (S : List ℕ) (k : ℕ) → k ≡ length S → (x y : ℕ) (xs ys : List ℕ) → Early S (x ∷ xs) → Early S (y ∷ ys)
      → Right ins S (eq_made k (x ∷ xs) (y ∷ ys)) (eq_gates (reads_of S (x ∷ xs)) (reads_of S (y ∷ ys)) ∷ [])
  unfolding eq_made eq_gates
  eq_right S k e x y xs ys p q =
      let u = xor_of (at S x) (at S y) in
      let T = u ∷ [] in
      let m = length-append S T in
      let w = eq_from_lem (S ++ T) (k + 1) (next S k u e) k (omega arith) xs ys (early_old S T xs p.1) (early_old S T ys q.1) in
      right_then ins S T (rec xor_op x y ∷ []) [] [] (eq_gates_from (reads_of S xs) (reads_of S ys) u ∷ []) (eq_from k (k + 1) xs ys)
      (ran_start ins S _ ∙ ran_step ins S [] (rec xor_op x y) [] u (ap₂ xor_of (old S [] x p.0) (old S [] y q.0)) ∙ ran_end ins (S ++ T))
      refl tt
      (subst (λ (z : ℕ). Right ins (S ++ T) (eq_from k (k + 1) xs ys) (eq_gates_from (reads_of S xs) (reads_of S ys) z ∷ [])) (spot S k e T k 0 (omega arith))
      (both_old (λ a b. Right ins (S ++ T) (eq_from k (k + 1) xs ys) (eq_gates_from a b (at (S ++ T) k) ∷ [])) S T xs ys p.1 q.1 w))

  -- ULT AND SLT: a bit below the top
  pub below_ran : (S : List ℕ) (k : ℕ) → k ≡ length S → (x y c : ℕ) → x < length S → y < length S → c < length S
      → slots_from (below_records k x y c) ins S ≡ S ++ (not_of (at S x) ∷ carried (not_of (at S x)) (at S y) (at S c))
  below_ran S k e x y c lx ly lc =
      let u = not_of (at S x) in
      let m = length-append S (u ∷ []) in
      ran_start ins S _
      ∙ ran_step ins S [] (rec not_op x 0) _ u (ap not_of (old S [] x lx))
      ∙ carry_ran (S ++ (u ∷ [])) (k + 1) (next S k u e) k y c (omega arith) (omega arith) (omega arith)
      ∙ rw (spot S k e (u ∷ []) k 0 (omega arith), old S (u ∷ []) y ly, old S (u ∷ []) c lc) (append_assoc S (u ∷ []) (carried u (at S y) (at S c)))

  pub ult_right : (S : List ℕ) (k : ℕ) → k ≡ length S → (xs ys : List ℕ) (c : ℕ) → Early S xs → Early S ys → c < length S
      → Right ins S (ult_made k xs ys c) (ult_gates_from (reads_of S xs) (reads_of S ys) (at S c) ∷ [])
  unfolding ult_made ult_gates_from carry_gates
  ult_right S k e [] ys c p q lc = right_none ins S (c ∷ []) (lc, tt)
  ult_right S k e (x ∷ xs) [] c p q lc = right_none ins S (c ∷ []) (lc, tt)
  ult_right S k e (x ∷ xs) (y ∷ ys) c p q lc =
      let u = not_of (at S x) in
      let T = u ∷ carried u (at S y) (at S c) in
      let m = length-append S T in
      let w = ult_right (S ++ T) (k + 5) (omega arith) xs ys (k + 4) (early_old S T xs p.1) (early_old S T ys q.1) (omega arith) in
      right_then ins S T (below_records k x y c) [] [] (ult_gates_from (reads_of S xs) (reads_of S ys) (carry_gates u (at S y) (at S c)) ∷ []) (ult_made (k + 5) xs ys (k + 4))
      (below_ran S k e x y c p.0 q.0 lc) refl tt
      (subst (λ (z : ℕ). Right ins (S ++ T) (ult_made (k + 5) xs ys (k + 4)) (ult_gates_from (reads_of S xs) (reads_of S ys) z ∷ [])) (spot S k e T (k + 4) 4 refl)
      (both_old (λ a b. Right ins (S ++ T) (ult_made (k + 5) xs ys (k + 4)) (ult_gates_from a b (at (S ++ T) (k + 4)) ∷ [])) S T xs ys p.1 q.1 w))

  pub slt_right : (S : List ℕ) (k : ℕ) → k ≡ length S → (xs ys : List ℕ) (c : ℕ) → Early S xs → Early S ys → c < length S
      → Right ins S (slt_made k xs ys c) (slt_gates_from (reads_of S xs) (reads_of S ys) (at S c) ∷ [])
  unfolding slt_made slt_gates_from carry_gates
  slt_right S k e [] ys c p q lc = right_none ins S (c ∷ []) (lc, tt)
  slt_right S k e (x ∷ []) [] c p q lc = right_none ins S (c ∷ []) (lc, tt)
  slt_right S k e (x ∷ []) (y ∷ ys) c p q lc =
      let v = not_of (at S y) in
      let T = v ∷ carried (at S x) v (at S c) in
      let m = length-append S T in
      let n = length-append S (v ∷ []) in
      record {
        added = T;
        ran =
            ran_start ins S _
            ∙ ran_step ins S [] (rec not_op y 0) _ v (ap not_of (old S [] y q.0))
            ∙ carry_ran (S ++ (v ∷ [])) (k + 1) (next S k v e) x k c (omega (arith, p.0)) (omega arith) (omega arith)
            ∙ rw (old S (v ∷ []) x p.0, spot S k e (v ∷ []) k 0 (omega arith), old S (v ∷ []) c lc) (append_assoc S (v ∷ []) (carried (at S x) v (at S c)));
        holds = ap (λ (z : ℕ). z ∷ []) (spot S k e T (k + 4) 4 refl);
        early = (omega arith, tt);
      }
  slt_right S k e (x ∷ x' ∷ xs) [] c p q lc = right_none ins S (c ∷ []) (lc, tt)
  slt_right S k e (x ∷ x' ∷ xs) (y ∷ ys) c p q lc =
      let u = not_of (at S x) in
      let T = u ∷ carried u (at S y) (at S c) in
      let m = length-append S T in
      let w = slt_right (S ++ T) (k + 5) (omega arith) (x' ∷ xs) ys (k + 4) (early_old S T (x' ∷ xs) p.1) (early_old S T ys q.1) (omega arith) in
      right_then ins S T (below_records k x y c) [] [] (slt_gates_from (reads_of S (x' ∷ xs)) (reads_of S ys) (carry_gates u (at S y) (at S c)) ∷ []) (slt_made (k + 5) (x' ∷ xs) ys (k + 4))
      (below_ran S k e x y c p.0 q.0 lc) refl tt
      (subst (λ (z : ℕ). Right ins (S ++ T) (slt_made (k + 5) (x' ∷ xs) ys (k + 4)) (slt_gates_from (reads_of S (x' ∷ xs)) (reads_of S ys) z ∷ [])) (spot S k e T (k + 4) 4 refl)
      (both_old (λ a b. Right ins (S ++ T) (slt_made (k + 5) (x' ∷ xs) ys (k + 4)) (slt_gates_from a b (at (S ++ T) (k + 4)) ∷ [])) S T (x' ∷ xs) ys p.1 q.1 w))
