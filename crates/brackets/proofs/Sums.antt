-- What an operand and a set measure is the sum over their parts, and the number of their members.
-- Assumes nothing.
use Rattle.lexis.specs.Took.{Took}
use Rattle.std.specs.Prelude.{Ok, Err}
use Rattle.ground.proofs.Pairs.{ok_first}
use mathlib.Core.Path.{◌≡◌, refl, ap, subst}
use mathlib.Core.Bool.{false}
use mathlib.Core.List.{List}
use Prim.Native.Nat.{ℕ, zero, suc, ◌+◌}
use native.Mathlib.Omega.{arith}
use lib.ListN.{length}
use Rattle.ground.specs.Lists.{total}
use Rattle.ground.proofs.Bools.{bool_cases}
use Rattle.lexis.specs.Tokens.{token_at}
use Rattle.lexis.specs.declared.Reader.{Reader}
use Rattle.lexis.specs.declared.Token.{Token}
use Rattle.brackets.specs.Words.{is_mark}
use Rattle.brackets.specs.Parts.{is_part, part_of, part_width, PartAt, next_part, concat_from, concat_at, operand, closed_operand, operand_from, operand_at, parts_from, parts_at, next_member, set_from, set_at, members_from, members_at}
use Rattle.brackets.specs.declared.Operand.{Operand}
use Rattle.brackets.specs.declared.Parted.{Parted}
use Rattle.brackets.specs.declared.Parted.TheVariants as parted
use Rattle.brackets.specs.declared.Membered.{Membered}
use Rattle.brackets.specs.declared.Membered.TheVariants as membered

-- two answers of different kinds are never the same
abbrev closes : Took ℕ → ℕ
closes (Ok (n, r)) = 1
closes (Err g) = 0

-- SETS
module _ (f : ℕ) (text : List ℕ) (m : ℕ) (r : Reader) (more : (n k : ℕ) → set_from f text n k ≡ Ok (m, r) → m ≡ n + length (members_from f text k)) where
  count_step : (n k : ℕ) (v : Took Membered) → next_member text k ≡ v → set_from (suc f) text n k ≡ Ok (m, r) → m ≡ n + length (members_from (suc f) text k)
  unfolding set_from members_from
  count_step n k (Ok (membered.Took x, q)) v e =
      let i = more (n + 1) q.next.at (rw (v, set_from) at e) in
      rw (v, members_from) (omega arith)
  count_step n k (Ok (membered.Other t, q)) v e = bool_cases (is_mark 125 t)
      (λ is. let h = rw is at (rw (v, set_from) at e) in let s : n ≡ m = ok_first h in rw (v, members_from) (omega arith))
      (λ not. let h = rw not at (rw (v, set_from) at e) in let z : ◌≡◌ {A = ℕ} 0 1 = ap closes h in absurd (omega arith))
  count_step n k (Err g) v e = let z : ◌≡◌ {A = ℕ} 0 1 = ap closes (rw (v, set_from) at e) in absurd (omega arith)

count_from : (f : ℕ) (text : List ℕ) (m : ℕ) (r : Reader) (n k : ℕ) → set_from f text n k ≡ Ok (m, r) → m ≡ n + length (members_from f text k)
unfolding set_from
count_from zero text m r n k e = let z : ◌≡◌ {A = ℕ} 0 1 = ap closes e in absurd (omega arith)
count_from (suc f) text m r n k e = count_step f text m r (count_from f text m r) n k (next_member text k) refl e

-- a set of good form counts its members
pub set_count : (text : List ℕ) (k m : ℕ) (r : Reader) → set_at text k ≡ Ok (m, r) → m ≡ length (members_at text k)
set_count text k m r e = let i = count_from (suc (length text)) text m r 0 k e in omega arith

-- OPERANDS
abbrev pub widths : List PartAt → ℕ
widths ps = total (λ p. part_width p.part) ps

module _ (f : ℕ) (text : List ℕ) (m : ℕ) (r : Reader) (more : (n k : ℕ) → concat_from f text n k ≡ Ok (m, r) → m ≡ n + widths (parts_from f text k)) where
  sum_step : (n k : ℕ) (v : Took Parted) → next_part text k ≡ v → concat_from (suc f) text n k ≡ Ok (m, r) → m ≡ n + widths (parts_from (suc f) text k)
  unfolding concat_from parts_from total
  sum_step n k (Ok (parted.Took p place, q)) v e =
      let i = more (n + part_width p) q.next.at (rw (v, concat_from) at e) in
      rw (v, parts_from) (omega arith)
  sum_step n k (Ok (parted.Other t, q)) v e = bool_cases (is_mark 93 t)
      (λ is. let h = rw is at (rw (v, concat_from) at e) in let s : n ≡ m = ok_first h in rw (v, parts_from) (omega arith))
      (λ not. let h = rw not at (rw (v, concat_from) at e) in let z : ◌≡◌ {A = ℕ} 0 1 = ap closes h in absurd (omega arith))
  sum_step n k (Err g) v e = let z : ◌≡◌ {A = ℕ} 0 1 = ap closes (rw (v, concat_from) at e) in absurd (omega arith)

sum_from : (f : ℕ) (text : List ℕ) (m : ℕ) (r : Reader) (n k : ℕ) → concat_from f text n k ≡ Ok (m, r) → m ≡ n + widths (parts_from f text k)
unfolding concat_from
sum_from zero text m r n k e = let z : ◌≡◌ {A = ℕ} 0 1 = ap closes e in absurd (omega arith)
sum_from (suc f) text m r n k e = sum_step f text m r (sum_from f text m r) n k (next_part text k) refl e

-- a concatenation of good form is as wide as its parts
pub concat_sum : (text : List ℕ) (k m : ℕ) (r : Reader) → concat_at text k ≡ Ok (m, r) → m ≡ widths (parts_from (suc (length text)) text k)
concat_sum text k m r e = let i = sum_from (suc (length text)) text m r 0 k e in omega arith

-- the width of an operand is the sum of its parts' widths
abbrev pub Sum : List ℕ → Operand → Type 0
Sum text o = o.width ≡ widths (parts_at text o)

abbrev takes : Took Operand → ℕ
takes (Ok (o, r)) = 1
takes (Err g) = 0

module _ (text : List ℕ) (k : ℕ) (o : Operand) (r : Reader) where
  closed_sum : (t : Token) (q : Reader) → token_at text k ≡ Ok (t, q) → is_part t ≡ false → (v : Took ℕ) → concat_at text q.next.at ≡ v → closed_operand k v ≡ Ok (o, r) → Sum text o
  unfolding parts_at
  closed_sum t q e not (Ok (n, p)) v f =
      let same : operand k n ≡ o = ok_first f in
      subst (Sum text) same (rw (e, not) (concat_sum text q.next.at n p v))
  closed_sum t q e not (Err g) v f = let z : ◌≡◌ {A = ℕ} 0 1 = ap takes f in absurd (omega arith)

  from_sum : (s : Took Token) → token_at text k ≡ s → operand_from text k s ≡ Ok (o, r) → Sum text o
  unfolding parts_at total
  from_sum (Err g) e f = let z : ◌≡◌ {A = ℕ} 0 1 = ap takes f in absurd (omega arith)
  from_sum (Ok (t, q)) e f = bool_cases (is_part t)
      (λ is. let h = rw is at f in
      let same : operand k (part_width (part_of t)) ≡ o = ok_first h in
      subst (Sum text) same (rw (e, is) (omega arith)))
      (λ not. let h = rw not at f in bool_cases (is_mark 91 t)
      (λ is. closed_sum t q e not (concat_at text q.next.at) refl (rw is at h))
      (λ no-mark. let z : ◌≡◌ {A = ℕ} 0 1 = ap takes (rw no-mark at h) in absurd (omega arith)))

  -- an operand of good form is as wide as its parts
  pub operand_sum : operand_at text k ≡ Ok (o, r) → Sum text o
  unfolding operand_at
  operand_sum e = from_sum (token_at text k) refl e
