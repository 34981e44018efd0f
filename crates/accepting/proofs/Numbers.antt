-- Author's numbers and rows: a row tells its number, so runs that are longest over numbers are longest over rows.
use mathlib.Core.Path.{◌≡◌, refl, sym, ap, ◌∙◌}
use mathlib.Core.Bool.{Bool, true, false, ◌&&◌}
use mathlib.Core.List.{List, [], ◌∷◌, map}
use Prim.Native.Nat.{ℕ, ◌+◌, ◌-◌, ◌≤◌}
use native.Mathlib.Omega.{arith}
use lib.Dec.{eqb, leb}
use lib.ListN.{length}
use borrow.Author.Tests.{eqb-true, eqb-false, eq-eqb, ne_eqb, leb-true}
use Rattle.ground.specs.Lists.{every, total}
use Rattle.ground.proofs.Bools.{bool_cases, never_both, and_true, true_and, every_first}
use Rattle.netlist.specs.Netlist.{Run, const, piece, operand_width}
use Rattle.netlist.specs.Runs.{joins, longest}
use Rattle.netlist.specs.Rules.{is_trit, resolves, run_sound}
use Rattle.saying.specs.Values.{row_from, row_of, row_run}
use Rattle.accepting.proofs.Bytes.{every_map}

-- a row is counted from the first on
row_least : (ns : List ℕ) (i row : ℕ) → 1 ≤ row_from ns i row → row ≤ row_from ns i row
unfolding row_from
row_least [] i row h = absurd (omega arith)
row_least (n ∷ ns) i row h = bool_cases (eqb n i)
    (λ e. rw (e, row_from) (omega arith))
    (λ e. rw (e, row_from) (let r = row_least ns i (row + 1) (rw (e, row_from) at h) in omega arith))

-- two numbers in one row are one number
row_tells : (ns : List ℕ) (i k row : ℕ) → 1 ≤ row → 1 ≤ row_from ns i row → row_from ns i row ≡ row_from ns k row → i ≡ k
unfolding row_from
row_tells [] i k row l h e = absurd (omega arith)
row_tells (n ∷ ns) i k row l h e = bool_cases (eqb n i)
    (λ a. bool_cases (eqb n k)
    (λ b. sym (eqb-true n i a) ∙ eqb-true n k b)
    (λ b. let f : row ≡ row_from ns k (row + 1) = rw (a, row_from, b, row_from) at e in let g = row_least ns k (row + 1) (omega arith) in absurd (omega arith)))
    (λ a. bool_cases (eqb n k)
    (λ b. let f : row_from ns i (row + 1) ≡ row = rw (a, row_from, b, row_from) at e in let g = row_least ns i (row + 1) (omega arith) in absurd (omega arith))
    (λ b. row_tells ns i k (row + 1) (omega arith) (rw (a, row_from) at h) (rw (a, row_from, b, row_from) at e)))

module _ (ns ws : List ℕ) where
  -- a run whose trits are trits, or whose piece resolves
  abbrev pub run_fit : Run → Bool
  run_fit (const ts) = leb 1 (length ts) && every is_trit ts
  run_fit (piece n o w) = leb 1 w && (leb 1 (row_of ns n) && resolves ws (row_of ns n - 1) o w)

  run_rowed : (r : Run) → run_fit r ≡ true → run_sound ws (row_run ns r) ≡ true
  run_rowed (const ts) h = h
  run_rowed (piece n o w) h =
      let p = and_true (leb 1 w) (leb 1 (row_of ns n) && resolves ws (row_of ns n - 1) o w) h in
      let q = and_true (leb 1 (row_of ns n)) (resolves ws (row_of ns n - 1) o w) p.1 in
      true_and (leb 1 w) (resolves ws (row_of ns n - 1) o w) p.0 q.1

  pub runs_rowed : (rs : List Run) → every run_fit rs ≡ true → every (run_sound ws) (map (row_run ns) rs) ≡ true
  runs_rowed rs h = every_map run_fit (run_sound ws) (row_run ns) run_rowed rs h

  -- the row of a run that fits
  row_some : (n o w : ℕ) → run_fit (piece n o w) ≡ true → 1 ≤ row_of ns n
  row_some n o w h =
      let p = and_true (leb 1 w) (leb 1 (row_of ns n) && resolves ws (row_of ns n - 1) o w) h in
      leb-true 1 (row_of ns n) (and_true (leb 1 (row_of ns n)) (resolves ws (row_of ns n - 1) o w) p.1).0

  rows_same : (n m : ℕ) → 1 ≤ row_of ns n → 1 ≤ row_of ns m → eqb (row_of ns n - 1) (row_of ns m - 1) ≡ eqb n m
  rows_same n m a b = bool_cases (eqb n m)
      (λ e. let i = eqb-true n m e in rw (e, i) (eq-eqb (row_of ns m - 1) (row_of ns m - 1) refl))
      (λ e. rw e (ne_eqb (row_of ns n - 1) (row_of ns m - 1) (λ z. eqb-false n m e (row_tells ns n m 1 (omega arith) a (omega arith)))))

  joins_rowed : (r q : Run) → run_fit r ≡ true → run_fit q ≡ true → joins (row_run ns r) (row_run ns q) ≡ joins r q
  joins_rowed (const ts) (const us) a b = refl
  joins_rowed (const ts) (piece n o w) a b = refl
  joins_rowed (piece n o w) (const us) a b = refl
  joins_rowed (piece n o w) (piece m q v) a b = ap (λ (x : Bool). x && eqb o (q + v)) (rows_same n m (row_some n o w a) (row_some m q v b))

  pub longest_rowed : (rs : List Run) → every run_fit rs ≡ true → longest rs ≡ true → longest (map (row_run ns) rs) ≡ true
  unfolding longest
  longest_rowed [] h l = refl
  longest_rowed (r ∷ []) h l = refl
  longest_rowed (r ∷ q ∷ rs) h l =
      let f = every_first run_fit r (q ∷ rs) h in
      let g = every_first run_fit q rs f.1 in
      let j = joins_rowed r q f.0 g.0 in
      bool_cases (joins r q)
      (λ e. never_both (rw (e, longest) at l) refl)
      (λ e. let k : joins (row_run ns r) (row_run ns q) ≡ false = j ∙ e in rw (k, longest) (longest_rowed (q ∷ rs) f.1 (rw (e, longest) at l)))

pub width_rowed : (ns : List ℕ) (rs : List Run) → operand_width (map (row_run ns) rs) ≡ operand_width rs
unfolding total
width_rowed ns [] = refl
width_rowed ns (const ts ∷ rs) = ap (λ (n : ℕ). length ts + n) (width_rowed ns rs)
width_rowed ns (piece n o w ∷ rs) = ap (λ (k : ℕ). w + k) (width_rowed ns rs)
