-- The walk over the runs of an operand comes to its end exactly where they are laid out as the runs that they show, which are sound.
use Rattle.std.specs.Prelude.{Some, None}
use mathlib.Core.Path.{◌≡◌, refl, sym, ap, ◌∙◌}
use mathlib.Core.Bool.{true, not, ◌&&◌, ◌||◌}
use mathlib.Core.List.{List, [], ◌∷◌, ◌++◌, append_assoc}
use Prim.Native.Nat.{ℕ, zero, suc, ◌+◌, ◌-◌, ◌*◌, ◌≤◌}
use native.Mathlib.Omega.{arith}
use native.Mathlib.Nat.{add-zero}
use native.Mathlib.Decide.{ℕ_discrete}
use lib.Dec.{eqb, leb, eqb-suc-zero}
use lib.ListN.{length, drop, get_or, length-append, length-drop}
use lib.Seq.{get_or-drop}
use borrow.Author.Tests.{eq-eqb, ne_eqb, le-leb}
use Rattle.ground.specs.Choice.{pick}
use Rattle.ground.specs.Lists.{every, joined, total}
use Rattle.ground.specs.Regions.{part}
use Rattle.ground.proofs.Bools.{bool_cases, never_both, and_true, true_and, every_first, every_more}
use Rattle.ground.proofs.Rest.{rest_rest}
use Rattle.ground.proofs.Regions.{part_length}
use Rattle.netlist.specs.Netlist.{Run, const, piece, run_width, operand_width, bits_in, run_bits_of}
use Rattle.netlist.specs.Rules.{is_trit, resolves, run_sound, operand_sound}
use Rattle.netlist.specs.Runs.{joins, longest}
use Rattle.netlist.specs.Tables.{Tables, run_row, run_rows}
use Rattle.netlist.specs.View.{word, run_in, runs_in}
use Rattle.pools.specs.Lying.{lies}
use Rattle.checkmeta.proofs.Laws.{lies_is}
use Rattle.checkmeta.proofs.Fits.{part_rest}
use Rattle.ground.proofs.Pairs.{some_first, some_second}
use Rattle.checkcells.specs.Runs.{joins_next, run_good, head_good, run_trits, operand_walk}
use Rattle.checkcells.proofs.Laws.{head_run}

-- the rows behind a row
pub next_run : (r : ℕ) (runs : List ℕ) → drop 3 (drop (r * 3) runs) ≡ drop ((r + 1) * 3) runs
next_run r runs = let e : r * 3 + 3 ≡ (r + 1) * 3 = omega arith in rest_rest runs (r * 3) 3 ∙ ap (λ (k : ℕ). drop k runs) e

-- NEIGHBOURS
pub joins_is : (T : Tables) (row : List ℕ) → joins (run_in T row) (run_in T (drop 3 row)) ≡ joins_next row
joins_is T row =
    let a : word (drop 3 row) 0 ≡ word row 3 = get_or-drop 3 row 0 0 in
    let b : word (drop 3 row) 1 ≡ word row 4 = get_or-drop 3 row 1 0 in
    let d : word (drop 3 row) 2 ≡ word row 5 = get_or-drop 3 row 2 0 in
    rw (a, b, d) (go (ℕ_discrete (word row 0) 0) (ℕ_discrete (word row 3) 0) (ℕ_discrete (word row 0) (word row 3)))
  where
    go : Dec (word row 0 ≡ 0) → Dec (word row 3 ≡ 0) → Dec (word row 0 ≡ word row 3)
        → joins (run_in T row) (pick (eqb (word row 3) 0) (const (part (word row 4) (word row 5) T.run_bits)) (piece (word row 3 - 1) (word row 4) (word row 5))) ≡ joins_next row
    go (yes p) (yes q) x = rw (eq-eqb _ _ p, eq-eqb _ _ q)
    go (yes p) (no q) x = rw (eq-eqb _ _ p, ne_eqb _ _ q)
    go (no p) (yes q) x = rw (ne_eqb _ _ p, eq-eqb _ _ q)
    go (no p) (no q) (yes x) = rw (ne_eqb _ _ p, ne_eqb _ _ q, eq-eqb (word row 0) (word row 3) x, eq-eqb (word row 0 - 1) (word row 3 - 1) (omega arith))
    go (no p) (no q) (no x) = rw (ne_eqb _ _ p, ne_eqb _ _ q, ne_eqb (word row 0) (word row 3) x, ne_eqb (word row 0 - 1) (word row 3 - 1) (λ e. omega arith))

-- ONE RUN
pub record Ran (T : Tables) (ws : List ℕ) (b : ℕ) (row : List ℕ) : Type 0 where
  pub row_is : run_row b (run_in T row) ≡ word row 0 ∷ word row 1 ∷ word row 2 ∷ []
  pub trits : length (bits_in (run_in T row)) ≡ run_trits row
  pub bits : drop b T.run_bits ≡ bits_in (run_in T row) ++ drop (b + run_trits row) T.run_bits
  pub wide : run_width (run_in T row) ≡ word row 2
  pub sound : run_sound ws (run_in T row) ≡ true

module _ (T : Tables) (l : length T.run_bits ≡ 262656) (ws : List ℕ) (b : ℕ) (row : List ℕ) where
  pub run_ran : run_good ws T.run_bits b row ≡ true → Ran T ws b row
  run_ran h = go (ℕ_discrete (word row 0) 0)
    where
      go : Dec (word row 0 ≡ 0) → Ran T ws b row
      go (yes z) =
          let e = eq-eqb (word row 0) 0 z in
          let p = and_true (leb 1 (word row 2)) _ h in
          let q : lies b 262656 (word row 1) (word row 2) && every is_trit (part b (word row 2) T.run_bits) ≡ true = rw e at p.1 in
          let s = and_true (lies b 262656 (word row 1) (word row 2)) _ q in
          let t = lies_is b 262656 (word row 1) (word row 2) s.0 in
          let n : length (part (word row 1) (word row 2) T.run_bits) ≡ word row 2 = part_length (word row 1) (word row 2) T.run_bits (omega (arith, t.0, t.1, l)) in
          record {
            row_is = rw (e, n, t.0, z);
            trits = rw (e, n);
            bits = rw (e, t.0) (part_rest b (word row 2) T.run_bits);
            wide = rw (e, n);
            sound = rw (e, n, t.0) (true_and _ _ p.0 s.1);
          }
      go (no z) =
          let e = ne_eqb (word row 0) 0 z in
          let p = and_true (leb 1 (word row 2)) _ h in
          let k : word row 0 - 1 + 1 ≡ word row 0 = omega arith in
          record {
            row_is = rw (e, k);
            trits = rw e;
            bits = rw (e, add-zero b);
            wide = rw e;
            sound = rw e (true_and _ _ p.0 (rw e at p.1));
          }

  -- and back
  pub ran_run : (rest : List ℕ) → row ≡ run_row b (run_in T row) ++ rest → b + length (bits_in (run_in T row)) ≤ 262656 → run_sound ws (run_in T row) ≡ true
      → (run_good ws T.run_bits b row ≡ true) × (length (bits_in (run_in T row)) ≡ run_trits row) × (run_width (run_in T row) ≡ word row 2)
  ran_run rest w m s = go (ℕ_discrete (word row 0) 0)
    where
      go : Dec (word row 0 ≡ 0) → (run_good ws T.run_bits b row ≡ true) × (length (bits_in (run_in T row)) ≡ run_trits row) × (run_width (run_in T row) ≡ word row 2)
      go (yes z) =
          let e = eq-eqb (word row 0) 0 z in
          let ts = part (word row 1) (word row 2) T.run_bits in
          let w' : row ≡ 0 ∷ b ∷ length ts ∷ rest = w ∙ rw e in
          let p : word row 1 ≡ b = ap (λ (t : List ℕ). get_or t 1 0) w' in
          let q : word row 2 ≡ length ts = ap (λ (t : List ℕ). get_or t 2 0) w' in
          let m' : b + length ts ≤ 262656 = rw e at m in
          let s' : leb 1 (length ts) && every is_trit ts ≡ true = rw e at s in
          let u = and_true (leb 1 (length ts)) (every is_trit ts) s' in
          let v : every is_trit (part b (word row 2) T.run_bits) ≡ true = rw p at u.1 in
          let y : leb 1 (word row 2) ≡ true = rw (← q) at u.0 in
          (true_and _ _ y (rw e (true_and _ _ (true_and _ _ (eq-eqb (word row 1) b p) (le-leb (b + word row 2) 262656 (omega arith))) v)), rw e (sym q), rw e (sym q))
      go (no z) =
          let e = ne_eqb (word row 0) 0 z in
          let s' : leb 1 (word row 2) && resolves ws (word row 0 - 1) (word row 1) (word row 2) ≡ true = rw e at s in
          let u = and_true (leb 1 (word row 2)) _ s' in
          (true_and _ _ u.0 (rw e u.1), rw e, rw e)

-- three words at the front
three : (t : List ℕ) → 3 ≤ length t → t ≡ word t 0 ∷ word t 1 ∷ word t 2 ∷ drop 3 t
three [] h = absurd (omega arith)
three (x ∷ []) h = absurd (omega arith)
three (x ∷ y ∷ []) h = absurd (omega arith)
three (x ∷ y ∷ z ∷ t) h = refl

-- LONGEST RUNS, one run further
longest_more : (T : Tables) (n : ℕ) (row : List ℕ) → eqb n 0 || not (joins_next row) ≡ true → longest (runs_in T n (drop 3 row)) ≡ true → longest (run_in T row ∷ runs_in T n (drop 3 row)) ≡ true
unfolding longest runs_in
longest_more T zero row h l = refl
longest_more T (suc n) row h l = bool_cases (joins_next row)
    (λ e. never_both (rw (eqb-suc-zero n, e) at h) refl)
    (λ e. rw (joins_is T row ∙ e, longest) l)

longest_first : (T : Tables) (n : ℕ) (row : List ℕ) → longest (run_in T row ∷ runs_in T n (drop 3 row)) ≡ true → (eqb n 0 || not (joins_next row) ≡ true) × (longest (runs_in T n (drop 3 row)) ≡ true)
unfolding longest runs_in
longest_first T zero row h = (refl, refl)
longest_first T (suc n) row h = bool_cases (joins_next row)
    (λ e. never_both (rw (joins_is T row ∙ e, longest) at h) refl)
    (λ e. (rw (eqb-suc-zero n, e), rw (joins_is T row ∙ e, longest) at h))

-- AN OPERAND'S RUNS
pub record Operands (T : Tables) (ws : List ℕ) (r b w n x e : ℕ) : Type 0 where
  pub rows : drop (r * 3) T.runs ≡ run_rows b (runs_in T n (drop (r * 3) T.runs)) ++ drop ((r + n) * 3) T.runs
  pub bits : drop b T.run_bits ≡ run_bits_of (runs_in T n (drop (r * 3) T.runs)) ++ drop e T.run_bits
  pub end : e ≡ b + length (run_bits_of (runs_in T n (drop (r * 3) T.runs)))
  pub wide : x ≡ w + operand_width (runs_in T n (drop (r * 3) T.runs))
  pub sound : operand_sound ws (runs_in T n (drop (r * 3) T.runs)) ≡ true

module _ (T : Tables) (l : length T.run_bits ≡ 262656) (ws : List ℕ) where
  operand_more : (r b w n x e : ℕ) → 3 ≤ length (drop (r * 3) T.runs) → head_good ws T.run_bits b n (drop (r * 3) T.runs) ≡ true
      → Operands T ws (r + 1) (b + run_trits (drop (r * 3) T.runs)) (w + word (drop (r * 3) T.runs) 2) n x e
      → Operands T ws r b w (suc n) x e
  unfolding runs_in run_rows joined total
  operand_more r b w n x e h g o =
      let R = drop (r * 3) T.runs in
      let rs = runs_in T n (drop 3 R) in
      let i = next_run r T.runs in
      let p = head_run ws T.run_bits b n R g in
      let q = run_ran T l ws b R p.0 in
      let k : (r + 1 + n) * 3 ≡ (r + suc n) * 3 = omega arith in
      let a : drop 3 R ≡ run_rows (b + run_trits R) rs ++ drop ((r + suc n) * 3) T.runs = rw (← i, k) at o.rows in
      let d : drop (b + run_trits R) T.run_bits ≡ run_bits_of rs ++ drop e T.run_bits = rw (← i) at o.bits in
      let f : e ≡ b + run_trits R + length (run_bits_of rs) = rw (← i) at o.end in
      let m : x ≡ w + word R 2 + operand_width rs = rw (← i) at o.wide in
      let s = and_true (every (run_sound ws) rs) (longest rs) (rw (← i) at o.sound) in
      let la = length-append (bits_in (run_in T R)) (run_bits_of rs) in
      record {
        rows = three R h ∙ ap (λ (t : List ℕ). word R 0 ∷ word R 1 ∷ word R 2 ∷ t) a ∙ rw (q.row_is, q.trits);
        bits = q.bits ∙ ap (λ (t : List ℕ). bits_in (run_in T R) ++ t) d ∙ sym (append_assoc (bits_in (run_in T R)) (run_bits_of rs) (drop e T.run_bits));
        end = omega (arith, f, la, q.trits);
        wide = rw q.wide (omega (arith, m));
        sound = true_and _ _ (every_more (run_sound ws) (run_in T R) rs q.sound s.0) (longest_more T n R p.1 s.1);
      }

  operand_none : (r b w x e : ℕ) → w ≡ x → b ≡ e → Operands T ws r b w 0 x e
  unfolding runs_in run_rows joined total every longest
  operand_none r b w x e p q = record {
    rows = rw (add-zero r);
    bits = rw q;
    end = rw (add-zero b) (sym q);
    wide = rw (add-zero w) (sym p);
    sound = refl;
  }

  pub operand_walked : (n r b w x e : ℕ) → (r + n) * 3 ≤ length T.runs → operand_walk ws T.run_bits T.runs r b w n ≡ Some (x, e) → Operands T ws r b w n x e
  unfolding operand_walk
  operand_walked zero r b w x e h k = operand_none r b w x e (some_first k) (some_second k)
  operand_walked (suc n) r b w x e h k =
      let R = drop (r * 3) T.runs in
      bool_cases (head_good ws T.run_bits b n R)
      (λ g. operand_more r b w n x e (rw length-drop (omega arith)) g (operand_walked n (r + 1) (b + run_trits R) (w + word R 2) x e (omega arith) (rw (g, operand_walk) at k)))
      (λ g. let d : None ≡ Some (x, e) = rw (g, operand_walk) at k in let z : ◌≡◌ {A = ℕ} 0 1 = cc (d) in absurd (omega arith))

  -- and back
  pub operand_walks : (n r b w : ℕ) (rest : List ℕ) → drop (r * 3) T.runs ≡ run_rows b (runs_in T n (drop (r * 3) T.runs)) ++ rest
      → b + length (run_bits_of (runs_in T n (drop (r * 3) T.runs))) ≤ 262656 → operand_sound ws (runs_in T n (drop (r * 3) T.runs)) ≡ true
      → (operand_walk ws T.run_bits T.runs r b w n ≡ Some (w + operand_width (runs_in T n (drop (r * 3) T.runs)), b + length (run_bits_of (runs_in T n (drop (r * 3) T.runs)))))
      × (drop ((r + n) * 3) T.runs ≡ rest)
  unfolding runs_in run_rows joined total operand_walk head_good
  operand_walks zero r b w rest h m s = (rw (add-zero w, add-zero b), rw (add-zero r) h)
  operand_walks (suc n) r b w rest h m s =
      let R = drop (r * 3) T.runs in
      let rs = runs_in T n (drop 3 R) in
      let i = next_run r T.runs in
      let u = and_true (every (run_sound ws) (run_in T R ∷ rs)) (longest (run_in T R ∷ rs)) s in
      let v = every_first (run_sound ws) (run_in T R) rs u.0 in
      let j = longest_first T n R u.1 in
      let la = length-append (bits_in (run_in T R)) (run_bits_of rs) in
      let w' : R ≡ run_row b (run_in T R) ++ (run_rows (b + length (bits_in (run_in T R))) rs ++ rest) = h ∙ append_assoc (run_row b (run_in T R)) _ rest in
      let q = ran_run T l ws b R (run_rows (b + length (bits_in (run_in T R))) rs ++ rest) w' (omega (arith, la, m)) v.0 in
      let g : head_good ws T.run_bits b n R ≡ true = true_and _ _ q.0 j.0 in
      let t : drop 3 R ≡ run_rows (b + run_trits R) rs ++ rest = ap (drop 3) w' ∙ behind b (run_in T R) _ ∙ rw q.1 in
      let f : b + run_trits R + length (run_bits_of rs) ≡ b + length (bits_in (run_in T R) ++ run_bits_of rs) = omega (arith, la, q.1) in
      let y : w + word R 2 + operand_width rs ≡ w + (run_width (run_in T R) + operand_width rs) = rw q.2 (omega arith) in
      let k : (r + 1 + n) * 3 ≡ (r + suc n) * 3 = omega arith in
      let ih = operand_walks n (r + 1) (b + run_trits R) (w + word R 2) rest (rw i at t) (rw (← i) (omega (arith, f, m))) (rw i at (true_and _ _ v.1 j.1)) in
      (rw (g, operand_walk) (rw (← i, f, y) at ih.0), rw k at ih.1)
    where
      behind : (b : ℕ) (q : Run) (t : List ℕ) → drop 3 (run_row b q ++ t) ≡ t
      behind b (const ts) t = refl
      behind b (piece row o w) t = refl
