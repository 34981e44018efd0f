-- A region written over: all else stands as it stood.
-- Assumes nothing.
use Rattle.laying.specs.declared.Counts.{Counts}
use Rattle.std.specs.Prelude.{Option}
use mathlib.Core.Path.{◌≡◌, sym, ap, subst, ◌∙◌}
use mathlib.Core.List.{List, [], ◌∷◌}
use Prim.Native.Nat.{ℕ, ◌+◌, ◌*◌, ◌<◌, ◌≤◌}
use native.Mathlib.Omega.{arith}
use lib.ListN.{length, set, length-set}
use lib.Seq.{sets, length-sets}
use Rattle.ground.specs.Regions.{part}
use Rattle.ground.proofs.Regions.{part_length}
use Rattle.form.specs.declared.Wiring.{Wiring}
use Rattle.netlist.specs.Netlist.{Run}
use Rattle.saying.specs.Values.{operand_runs}
use Rattle.laying.specs.Holding.{Holds, CellAfter}
use Rattle.laying.specs.Bare.{cell_bare, CellTellsBare}
use Rattle.laying.specs.declared.Laid.{Laid}
use Rattle.noting.specs.Noted.{runs_in, run_trits_in, cell_map_in, meta_map_in, places_in}
use Rattle.wiring.specs.CellAdding.{SameBut, place_words, WorkWith, RunsWith}
use Rattle.noting.proofs.Flat.{put, length_put, part_put, part_before, part_after}

pub same_put : (a n : ℕ) (l new : List ℕ) → a + n ≤ length l → length new ≡ n → SameBut a n l (put a n l new)
same_put a n l new h e = record { long = length_put a n l new h e; before = part_before a n l new h e; after = part_after a n l new h e }

module _ (a n : ℕ) (l new : List ℕ) (h : a + n ≤ length l) where
  -- a region with words written into it
  pub region_sets : (k : ℕ) (words : List ℕ) → new ≡ sets (part a n l) k words → (part a n (put a n l new) ≡ sets (part a n l) k words) × SameBut a n l (put a n l new)
  region_sets k words e =
      let long : length new ≡ n = ap length e ∙ length-sets (part a n l) k words ∙ part_length a n l h in
      (part_put a n l new h long ∙ e, same_put a n l new h long)

  pub region_set : (k v : ℕ) → new ≡ set (part a n l) k v → (part a n (put a n l new) ≡ set (part a n l) k v) × SameBut a n l (put a n l new)
  region_set k v e =
      let long : length new ≡ n = ap length e ∙ length-set (part a n l) k v ∙ part_length a n l h in
      (part_put a n l new h long ∙ e, same_put a n l new h long)

-- the places of operands, then the number
pub work_with : (n index : ℕ) (w : Wiring) (l p q : List ℕ) → length l ≡ 132608 → p ≡ sets (part 131072 1536 l) (n * 3) (place_words w)
    → q ≡ set (part 0 65536 (put 131072 1536 l p)) index (n + 1) → WorkWith n index w l (put 0 65536 (put 131072 1536 l p) q)
work_with n index w l p q h a b =
    let m = put 131072 1536 l p in
    let x = region_sets 131072 1536 l p (omega arith) (n * 3) (place_words w) a in
    let y = region_set 0 65536 m q (omega (arith, x.1.long)) index (n + 1) b in
    record {
      long = y.1.long ∙ x.1.long;
      places = y.1.after 131072 1536 (omega arith) ∙ x.0;
      numbered = y.0 ∙ ap (λ (t : List ℕ). set t index (n + 1)) (x.1.before 0 65536 (omega arith));
      metas = y.1.after 65536 65536 (omega arith) ∙ x.1.before 65536 65536 (omega arith);
    }

-- the runs and their trits
pub runs_with : (text : List ℕ) (w : Wiring) (so : Laid) (rows bits : List ℕ) (r : Option Counts) (runs trits : List ℕ) → length rows ≡ 26307 → length bits ≡ 393728
    → length runs ≡ 12288 → length trits ≡ 262656
    → ((rs : List Run) → Holds rs (runs_in rows) (run_trits_in bits) so → CellAfter rs (operand_runs text w.a) (operand_runs text w.b) (operand_runs text w.c) r runs trits)
    → CellTellsBare (cell_bare text w) r
    → RunsWith text w so rows bits r (put 14019 12288 rows runs) (put 131072 262656 bits trits)
runs_with text w so rows bits r runs trits h k i j laid tells = record {
  laid = λ rs o.
      subst (λ (t : List ℕ). CellAfter rs (operand_runs text w.a) (operand_runs text w.b) (operand_runs text w.c) r t (run_trits_in (put 131072 262656 bits trits))) (sym (part_put 14019 12288 rows runs (omega arith) i))
      (subst (λ (t : List ℕ). CellAfter rs (operand_runs text w.a) (operand_runs text w.b) (operand_runs text w.c) r runs t) (sym (part_put 131072 262656 bits trits (omega arith) j)) (laid rs o));
  tells = tells;
  kept_rows = same_put 14019 12288 rows runs (omega arith) i;
  kept_bits = same_put 131072 262656 bits trits (omega arith) j;
}

-- the same where both are cut to the end of what is lent: n rows and m trits
pub runs_rest : (text : List ℕ) (w : Wiring) (so : Laid) (rows bits : List ℕ) (r : Option Counts) (runs trits : List ℕ) (n m : ℕ) → length rows ≡ 26307 → length bits ≡ 393728 → n ≡ 12288 → m ≡ 262656
    → length runs ≡ length (part 14019 n rows) → length trits ≡ length (part 131072 m bits)
    → ((rs : List Run) → Holds rs (part 14019 n rows) (part 131072 m bits) so → CellAfter rs (operand_runs text w.a) (operand_runs text w.b) (operand_runs text w.c) r runs trits)
    → CellTellsBare (cell_bare text w) r
    → RunsWith text w so rows bits r (put 14019 n rows runs) (put 131072 m bits trits)
runs_rest text w so rows bits r runs trits n m h k en em i j laid tells =
    let x = part_length 14019 12288 rows (omega (arith, h)) in
    let y = part_length 131072 262656 bits (omega (arith, k)) in
    subst (λ (z : ℕ). RunsWith text w so rows bits r (put 14019 z rows runs) (put 131072 m bits trits)) (sym en)
    (subst (λ (z : ℕ). RunsWith text w so rows bits r (put 14019 12288 rows runs) (put 131072 z bits trits)) (sym em)
    (runs_with text w so rows bits r runs trits h k (subst (λ (z : ℕ). length runs ≡ length (part 14019 z rows)) en i ∙ x) (subst (λ (z : ℕ). length trits ≡ length (part 131072 z bits)) em j ∙ y)
    (λ rs o. laid rs (subst (λ (z : ℕ). Holds rs (part 14019 z rows) (part 131072 m bits) so) (sym en) (subst (λ (z : ℕ). Holds rs (part 14019 12288 rows) (part 131072 z bits) so) (sym em) o))) tells))
