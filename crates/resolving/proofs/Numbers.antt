-- The author's numbers in run rows become rows, one after the other: what is left gives what the whole gives.
use mathlib.Core.Path.{◌≡◌, refl, sym, ap, ◌∙◌}
use mathlib.Core.Bool.{Bool, true, false, ◌&&◌}
use mathlib.Core.List.{List, [], ◌∷◌, ◌++◌, map, append_assoc}
use Prim.Native.Nat.{ℕ, suc, ◌+◌, ◌-◌, ◌*◌, ◌<◌, ◌≤◌}
use native.Mathlib.Nat.{zero-add}
use native.Mathlib.Numerals.{add-one}
use native.Mathlib.Omega.{arith}
use lib.Dec.{eqb, leb, ltb, eqb-suc-zero}
use lib.ListN.{length, get_or, set, length-append}
use lib.Seq.{set_at, get_or_at}
use borrow.Author.Tests.{leb-true, ltb-true}
use Rattle.ground.specs.Lists.{every}
use Rattle.ground.specs.Regions.{pad, zeros}
use Rattle.ground.proofs.Bools.{bool_cases, never_both, and_true, every_more}
use Rattle.ground.proofs.Counts.{length_mapped}
use Rattle.netlist.specs.Netlist.{Run, const, piece, bits_in}
use Rattle.netlist.specs.Tables.{run_row, run_rows}
use Rattle.netlist.proofs.Lengths.{length_run_rows}
use Rattle.saying.specs.Values.{row_of, row_run}
use Rattle.saying.specs.Notes.{Maps}
use Rattle.resolving.specs.Resolving.{row_word, is_declared, Numbered}

pub record RunsLeft (numbers : List ℕ) (n i : ℕ) (table final : List ℕ) : Type 0 where
  pub front : List ℕ
  pub behind : List ℕ
  pub rest : List Run
  pub next : ℕ
  pub at : length front ≡ i * 3
  pub left : i + length rest ≡ n
  pub rows : table ≡ front ++ (run_rows next rest ++ behind)
  pub goal : front ++ (run_rows next (map (row_run numbers) rest) ++ behind) ≡ final
  pub declared : every (is_declared numbers) rest ≡ true

pub runs_start : (numbers : List ℕ) (rs : List Run) (runs : List ℕ) (n : ℕ) → Numbered numbers rs runs n → RunsLeft numbers n 0 runs (pad 12288 (run_rows 0 (map (row_run numbers) rs)))
unfolding pad
runs_start numbers rs runs n d =
    let e : length (run_rows 0 rs) ≡ length (run_rows 0 (map (row_run numbers) rs)) =
    length_run_rows 0 rs ∙ ap (λ (k : ℕ). k * 3) (sym (length_mapped (row_run numbers) rs)) ∙ sym (length_run_rows 0 (map (row_run numbers) rs)) in
    record {
      front = [];
      behind = zeros (12288 - length (run_rows 0 rs));
      rest = rs;
      next = 0;
      at = refl;
      left = zero-add (length rs) ∙ d.count;
      rows = d.rows;
      goal = rw e;
      declared = d.declared;
    }

pub runs_end : (numbers : List ℕ) (n i : ℕ) (table final : List ℕ) → n ≤ i → RunsLeft numbers n i table final → table ≡ final
unfolding run_rows
runs_end numbers n i table final h l = ended l.rest l.left l.rows l.goal
  where
    ended : (rest : List Run) → i + length rest ≡ n → table ≡ l.front ++ (run_rows l.next rest ++ l.behind) → l.front ++ (run_rows l.next (map (row_run numbers) rest) ++ l.behind) ≡ final → table ≡ final
    ended [] a r g = r ∙ g
    ended (x ∷ xs) a r g = absurd (omega arith)

-- a run's row begins with the word that its row number makes
module _ (numbers numbered : List ℕ) (m : Maps numbers numbered) where
  begun : (b : ℕ) (x : Run) → is_declared numbers x ≡ true → row_word numbered (get_or (run_row b x) 0 0) ≡ get_or (run_row b (row_run numbers x)) 0 0
  begun b (const ts) h = refl
  begun b (piece n o w) h =
      let p = and_true (ltb n 65536) (leb 1 (row_of numbers n)) h in
      let k : 1 ≤ row_of numbers n = leb-true 1 (row_of numbers n) p.1 in
      let s : n + 1 - 1 ≡ n = omega arith in
      simp (add-one, eqb-suc-zero) (ap (λ (j : ℕ). get_or numbered j 0) (ap (λ (j : ℕ). j - 1) (sym (add-one n)) ∙ s) ∙ m.is n (ltb-true n 65536 p.0) ∙ omega arith)

-- three words behind a front
words : (front rest : List ℕ) (h s w : ℕ) → front ++ (h ∷ s ∷ w ∷ rest) ≡ (front ++ (h ∷ s ∷ w ∷ [])) ++ rest
words front rest h s w = sym (append_assoc front (h ∷ s ∷ w ∷ []) rest)

module _ (numbers numbered : List ℕ) (m : Maps numbers numbered) (n i : ℕ) (table final : List ℕ) (l : RunsLeft numbers n i table final) (some : i < n) where
  -- a row that begins with `h`, and is to begin with `head`
  row_more : (h s w head next : ℕ) (xs : List Run) → i + suc (length xs) ≡ n → row_word numbered h ≡ head → table ≡ l.front ++ (h ∷ s ∷ w ∷ (run_rows next xs ++ l.behind))
      → l.front ++ (head ∷ s ∷ w ∷ (run_rows next (map (row_run numbers) xs) ++ l.behind)) ≡ final → every (is_declared numbers) xs ≡ true
      → RunsLeft numbers n (i + 1) (set table (i * 3) (row_word numbered (get_or table (i * 3) 0))) final
  row_more h s w head next xs a e r g d =
      let b : get_or table (i * 3) 0 ≡ h = ap (λ (t : List ℕ). get_or t (i * 3) 0) r ∙ get_or_at l.front h (s ∷ w ∷ (run_rows next xs ++ l.behind)) 0 (i * 3) l.at in
      record {
        front = l.front ++ (head ∷ s ∷ w ∷ []);
        behind = l.behind;
        rest = xs;
        next = next;
        at = length-append l.front (head ∷ s ∷ w ∷ []) ∙ omega (arith, l.at);
        left = omega arith;
        rows = rw (b, e) (ap (λ (t : List ℕ). set t (i * 3) head) r ∙ set_at l.front h (s ∷ w ∷ (run_rows next xs ++ l.behind)) head (i * 3) l.at ∙ words l.front (run_rows next xs ++ l.behind) head s w);
        goal = sym (words l.front (run_rows next (map (row_run numbers) xs) ++ l.behind) head s w) ∙ g;
        declared = d;
      }

  rest_more : (rest : List Run) → i + length rest ≡ n → table ≡ l.front ++ (run_rows l.next rest ++ l.behind)
      → l.front ++ (run_rows l.next (map (row_run numbers) rest) ++ l.behind) ≡ final → every (is_declared numbers) rest ≡ true
      → RunsLeft numbers n (i + 1) (set table (i * 3) (row_word numbered (get_or table (i * 3) 0))) final
  unfolding run_rows every
  rest_more [] a r g d = absurd (omega arith)
  rest_more (const ts ∷ xs) a r g d = row_more 0 l.next (length ts) 0 (l.next + length ts) xs a refl r g d
  rest_more (piece k o w ∷ xs) a r g d = bool_cases (is_declared numbers (piece k o w))
      (λ e. row_more (k + 1) o w (row_of numbers k - 1 + 1) (l.next + 0) xs a (begun numbers numbered m 0 (piece k o w) e) r g (rw (e, every) at d))
      (λ e. never_both (rw (e, every) at d) refl)

  pub runs_more : RunsLeft numbers n (i + 1) (set table (i * 3) (row_word numbered (get_or table (i * 3) 0))) final
  runs_more = rest_more l.rest l.left l.rows l.goal l.declared

-- so it goes for whatever runs stand there
abbrev pub RunsLefts : List ℕ → ℕ → List ℕ → ℕ → List ℕ → Type 0
RunsLefts numbered n runs₀ i runs =
    (numbers : List ℕ) (rs : List Run) → Maps numbers numbered → Numbered numbers rs runs₀ n → RunsLeft numbers n i runs (pad 12288 (run_rows 0 (map (row_run numbers) rs)))
