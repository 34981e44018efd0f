-- The search for an open row among a cell's runs, the first marks, and the last look at all marks.
use mathlib.Core.Path.{◌≡◌, refl, ap, ◌∙◌, sym}
use mathlib.Core.Bool.{Bool, true, false, not, ◌||◌}
use mathlib.Core.Logic.{◌⊎◌, inl, inr}
use mathlib.Core.List.{List, [], ◌∷◌, ◌++◌}
use Prim.Native.Nat.{ℕ, zero, suc, ◌+◌, ◌-◌, ◌*◌, ◌<◌, ◌≤◌}
use native.Mathlib.Omega.{arith}
use native.Mathlib.Decide.{ℕ_discrete}
use lib.Dec.{eqb}
use lib.ListN.{length, get_or, set, length-set}
use lib.Seq.{get_or-set_same, get_or-set_other}
use borrow.Author.Tests.{eqb-true, eqb-false, eq-eqb, ne_eqb}
use Rattle.ground.specs.Choice.{pick}
use Rattle.ground.specs.Regions.{zeros}
use Rattle.ground.proofs.Bools.{bool_cases, never_both, or_left}
use Rattle.ground.proofs.Regions.{length_zeros}
use Rattle.graph.specs.Graph.{mem, some}
use Rattle.graph.proofs.Ready.{mem_here, mem_there, mem_cases}
use Rattle.kinds.specs.Kinds.{input_kind, output_kind}
use Rattle.placing.specs.InTables.{run_read, reads_from, first_run, run_count, reads_in, apart_in, Inside}
use Rattle.placing.specs.Marks.{placed_in, first_open, note_of, noted, Begun}

-- Lists joined

mem_left : (j : ℕ) (xs ys : List ℕ) → mem j xs ≡ true → mem j (xs ++ ys) ≡ true
unfolding mem
mem_left j [] ys m = never_both m refl
mem_left j (x ∷ xs) ys m = go (mem_cases j x xs m) (mem_left j xs ys)
  where
    go : (j ≡ x) ⊎ (mem j xs ≡ true) → (mem j xs ≡ true → mem j (xs ++ ys) ≡ true) → mem j (x ∷ (xs ++ ys)) ≡ true
    go (inl q) ih = or_left (eqb j x) _ (eq-eqb j x q)
    go (inr q) ih = mem_there j x (xs ++ ys) (ih q)

mem_right : (j : ℕ) (xs ys : List ℕ) → mem j ys ≡ true → mem j (xs ++ ys) ≡ true
mem_right j [] ys m = m
mem_right j (x ∷ xs) ys m = mem_there j x (xs ++ ys) (mem_right j xs ys m)

module _ (n : ℕ) (P : ℕ → Bool) where
  open_left : (xs ys : List ℕ) → first_open n P xs < n → first_open n P (xs ++ ys) ≡ first_open n P xs
  unfolding first_open
  open_left [] ys l = absurd (omega arith)
  open_left (x ∷ xs) ys l = bool_cases (P x)
      (λ e. let h : first_open n P xs < n = rw (e, first_open) at l in rw (e, first_open) (open_left xs ys h))
      (λ e. rw (e, first_open))

  open_right : (xs ys : List ℕ) → ((j : ℕ) → mem j xs ≡ true → j < n) → n ≤ first_open n P xs → first_open n P (xs ++ ys) ≡ first_open n P ys
  unfolding first_open
  open_right [] ys b l = refl
  open_right (x ∷ xs) ys b l = bool_cases (P x)
      (λ e. let h : n ≤ first_open n P xs = rw (e, first_open) at l in rw (e, first_open) (open_right xs ys (λ j m. b j (mem_there j x xs m)) h))
      (λ e. let h : n ≤ x = rw (e, first_open) at l in absurd (omega (arith, b x (mem_here x xs))))

-- a run that reads a row
module _ (runs marks : List ℕ) (n k : ℕ) (h : get_or runs (k * 3) 0 ≡ 0 → ⊥) where
  one : run_read runs k ≡ (get_or runs (k * 3) 0 - 1) ∷ []
  one = rw (ne_eqb (get_or runs (k * 3) 0) 0 h)

  pub run_placed : get_or marks (get_or runs (k * 3) 0 - 1) 0 ≡ 1 → n ≡ first_open n (placed_in marks) (run_read runs k)
  unfolding first_open
  run_placed e = sym (ap (first_open n (placed_in marks)) one ∙ rw (eq-eqb (get_or marks (get_or runs (k * 3) 0 - 1) 0) 1 e, first_open))

  pub run_open : (get_or marks (get_or runs (k * 3) 0 - 1) 0 ≡ 1 → ⊥) → get_or runs (k * 3) 0 - 1 ≡ first_open n (placed_in marks) (run_read runs k)
  unfolding first_open
  run_open e = sym (ap (first_open n (placed_in marks)) one ∙ rw (ne_eqb (get_or marks (get_or runs (k * 3) 0 - 1) 0) 1 e, first_open))

-- THE SEARCH at run k: what is left gives what the whole gives
pub record Seeking (runs : List ℕ) (n : ℕ) (P : ℕ → Bool) (end whole k : ℕ) : Type 0 where
  pub upto : k ≤ end
  pub top : end ≤ 4096
  pub below : (j : ℕ) → mem j (reads_from runs k (end - k)) ≡ true → j < n
  pub is : first_open n P (reads_from runs k (end - k)) ≡ whole

pub seek_start : {cells runs : List ℕ} {n : ℕ} (P : ℕ → Bool) (row : ℕ) → Inside cells runs n → row < n
    → Seeking runs n P (first_run cells row + run_count cells row) (first_open n P (reads_in cells runs row)) (first_run cells row)
unfolding reads_in
seek_start {cells} {runs} {n} P row h l =
    let e : first_run cells row + run_count cells row - first_run cells row ≡ run_count cells row = omega arith in
    record { upto = omega arith; top = h.runs_there row l; below = rw e (λ j m. h.reads_there row j l m); is = rw e }

module _ {runs : List ℕ} {n : ℕ} {P : ℕ → Bool} {end whole k : ℕ} (s : Seeking runs n P end whole k) where
  module _ (l : k < end) where
    next : reads_from runs k (end - k) ≡ run_read runs k ++ reads_from runs (k + 1) (end - (k + 1))
    unfolding reads_from
    next = let e : end - k ≡ suc (end - (k + 1)) = omega arith in rw e

    here_below : (j : ℕ) → mem j (run_read runs k) ≡ true → j < n
    here_below j m = s.below j (rw next (mem_left j (run_read runs k) _ m))

    pub seek_word : get_or runs (k * 3) 0 ≤ n
    seek_word = bool_cases (eqb (get_or runs (k * 3) 0) 0)
        (λ e. omega (arith, eqb-true (get_or runs (k * 3) 0) 0 e))
        (λ e. let z = eqb-false (get_or runs (k * 3) 0) 0 e in
        let b : get_or runs (k * 3) 0 - 1 < n = here_below (get_or runs (k * 3) 0 - 1) (rw e (mem_here (get_or runs (k * 3) 0 - 1) [])) in
        omega arith)

    pub seek_found : (x : ℕ) → x ≡ first_open n P (run_read runs k) → x < n → x ≡ whole
    seek_found x e b = e ∙ sym (open_left n P (run_read runs k) _ (rw e at b)) ∙ sym (ap (first_open n P) next) ∙ s.is

    pub seek_on : (x : ℕ) → x ≡ first_open n P (run_read runs k) → n ≤ x → Seeking runs n P end whole (k + 1)
    seek_on x e b = record {
      upto = omega arith;
      top = s.top;
      below = λ j m. s.below j (rw next (mem_right j (run_read runs k) _ m));
      is = sym (open_right n P (run_read runs k) _ here_below (rw e at b)) ∙ sym (ap (first_open n P) next) ∙ s.is;
    }

  pub seek_end : end ≤ k → n ≡ whole
  unfolding reads_from first_open
  seek_end l = let e : end - k ≡ 0 = omega arith in (rw e at s.is)

-- THE FIRST MARKS
zeros_at : (n i : ℕ) → get_or (zeros n) i 0 ≡ 0
unfolding zeros
zeros_at zero i = refl
zeros_at (suc n) zero = refl
zeros_at (suc n) (suc i) = zeros_at n i

pub begin : (cells : List ℕ) (marks : List ℕ) → marks ≡ zeros 1026 → Begun cells 0 marks
begin cells marks z = record {
  long = ap length z ∙ length_zeros 1026;
  unnoted = λ i. ap (λ (m : List ℕ). get_or m (514 + i) 0) z ∙ zeros_at 1026 (514 + i);
  apart = λ j b. absurd (omega arith);
}

pub begin_more : {cells marks : List ℕ} {i : ℕ} → Begun cells i marks → i < 512 → (v : ℕ) → v ≡ pick (eqb (get_or cells (i * 9) 0) input_kind) 1 (pick (eqb (get_or cells (i * 9) 0) output_kind) 1 0) → Begun cells (i + 1) (set marks i v)
unfolding apart_in
begin_more {cells} {marks} {i} b l v e = record {
  long = length-set marks i v ∙ b.long;
  unnoted = λ j. get_or-set_other marks i (514 + j) v 0 (λ q. omega arith) ∙ b.unnoted j;
  apart = λ j h. go j h (ℕ_discrete j i);
}
  where
    told : (p q : Bool) → eqb (pick p 1 (pick q 1 0)) 1 ≡ p || q
    told true q = refl
    told false true = refl
    told false false = refl

    go : (j : ℕ) → j < i + 1 → Dec (j ≡ i) → placed_in (set marks i v) j ≡ apart_in cells j
    go j h (yes q) = rw (q, get_or-set_same marks i v 0 (omega (arith, b.long)), e) (told (eqb (get_or cells (i * 9) 0) input_kind) (eqb (get_or cells (i * 9) 0) output_kind))
    go j h (no q) = rw (get_or-set_other marks i j v 0 q) (b.apart j (omega arith))

pub begun : {cells marks : List ℕ} {i n : ℕ} → Begun cells i marks → n ≤ i → Begun cells n marks
begun b l = record { long = b.long; unnoted = b.unnoted; apart = λ j h. b.apart j (omega arith) }

-- A ROW'S NOTE
module _ (marks : List ℕ) (i : ℕ) where
  pub note_none : note_of marks i ≡ 0 → false ≡ noted marks i
  unfolding noted
  note_none e = rw e

  module _ (h : note_of marks i ≡ 0 → ⊥) where
    pub note_over : get_or marks (note_of marks i - 1) 0 ≡ 1 → false ≡ noted marks i
    unfolding noted
    note_over e = rw (ne_eqb (note_of marks i) 0 h, eq-eqb (get_or marks (note_of marks i - 1) 0) 1 e)

    pub note_holds : (get_or marks (note_of marks i - 1) 0 ≡ 1 → ⊥) → true ≡ noted marks i
    unfolding noted
    note_holds e = rw (ne_eqb (note_of marks i) 0 h, ne_eqb (get_or marks (note_of marks i - 1) 0) 1 e)

-- THE LAST LOOK, from the last row down
module _ (marks : List ℕ) (k : ℕ) (l : 0 < k) where
  last : some (λ i. not (placed_in marks i)) k ≡ not (placed_in marks (k - 1)) || some (λ i. not (placed_in marks i)) (k - 1)
  unfolding some
  last = let q : k ≡ suc (k - 1) = omega arith in ap (some (λ i. not (placed_in marks i))) q

  pub look_hit : (get_or marks (k - 1) 0 ≡ 1 → ⊥) → true ≡ some (λ i. not (placed_in marks i)) k
  look_hit e = sym (last ∙ rw (ne_eqb (get_or marks (k - 1) 0) 1 e))

  pub look_on : get_or marks (k - 1) 0 ≡ 1 → some (λ i. not (placed_in marks i)) (k - 1) ≡ some (λ i. not (placed_in marks i)) k
  look_on e = sym (last ∙ rw (eq-eqb (get_or marks (k - 1) 0) 1 e))

pub look_left : (p : ℕ → Bool) (k : ℕ) → k ≤ 0 → false ≡ some p k
unfolding some
look_left p k l = let q : k ≡ 0 = omega arith in rw q
