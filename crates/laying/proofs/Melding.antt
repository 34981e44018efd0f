-- Runs behind runs: longest runs of a list of bits are those of its front and its back, joined at the seam where they go on.
-- Assumes nothing.
use mathlib.Core.Path.{◌≡◌, refl, ap, sym, ◌∙◌}
use mathlib.Core.Bool.{true, false, ◌&&◌}
use mathlib.Core.List.{List, [], ◌∷◌, ◌++◌, append_assoc}
use Prim.Native.Nat.{ℕ, zero, suc, ◌+◌, ◌<◌, ◌≤◌}
use native.Mathlib.Nat.{add_assoc}
use native.Mathlib.Omega.{arith}
use lib.Dec.{eqb}
use lib.ListN.{length, length-append}
use borrow.Author.Tests.{eqb-true, eq-eqb}
use Rattle.ground.specs.Choice.{pick}
use Rattle.ground.specs.Lists.{joined, total}
use Rattle.ground.proofs.Bools.{bool_cases, and_true}
use Rattle.netlist.specs.Netlist.{Run, const, piece, run_bits_of, run_width, operand_width}
use Rattle.netlist.specs.Runs.{Bit, known, bit, falling, known_bits, runs_with, cut, joins}

-- two neighbours as one run
abbrev pub fuse : Run → Run → Run
fuse (const ts) (const us) = const (ts ++ us)
fuse (const ts) (piece row o w) = piece row o w
fuse (piece row o w) (const us) = const us
fuse (piece row o w) (piece row' o' w') = piece row' o' (w' + w)

-- runs behind a run
abbrev pub behind_run : Run → List Run → List Run
behind_run r [] = r ∷ []
behind_run r (q ∷ qs) = pick (joins r q) (fuse r q ∷ qs) (r ∷ q ∷ qs)

-- runs behind runs
unfoldable pub meld : List Run → List Run → List Run
meld [] qs = qs
meld (r ∷ []) qs = behind_run r qs
meld (r ∷ r' ∷ rs) qs = r ∷ meld (r' ∷ rs) qs

-- a bit before runs is a run of one bit before them
abbrev one_run : Bit → Run
one_run (known t) = const (t ∷ [])
one_run (bit row o) = piece row o 1

one_before : (b : Bit) (qs : List Run) → runs_with b qs ≡ behind_run (one_run b) qs
one_before (known t) [] = refl
one_before (known t) (const ts ∷ qs) = refl
one_before (known t) (piece row o w ∷ qs) = refl
one_before (bit row o) [] = refl
one_before (bit row o) (const ts ∷ qs) = refl
one_before (bit row o) (piece row' o' w ∷ qs) = refl

-- what goes on before a run goes on before the run that it makes with the next
same_start : (row o row' o' w' row'' o'' w'' : ℕ) → eqb row' row'' && eqb o' (o'' + w'') ≡ true
    → eqb row row'' && eqb o (o'' + (w'' + w')) ≡ eqb row row' && eqb o (o' + w')
same_start row o row' o' w' row'' o'' w'' h =
    let p = and_true _ _ h in
    let e : row' ≡ row'' = eqb-true row' row'' p.0 in
    let f : o' ≡ o'' + w'' = eqb-true o' (o'' + w'') p.1 in
    rw (e, f, add_assoc)

meld_nil : (rs : List Run) → meld rs [] ≡ rs
unfolding meld
meld_nil [] = refl
meld_nil (r ∷ []) = refl
meld_nil (r ∷ r' ∷ rs) = ap (λ (l : List Run). r ∷ l) (meld_nil (r' ∷ rs))

-- a bit before a run that others stand behind
seam : (b : Bit) (r q : Run) (qs : List Run) → runs_with b (behind_run r (q ∷ qs)) ≡ meld (runs_with b (r ∷ [])) (q ∷ qs)
unfolding meld
seam (known t) (const ts) (const us) qs = refl
seam (known t) (const ts) (piece row o w) qs = refl
seam (known t) (piece row o w) (const us) qs = refl
seam (known t) (piece row o w) (piece row' o' w') qs = bool_cases (eqb row row' && eqb o (o' + w')) (λ e. rw e) (λ e. rw e)
seam (bit row o) (const ts) (const us) qs = refl
seam (bit row o) (const ts) (piece row' o' w') qs = refl
seam (bit row o) (piece row' o' w') (const us) qs = bool_cases (eqb row row' && eqb o (o' + w')) (λ e. rw e) (λ e. rw e)
seam (bit row o) (piece row' o' w') (piece row'' o'' w'') qs = bool_cases (eqb row' row'' && eqb o' (o'' + w''))
    (λ e. let s = same_start row o row' o' w' row'' o'' w'' e in
    bool_cases (eqb row row' && eqb o (o' + w'))
    (λ f. rw (e, s, f, e, add_assoc))
    (λ f. rw (e, s, f, e)))
    (λ e. bool_cases (eqb row row' && eqb o (o' + w')) (λ f. rw (e, f, e)) (λ f. rw (e, f, e)))

bit_meld : (b : Bit) (rs qs : List Run) → runs_with b (meld rs qs) ≡ meld (runs_with b rs) qs
unfolding meld
bit_meld (known t) [] qs = one_before (known t) qs
bit_meld (bit row o) [] qs = one_before (bit row o) qs
bit_meld b (r ∷ []) [] = sym (meld_nil (runs_with b (r ∷ [])))
bit_meld b (r ∷ []) (q ∷ qs) = seam b r q qs
bit_meld (known t) (const ts ∷ r' ∷ rs) qs = refl
bit_meld (known t) (piece row o w ∷ r' ∷ rs) qs = refl
bit_meld (bit row o) (const ts ∷ r' ∷ rs) qs = refl
bit_meld (bit row o) (piece row' o' w' ∷ r' ∷ rs) qs = bool_cases (eqb row row' && eqb o (o' + w')) (λ e. rw e) (λ e. rw e)

-- THE RUNS OF A FRONT AND A BACK
pub cut_append : (xs ys : List Bit) → cut (xs ++ ys) ≡ meld (cut xs) (cut ys)
unfolding cut meld
cut_append [] ys = refl
cut_append (b ∷ xs) ys = ap (runs_with b) (cut_append xs ys) ∙ bit_meld b (cut xs) (cut ys)

-- there are no fewer of them than of the front
behind_long : (r : Run) (qs : List Run) → 1 ≤ length (behind_run r qs)
behind_long r [] = omega arith
behind_long r (q ∷ qs) = bool_cases (joins r q) (λ e. rw e (omega arith)) (λ e. rw e (omega arith))

meld_long : (rs qs : List Run) → length rs ≤ length (meld rs qs)
unfolding meld
meld_long [] qs = omega arith
meld_long (r ∷ []) qs = behind_long r qs
meld_long (r ∷ r' ∷ rs) qs = let h = meld_long (r' ∷ rs) qs in omega arith

pub cut_more : (xs ys : List Bit) → length (cut xs) ≤ length (cut (xs ++ ys))
cut_more xs ys = rw (cut_append xs ys) (meld_long (cut xs) (cut ys))

-- falling bits of one cell are one run, and so are known bits
pub cut_falling : (row o w : ℕ) → 0 < w → cut (falling row o w) ≡ piece row o w ∷ []
unfolding cut falling
cut_falling row o zero h = absurd (omega arith)
cut_falling row o (suc zero) h = let e : o + 0 ≡ o = omega arith in rw e
cut_falling row o (suc (suc w)) h =
    let i = cut_falling row o (suc w) (omega arith) in
    let s : eqb row row && eqb (o + suc w) (o + suc w) ≡ true = rw (eq-eqb row row refl, eq-eqb (o + suc w) (o + suc w) refl) in
    let m : suc w + 1 ≡ suc (suc w) = omega arith in
    ap (runs_with (bit row (o + suc w))) i ∙ rw (s, m)

pub cut_known : (ts : List ℕ) → 0 < length ts → cut (known_bits ts) ≡ const ts ∷ []
unfolding cut known_bits
cut_known [] h = absurd (omega arith)
cut_known (t ∷ []) h = refl
cut_known (t ∷ u ∷ ts) h = ap (runs_with (known t)) (cut_known (u ∷ ts) (omega arith))

-- A RUN BEHIND RUNS. The last run, where there is one
pub data Ending (rs : List Run) : Type 0 where
  empty : rs ≡ [] → Ending rs
  last : (front : List Run) (r : Run) → rs ≡ front ++ (r ∷ []) → Ending rs

pub ending : (rs : List Run) → Ending rs
ending [] = empty refl
ending (r ∷ rs) = go (ending rs)
  where
    go : Ending rs → Ending (r ∷ rs)
    go (empty e) = last [] r (ap (λ (l : List Run). r ∷ l) e)
    go (last front q e) = last (r ∷ front) q (ap (λ (l : List Run). r ∷ l) e)

meld_last : (rs : List Run) (r q : Run) → meld (rs ++ (r ∷ [])) (q ∷ []) ≡ rs ++ pick (joins r q) (fuse r q ∷ []) (r ∷ q ∷ [])
unfolding meld
meld_last [] r q = refl
meld_last (p ∷ []) r q = refl
meld_last (p ∷ p' ∷ rs) r q = ap (λ (l : List Run). p ∷ l) (meld_last (p' ∷ rs) r q)

-- bits that are one run, behind bits: it joins the last run, or stands behind it
module _ (done new : List Bit) (q : Run) (one : cut new ≡ q ∷ []) where
  pub cut_joined : (front : List Run) (r : Run) → cut done ≡ front ++ (r ∷ []) → joins r q ≡ true → cut (done ++ new) ≡ front ++ (fuse r q ∷ [])
  cut_joined front r e j = cut_append done new ∙ rw (one, e, meld_last front r q, j)

  pub cut_apart : (front : List Run) (r : Run) → cut done ≡ front ++ (r ∷ []) → joins r q ≡ false → cut (done ++ new) ≡ cut done ++ (q ∷ [])
  cut_apart front r e j = cut_append done new ∙ rw (one, e, meld_last front r q, j) (sym (append_assoc front (r ∷ []) (q ∷ [])))

  pub cut_first : cut done ≡ [] → cut (done ++ new) ≡ cut done ++ (q ∷ [])
  unfolding meld
  cut_first e = cut_append done new ∙ rw (one, e)

with_wide : (b : Bit) (rs : List Run) → operand_width (runs_with b rs) ≡ suc (operand_width rs)
unfolding total
with_wide (known t) [] = refl
with_wide (known t) (const ts ∷ rs) = omega arith
with_wide (known t) (piece row o w ∷ rs) = omega arith
with_wide (bit row o) [] = refl
with_wide (bit row o) (const ts ∷ rs) = omega arith
with_wide (bit row o) (piece row' o' w ∷ rs) = bool_cases (eqb row row' && eqb o (o' + w)) (λ e. rw e (omega arith)) (λ e. rw e (omega arith))

-- runs are as wide as their bits are many
pub cut_wide : (bs : List Bit) → operand_width (cut bs) ≡ length bs
unfolding cut total
cut_wide [] = refl
cut_wide (b ∷ bs) = with_wide b (cut bs) ∙ ap suc (cut_wide bs)

total_last : (rs : List Run) (r : Run) → operand_width (rs ++ (r ∷ [])) ≡ operand_width rs + run_width r
unfolding total
total_last [] r = omega arith
total_last (q ∷ rs) r = omega (arith, total_last rs r)

pub last_narrow : (bs : List Bit) (front : List Run) (r : Run) → cut bs ≡ front ++ (r ∷ []) → run_width r ≤ length bs
last_narrow bs front r e = let t = total_last front r in let w : operand_width (front ++ (r ∷ [])) ≡ length bs = rw (← e) (cut_wide bs) in omega arith

trits_most : (rs : List Run) → length (run_bits_of rs) ≤ operand_width rs
unfolding joined total
trits_most [] = omega arith
trits_most (const ts ∷ rs) = omega (arith, length-append ts (run_bits_of rs), trits_most rs)
trits_most (piece row o w ∷ rs) = omega (arith, trits_most rs)

pub cut_trits : (bs : List Bit) → length (run_bits_of (cut bs)) ≤ length bs
cut_trits bs = let t = trits_most (cut bs) in let w = cut_wide bs in omega arith
