-- The rows of runs, one by one, and how many bits a run has.
use mathlib.Core.Path.{◌≡◌, refl, ap, ◌∙◌}
use mathlib.Core.List.{List, [], ◌∷◌}
use Prim.Native.Nat.{ℕ, zero, suc, ◌+◌, ◌*◌, ◌<◌}
use native.Mathlib.Numerals.{add-one}
use native.Mathlib.Omega.{arith}
use lib.ListN.{length, drop}
use lib.Seq.{drop-drop}
use Rattle.netlist.specs.Runs.{falling, known_bits}
use Rattle.netlist.specs.Tables.{Tables}
use Rattle.netlist.specs.View.{run_in, runs_in}

pub runs_at : (T : Tables) (n i : ℕ) (rows : List ℕ) → i < n → drop i (runs_in T n rows) ≡ run_in T (drop (i * 3) rows) ∷ drop (i + 1) (runs_in T n rows)
unfolding runs_in
runs_at T zero i rows h = absurd (omega arith)
runs_at T (suc n) zero rows h = refl
runs_at T (suc n) (suc i) rows h =
    let e : suc i * 3 ≡ 3 + i * 3 = omega arith in
    rw (e, add-one) (runs_at T n i (drop 3 rows) (omega arith) ∙ rw (drop-drop (i * 3) 3 rows, add-one))

pub runs_length : (T : Tables) (n : ℕ) (rows : List ℕ) → length (runs_in T n rows) ≡ n
unfolding runs_in
runs_length T zero rows = refl
runs_length T (suc n) rows = ap suc (runs_length T n (drop 3 rows))

-- the bits of a piece and of a constant
pub length_falling : (row o w : ℕ) → length (falling row o w) ≡ w
unfolding falling
length_falling row o zero = refl
length_falling row o (suc w) = ap suc (length_falling row o w)

pub length_known : (ts : List ℕ) → length (known_bits ts) ≡ length ts
unfolding known_bits
length_known [] = refl
length_known (t ∷ ts) = ap suc (length_known ts)
