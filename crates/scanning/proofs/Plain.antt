-- Plain bytes are sequences by themselves: the search for a bad sequence goes on past them as if they were not there.
use mathlib.Core.Path.{◌≡◌, refl, sym, ◌∙◌}
use mathlib.Core.List.{List, [], ◌∷◌}
use mathlib.Core.Option.{some}
use Prim.Native.Nat.{ℕ, ◌+◌, ◌<◌, ◌≤◌}
use native.Mathlib.Omega.{arith}
use lib.ListN.{length, drop, get_or}
use lib.Dec.{ltb}
use borrow.Author.Tests.{ltb-true, ltb-false}
use Rattle.ground.proofs.Bools.{bool_cases}
use Rattle.ground.proofs.Rest.{rest_cons}
use Rattle.ground.specs.Regions.{zeros}
use Rattle.signs.specs.Bytes.{Range}
use Rattle.scanning.specs.Whole.{sequences, tail_of, bad_from}
use Rattle.scanning.specs.Plain.{Skips}
use Rattle.scanning.proofs.Sequences.{begins}

-- where no sequence is open, it does not matter where the last one began
bad_apart : (s : List ℕ) (f g k : ℕ) → bad_from s [] f k ≡ bad_from s [] g k
unfolding bad_from
bad_apart [] f g k = refl
bad_apart (b ∷ s) f g k = refl

pub skip_none : (s : List ℕ) (rs : List Range) (i : ℕ) → i ≤ length s → Skips s rs i i
skip_none s rs i h = record { on = omega arith; within = h; same = λ from. refl }

pub skip_both : {s : List ℕ} {rs : List Range} {i j k : ℕ} → Skips s rs i j → Skips s rs j k → Skips s rs i k
skip_both p q = record { on = omega arith; within = q.within; same = λ from. p.same from ∙ q.same from }

-- one plain byte
bad_past : (s : List ℕ) (i : ℕ) → i < length s → tail_of sequences (get_or s i 0) ≡ some [] → (from : ℕ)
    → bad_from (drop i s) [] from i ≡ bad_from (drop (i + 1) s) [] from (i + 1)
unfolding bad_from
bad_past s i h e from = rw (rest_cons s i h, e, bad_from) (bad_apart (drop (i + 1) s) i from (i + 1))

skip_one : (s : List ℕ) (i : ℕ) → i < length s → tail_of sequences (get_or s i 0) ≡ some [] → Skips s [] i (i + 1)
skip_one s i h e = record { on = omega arith; within = omega arith; same = bad_past s i h e }

-- the plain bytes so far, and one more
pub skip_more : (s : List ℕ) (i j n : ℕ) → Skips s [] i j → j < length s → tail_of sequences (get_or s j 0) ≡ some [] → j + 1 ≡ n → Skips s [] i n
skip_more s i j n p h e f = rw f at (skip_both p (skip_one s j h e))

-- ASCII but CR is plain
pub plain_tail : (b : ℕ) → b ≤ 0x7f → (b ≡ 0x0d → ⊥) → tail_of sequences b ≡ some []
unfolding tail_of zeros
plain_tail b h f = sym (bool_cases (ltb b 13)
    (λ e. begins 0 13 (some []) tt b (omega arith) (ltb-true b 13 e))
    (λ e. let l : 13 ≤ b = ltb-false b 13 e in begins 14 114 (some []) tt b (omega arith) (omega arith)))
