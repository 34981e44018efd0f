-- The table's entry at each byte is that byte's class, and which bytes the digits are: tests that are computed over the 256 entries.
use mathlib.Core.Path.{◌≡◌, refl, ◌∙◌}
use mathlib.Core.Bool.{Bool, true, false, not}
use Prim.Native.Nat.{ℕ, ◌<◌, ◌≤◌}
use lib.Dec.{T, leb}
use lib.ListN.{get_or}
use borrow.Author.Tests.{leb-true}
use Rattle.ground.specs.Choice.{pick}
use Rattle.ground.proofs.Bools.{bool_cases, never_both}
use Rattle.ground.proofs.Tables.{at, table_rule}
use Rattle.signs.specs.Bytes.{class_from, class_of, classes_from, table, within, is_digit}

pub class_rule : (b : ℕ) → b < 256 → get_or table b 0 ≡ class_of b
unfolding table classes_from class_of class_from
class_rule b h = table_rule class_of table tt b h

pub within_true : (a e b : ℕ) → within a e b ≡ true → (a ≤ b) × (b ≤ e)
within_true a e b h = bool_cases (leb a b) (λ f. (leb-true _ _ f, leb-true _ _ (rw f at h))) (λ f. never_both (rw f at h) refl)

digit_test : ℕ → ℕ → Bool
digit_test b c = pick (within 48 57 b) (within 4 5 c) (not (within 4 5 c))

digit_tested : (b : ℕ) → b < 256 → T (digit_test b (get_or table b 0))
unfolding table classes_from class_of class_from digit_test
digit_tested b h = at digit_test table 0 tt b h

digit_told : (p q : Bool) → T (pick p q (not q)) → p ≡ q
digit_told true true t = refl
digit_told true false t = absurd t
digit_told false true t = absurd t
digit_told false false t = refl

-- the digits are the bytes from `0` to `9`
pub digit_byte : (b : ℕ) → b < 256 → within 48 57 b ≡ is_digit b
unfolding digit_test
digit_byte b h = digit_told _ _ (rw (class_rule b h) at (digit_tested b h))

pub digit_range : (b : ℕ) → b < 256 → is_digit b ≡ true → (48 ≤ b) × (b ≤ 57)
digit_range b h d = within_true 48 57 b (digit_byte b h ∙ d)
