-- The token that stands at a place of the text, and at its end.
use mathlib.Core.Path.{◌≡◌, refl}
use mathlib.Core.Bool.{false, not, ◌||◌}
use mathlib.Core.List.{List}
use native.Mathlib.Omega.{arith}
use Prim.Native.Nat.{ℕ, zero, suc, ◌+◌, ◌-◌, ◌<◌, ◌≤◌}
use lib.Dec.{eqb}
use lib.ListN.{length, drop, get_or}
use Rattle.ground.specs.Choice.{pick}
use Rattle.ground.proofs.Rest.{rest_cons, rest_end}
use Rattle.signs.specs.Bytes.{class_of, within, is_feed, is_special}
use Rattle.signs.specs.Pieces.{comment_end}
use Rattle.lexis.specs.Tokens.{line_end, text_end, mark, took, plain, refused, follows, long_of, token_from, standing_at}

module _ (s : List ℕ) (k : ℕ) where
  pub standing_end : length s ≤ k → standing_at s k ≡ took (plain text_end k 0 0 0) k
  unfolding token_from
  standing_end h = rw (rest_end s k h)

  pub standing_at_lem :
      k < length s → standing_at s k
      ≡ pick (is_feed (get_or s k 0)) (took (plain line_end k 0 0 0) (k + 1))
      (pick (eqb (get_or s k 0) 13) (took (plain line_end k 0 0 0) (k + 2))
      (pick (eqb (get_or s k 0) 59) (took (plain line_end k 0 0 0) (comment_end (drop (k + 1) s) (k + 1)))
      (pick (is_special (get_or s k 0)) (took (plain mark k (get_or s k 0) 0 0) (k + 1))
      (pick (follows s k) (refused 5 k)
      (long_of s k (get_or s k 0))))))
  unfolding token_from
  standing_at_lem h = rw (rest_cons s k h)

-- nothing stands before the first byte
pub follows_start : (s : List ℕ) → follows s 0 ≡ false
unfolding follows
follows_start s = refl

pub follows_behind : (s : List ℕ) (k : ℕ) → (k ≡ 0 → ⊥) → follows s k ≡ not (within 1 2 (class_of (get_or s (k - 1) 0)) || is_special (get_or s (k - 1) 0))
unfolding follows
follows_behind s zero h = absurd (h refl)
follows_behind s (suc j) h = let e : suc j - 1 ≡ j = omega arith in rw e
