-- Zeros looked at many at a time: as long as none but zeros were seen, what is behind them decides.
use mathlib.Core.Path.{◌≡◌, refl, sym, ◌∙◌, ap}
use mathlib.Core.List.{List}
use Prim.Native.Nat.{ℕ, ◌+◌, ◌<◌}
use native.Mathlib.Omega.{arith}
use lib.ListN.{length, drop, get_or}
use Rattle.ground.specs.Regions.{blank}
use Rattle.pools.proofs.Laws.{blank_on}

-- one zero more
pub zero_more : (t : List ℕ) (i j n : ℕ) → j < length t → get_or t j 0 ≡ 0 → j + 1 ≡ n → blank (drop j t) ≡ blank (drop i t) → blank (drop n t) ≡ blank (drop i t)
zero_more t i j n h e f p = rw f at (blank_on t j h e ∙ p)
