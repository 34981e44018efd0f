-- What the scan of the whole text may leave out.
use Rattle.std.specs.Prelude.{◌≡◌, List, ℕ, ◌≤◌, length, drop}
use Rattle.signs.specs.Bytes.{Range}
use Rattle.scanning.specs.Whole.{bad_from}

-- where bytes in the ranges are lacking, the search for a bad sequence finds the same from the place j on as from the place i on
pub record Skips (text : List ℕ) (lacks : List Range) (i j : ℕ) : Type 0 where
  pub on : i ≤ j
  pub within : j ≤ length text
  pub same : (from : ℕ) → bad_from (drop i text) lacks from i ≡ bad_from (drop j text) lacks from j
