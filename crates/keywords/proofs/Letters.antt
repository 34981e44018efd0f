-- How a word is looked up in a list.
-- Assumes nothing.
use mathlib.Core.Path.{◌≡◌, refl, sym, ◌∙◌}
use mathlib.Core.Bool.{Bool, true, false}
use mathlib.Core.List.{List, [], ◌∷◌}
use Prim.Native.Nat.{ℕ, ◌+◌, ◌-◌, ◌<◌, ◌≤◌}
use Prim.Native.String.{String}
use native.Mathlib.Omega.{arith}
use lib.ListN.{length, take, drop, get_or, length-drop}
use lib.Seq.{take_all, take-nil}
use Rattle.ground.specs.Text.{bytes, same}
use Rattle.ground.proofs.Rest.{rest_end}
use Rattle.brackets.specs.Words.{numbered}

-- the first word of a list is the one, or it is looked for behind it
module _ (ls : List ℕ) (w : String) (ws : List String) (n : ℕ) {r : Bool} (e : r ≡ same ls (bytes w)) where
  pub here : r ≡ true → n ≡ numbered (w ∷ ws) ls n
  unfolding numbered
  here h = sym (rw (sym e ∙ h, numbered))

  pub behind : r ≡ false → numbered ws ls (n + 1) ≡ numbered (w ∷ ws) ls n
  unfolding numbered
  behind h = sym (rw (sym e ∙ h, numbered))

pub nowhere : (ls : List ℕ) (n : ℕ) → 0 ≡ numbered [] ls n
unfolding numbered
nowhere ls n = refl
