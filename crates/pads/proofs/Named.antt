-- A pad's name beside the asked one.
use mathlib.Core.Path.{◌≡◌}
use mathlib.Core.Bool.{false}
use mathlib.Core.List.{List}
use Prim.Native.Nat.{ℕ, ◌+◌, ◌-◌, ◌≤◌, ◌<◌}
use native.Mathlib.Omega.{arith}
use lib.ListN.{length, take, drop}
use borrow.Author.Tests.{lt-ltb, le-ltb}
use Rattle.ground.specs.Regions.{part}
use Rattle.ground.specs.Text.{same}
use Rattle.pads.specs.declared.Pad.{Pad}
use Rattle.pads.specs.Pads.{pad_named}

module _ (strings : List ℕ) (pad : Pad) (name : List ℕ) (s n : ℕ) (is : s ≡ pad.start) (long : n ≡ pad.length) where
  pub named_short : length strings < s + n → false ≡ pad_named strings pad name
  unfolding pad_named
  named_short h = rw (← is, ← long, lt-ltb (length strings) (s + n) h)

  pub named_same : s + n ≤ length strings → same (take (s + n - s) (drop s strings)) name ≡ pad_named strings pad name
  unfolding pad_named part
  named_same h =
      let e : s + n - s ≡ n = omega arith in
      rw (← is, ← long, le-ltb (length strings) (s + n) h, e)
