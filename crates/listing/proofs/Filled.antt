-- A room has the length that it is made with. Said for any length, so that no check counts a large one.
use mathlib.Core.Path.{◌≡◌, sym}
use Prim.Native.Nat.{ℕ}
use lib.ListN.{length, replicate, length-replicate}

pub filled : (n x : ℕ) → n ≡ length (replicate n x)
filled n x = sym (length-replicate n x)
