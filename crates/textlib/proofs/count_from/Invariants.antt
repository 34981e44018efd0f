use Rattle.textlib.specs.Told.{tokens_from}
use lib.ListN.{length}
use mathlib.Core.Path.{◌≡◌}
use Prim.Native.Nat.{◌+◌, ◌-◌}
use Rattle.textlib.proofs.count_from.Given as goal

abbrev pub invariant-loop-tokens : goal.invariant-loop-tokens
invariant-loop-tokens l = tokens_from (length l.text + 1 - l.tokens) l.text l.tokens l.at ≡ tokens_from (length l.text + 1) l.text 0 0
