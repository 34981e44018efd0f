-- The room that `make` asks for is told by the table of kinds.
use mathlib.Core.Bool.{false}
use mathlib.Core.Path.{◌≡◌}
use mathlib.Core.List.{List}
use Prim.Native.Nat.{ℕ, ◌+◌, ◌*◌, ◌≤◌}
use lib.Dec.{eqb}
use lib.ListN.{length}
use Rattle.kinds.specs.Kinds.{kind_at, input_kind, output_kind}
use Rattle.kinds.proofs.Widths.{Fits}
use Rattle.cells.specs.Records.{kind_made}
use Rattle.cells.proofs.Counts.{kind_makes}
use Rattle.recording.specs.Making.{Room}

-- what `make` asks for, of a cell that fits
pub room_fits : (k w : ℕ) (a b c : List ℕ) (kind : ℕ) → eqb kind input_kind ≡ false → eqb kind output_kind ≡ false → Fits (kind_at kind) w (length a) (length b) (length c)
    → (list outs : List ℕ) → k + (kind_at kind).records w (length a) ≤ 8192 → 8 * (k + (kind_at kind).records w (length a)) ≤ length list → w ≤ length outs
    → Room (kind_made kind k a b c) k list outs
room_fits k w a b c kind i o f list outs slots bytes room =
    let m = kind_makes k w a b c kind i o f in
    record { slots = rw m.0 slots; bytes = rw m.0 bytes; bits = rw m.1 room }
