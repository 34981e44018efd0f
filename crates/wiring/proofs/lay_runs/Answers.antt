use native.Mathlib.Omega.{arith}
use Prim.Native.Nat.{◌-◌}
use lib.ListN.{length}
use Rattle.wiring.proofs.CellRegions.{runs_rest}
use Rattle.ground.specs.Regions.{part}
use Rattle.wiring.proofs.lay_runs.Goals as goal

pub lay_cell-requires : goal.lay_cell-requires
unfolding part
lay_cell-requires c = let s = c in (s.requires.0, rw (s.requires.1, s.requires.2) s.requires.3, s.requires.4)

pub returns : goal.returns
unfolding part
returns c =
    let s = c in
    let a = s.args in
    let l = c.lay_cell in
    runs_rest a.text.now a.w a.so a.rows.now a.bits.now _ _ _ (length a.rows.now - 14019) (length a.bits.now - 131072) s.requires.1 s.requires.2 (omega (arith, s.requires.1)) (omega (arith, s.requires.2)) (omega (arith, l.auto)) (omega (arith, l.auto)) l.ensures.0 l.ensures.1
