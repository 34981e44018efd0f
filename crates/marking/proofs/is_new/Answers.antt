use mathlib.Core.Path.{sym, ap}
use Prim.Native.Nat.{ℕ, ◌≤◌}
use native.Mathlib.Omega.{arith}
use lib.Dec.{eqb}
use lib.ListN.{length, get_or-eq_default}
use lib.Seq.{set_out}
use Rattle.marking.specs.Marks.{place_of}
use Rattle.marking.proofs.is_new.Goals as goal

pub returns : goal.returns
returns c =
    let a = c.args in
    let h : length a.seen.now ≤ place_of a.mark = omega arith in
    (sym (ap (λ (b : ℕ). eqb b 0) (get_or-eq_default a.seen.now 0 h)), sym (set_out a.seen.now (place_of a.mark) 1 h))
