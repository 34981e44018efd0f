use mathlib.Core.Path.{◌≡◌, ap, ◌∙◌}
use Prim.Native.Nat.{ℕ, ◌+◌, ◌*◌, ◌%◌}
use native.Mathlib.Omega.{arith}
use Rattle.marking.proofs.Laws.{more_four}
use Rattle.marking.proofs.mark_four.Goals as goal

pub returns : goal.returns
returns c = let a = c.args in
    let f = a.mark * 2388247185 % 4294967296 in
    let e : (f + a.a * 2388247185) + ((a.b * 1479837739 + a.c * 2086121001) + a.d * 2862933555) ≡ f + a.a * 2388247185 + a.b * 1479837739 + a.c * 2086121001 + a.d * 2862933555 = omega arith in
    ap (λ (n : ℕ). n % 4294967296) e ∙ more_four a.mark a.a a.b a.c a.d
