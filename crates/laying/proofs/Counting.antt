-- The operands of a cell, one behind the other.
-- Assumes nothing.
use mathlib.Core.Path.{◌≡◌}
use mathlib.Core.Bool.{Bool, ◌||◌}
use mathlib.Core.List.{List, ◌++◌, append_assoc}
use Prim.Native.Nat.{ℕ, ◌+◌, ◌<◌, ◌≤◌}
use native.Mathlib.Omega.{arith}
use lib.ListN.{length, length-append}
use Rattle.brackets.specs.Parts.{parts_at}
use Rattle.brackets.specs.declared.Operand.{Operand}
use Rattle.brackets.proofs.Sums.{widths}
use Rattle.netlist.specs.Netlist.{Run, run_bits_of}
use Rattle.netlist.proofs.Lengths.{run_bits_append}
use Rattle.saying.specs.Values.{operand_runs}
use Rattle.laying.specs.Holding.{Holds, Held, Counted}
use Rattle.laying.specs.declared.Laid.{Laid}
use Rattle.laying.specs.declared.Counts.{Counts}
use Rattle.laying.proofs.Inside.{operand_in}
use Rattle.laying.proofs.Melding.{cut_trits}
use Rattle.laying.proofs.Turning.{bits_of, bits_wide}

-- an operand has no more trits than it is wide
pub operand_trits : (text : List ℕ) (o : Operand) → length (run_bits_of (operand_runs text o)) ≤ widths (parts_at text o)
unfolding operand_runs
operand_trits text o = let t = cut_trits (bits_of text (parts_at text o)) in let w = bits_wide text (operand_in text o) in omega arith

-- AN OPERAND IS LAID
module _ (text : List ℕ) (o : Operand) {runs trits runs' trits' : List ℕ} {so so' : Laid}
    (e : (rs : List Run) → Holds rs runs trits so → Holds (rs ++ operand_runs text o) runs' trits' so') (h : Held runs trits so) where
  pub laid_held : Held runs' trits' so'
  laid_held = record { rs = h.rs ++ operand_runs text o; holds = e h.rs h.holds }

  pub laid_trits : so'.trits ≤ so.trits + widths (parts_at text o)
  laid_trits =
      let a = run_bits_append h.rs (operand_runs text o) in
      let b = operand_trits text o in
      omega (arith, h.holds.filled, (e h.rs h.holds).filled)

  pub laid_runs : so'.runs ≡ so.runs + length (operand_runs text o)
  laid_runs = omega (arith, h.holds.count, (e h.rs h.holds).count, length-append h.rs (operand_runs text o))

-- THREE OPERANDS
module _ (rs ra rb rc : List Run) where
  three : ((rs ++ ra) ++ rb) ++ rc ≡ rs ++ (ra ++ (rb ++ rc))
  three = simp append_assoc

  pub full_one : 4096 < length (rs ++ ra) → 4096 < length (rs ++ (ra ++ (rb ++ rc)))
  full_one h = let a = length-append rs ra in simp length-append (omega arith)

  pub full_two : 4096 < length ((rs ++ ra) ++ rb) → 4096 < length (rs ++ (ra ++ (rb ++ rc)))
  full_two h = let a = simp length-append at h in simp length-append (omega arith)

  pub full_three : 4096 < length (((rs ++ ra) ++ rb) ++ rc) → 4096 < length (rs ++ (ra ++ (rb ++ rc)))
  full_three h = rw three at h

  pub counted : {runs trits : List ℕ} (n : Counts) → n.a ≡ length ra → n.b ≡ length rb → n.c ≡ length rc
      → Holds (((rs ++ ra) ++ rb) ++ rc) runs trits n.so → Counted rs ra rb rc n runs trits
  counted n a b c h = record { a = a; b = b; c = c; holds = rw three at h }

pub bare_of_three : {x y z a b c : Bool} → x ≡ a → y ≡ b → z ≡ c → x || (y || z) ≡ a || (b || c)
bare_of_three p q r = rw (p, q, r)
