-- A string laid into a part of the pool.
use mathlib.Core.Path.{◌≡◌, refl, sym, ap, ◌∙◌}
use mathlib.Core.List.{List, [], ◌++◌}
use Prim.Native.Nat.{ℕ, ◌+◌, ◌-◌, ◌≤◌}
use native.Mathlib.Nat.{add-zero}
use native.Mathlib.Omega.{arith}
use lib.ListN.{length, take, drop}
use lib.Seq.{sets}
use borrow.Author.Tests.{eq-eqb, ne_eqb}
use Rattle.signs.specs.Pieces.{decoded}
use Rattle.saying.specs.Notes.{spelled}
use Rattle.settling.proofs.Middle.{middle}

module _ (text : List ℕ) (at size : ℕ) where
  pub spelled_none : size ≡ 0 → spelled text at size ≡ []
  spelled_none e = rw (eq-eqb size 0 e)

  pub spelled_some : (size ≡ 0 → ⊥) → spelled text at size ≡ decoded text at
  spelled_some n = rw (ne_eqb size 0 n)

  pub string_laid : (l m : List ℕ) (s e : ℕ) → (size ≡ 0 → ⊥) → size ≡ length (spelled text at size) → e ≡ s + size → s + size ≤ length l
      → m ≡ sets (take (e - s) (drop s l)) 0 (decoded text at)
      → take s l ++ (m ++ drop (e - s) (drop s l)) ≡ sets l s (spelled text at size)
  string_laid l m s e n k h r is =
      let d : spelled text at size ≡ decoded text at = spelled_some n in
      let f : 0 + length (decoded text at) ≤ e - s = omega (arith, k, ap length d) in
      rw is (middle l (decoded text at) s e 0 (omega arith) (omega arith) f ∙ rw (d, add-zero))
