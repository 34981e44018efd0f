-- What a writer of text leaves in the room, and the count that it tells, are one outcome.
use Prim.Native.Nat.{ℕ, ◌+◌, ◌≤◌, min}
use mathlib.Core.Path.{◌≡◌, ap, sym, ◌∙◌}
use mathlib.Core.List.{List, []}
use native.Mathlib.Omega.{arith}
use Rattle.writing.specs.Stands.{Stand, most, onward, Wrote}

module _ {l l' l'' : List ℕ} {n r s : ℕ} {f : List ℕ → List ℕ} (p : Wrote l n f l' r) (q : Wrote l n f l'' s) where
  pub one_room : l' ≡ l''
  unfolding onward
  one_room = ap (λ (x : Stand). x.room) (p.goes [] ∙ sym (q.goes []))

  pub one_count : r ≤ most → s ≤ most → r ≡ s
  unfolding onward
  one_count h k =
      let e : min (r + 0) most ≡ min (s + 0) most = ap (λ (x : Stand). x.count) (p.goes [] ∙ sym (q.goes [])) in
      omega (arith, e)
