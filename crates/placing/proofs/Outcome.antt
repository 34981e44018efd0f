-- A placing has one outcome: two that its contract allows are equal, the answer and every lent word.
use mathlib.Core.Path.{◌≡◌, sym, ◌∙◌}
use mathlib.Core.List.{List}
use Prim.Native.Nat.{ℕ}
use Rattle.placing.specs.declared.Placed.{Placed}
use Rattle.placing.specs.InTables.{PlacedAll}

pub place_once : (cells runs : List ℕ) (n : ℕ) {rows marks rows' marks' : List ℕ} {a b : Placed} → PlacedAll cells runs n rows marks a → PlacedAll cells runs n rows' marks' b
    → (rows ≡ rows') × (marks ≡ marks') × (a ≡ b)
place_once cells runs n p q =
    let c = p.count ∙ sym q.count in
    let r = p.ring ∙ sym q.ring in
    (p.rows_are ∙ sym q.rows_are, p.clear ∙ sym q.clear, λ x. record { count = c x; ring = r x })
