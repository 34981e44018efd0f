-- The cell identifier of good index and parts, and the byte that begins it.
use mathlib.Core.Path.{◌≡◌, refl}
use mathlib.Core.Bool.{Bool, true, false, not, ◌||◌}
use mathlib.Core.List.{List}
use Prim.Native.Nat.{ℕ, ◌+◌}
use lib.Dec.{eqb}
use Rattle.ground.specs.Choice.{pick}
use Rattle.ground.proofs.Bools.{never_both, or_false}
use Rattle.signs.specs.Bytes.{class_from, class_of}
use Rattle.lexis.specs.Tokens.{cell_took, cell_from, placeholder_from, opens_placeholder, cell_of, long_of}
use Rattle.signs.specs.declared.pieces.Numeral.{Numeral}
use Rattle.signs.specs.declared.pieces.Suffix.{Suffix}

pub not_true : (a : Bool) → not a ≡ true → a ≡ false
not_true true e = never_both e refl
not_true false e = refl

good_part : (s : Suffix) → not (s.broken || s.large) ≡ true → (s.broken ≡ false) × (s.large ≡ false)
good_part s e = or_false _ _ (not_true _ e)

pub good_cell :
    (text : List ℕ) (k : ℕ) (i : Numeral) (o w c : Suffix) → not (eqb i.end (k + 1) || (i.large || opens_placeholder text i.end)) ≡ true
    → not (o.broken || o.large) ≡ true → not (w.broken || w.large) ≡ true → not (c.broken || c.large) ≡ true
    → cell_took k i o w c ≡ pick (opens_placeholder text i.end) (placeholder_from k i) (cell_from k i o w c)
good_cell text k i o w c ei eo ew ec =
    let n = or_false (eqb i.end (k + 1)) (i.large || opens_placeholder text i.end) (not_true _ ei) in
    let m = or_false i.large (opens_placeholder text i.end) n.1 in
    let po = good_part o eo in
    let pw = good_part w ew in
    let pc = good_part c ec in
    rw (m.1, n.0, m.0, po.0, po.1, pw.0, pw.1, pc.0, pc.1)

-- `%` is no letter, no constant and no other token's first byte
pub cell_begun : (text : List ℕ) (k b : ℕ) → b ≡ 37 → cell_of text k ≡ long_of text k b
unfolding long_of class_of class_from
cell_begun text k b e = rw e
