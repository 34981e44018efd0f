-- Trits copied one by one.
-- Assumes nothing.
use mathlib.Core.Path.{◌≡◌, refl, ap, ◌∙◌}
use mathlib.Core.List.{List, [], ◌∷◌, map}
use Prim.Native.Nat.{ℕ, zero, suc, ◌+◌, ◌<◌, ◌≤◌}
use native.Mathlib.Omega.{arith}
use lib.ListN.{length, take, drop, get_or, set, length-map}
use lib.Seq.{sets, take_all, get_or-take, get_or-drop}
use Rattle.ground.specs.Regions.{part}
use Rattle.ground.proofs.Regions.{part_length}
use Rattle.ground.proofs.Writes.{sets_more}
use Rattle.signs.specs.Bytes.{trit_of}

map_at : (f : ℕ → ℕ) (xs : List ℕ) (i : ℕ) → i < length xs → get_or (map f xs) i 0 ≡ f (get_or xs i 0)
map_at f [] i h = absurd (omega arith)
map_at f (x ∷ xs) zero h = refl
map_at f (x ∷ xs) (suc i) h = map_at f xs i (omega arith)

module _ (text : List ℕ) (from size : ℕ) (inside : from + size ≤ length text) where
  pub trits_long : length (map trit_of (part from size text)) ≡ size
  trits_long = length-map (part from size text) trit_of ∙ part_length from size text inside

  trit_at : (i : ℕ) → i < size → get_or (map trit_of (part from size text)) i 0 ≡ trit_of (get_or text (from + i) 0)
  unfolding part
  trit_at i h =
      let l : i < length (part from size text) = rw (part_length from size text inside) h in
      map_at trit_of (part from size text) i l ∙ ap trit_of (get_or-take size (drop from text) i 0 h ∙ get_or-drop from text i 0)

  module _ (old : List ℕ) (at : ℕ) where
    pub copied_more : {trits : List ℕ} (i : ℕ) → i < size → trits ≡ sets old at (take i (map trit_of (part from size text)))
        → set trits (at + i) (trit_of (get_or text (from + i) 0)) ≡ sets old at (take (i + 1) (map trit_of (part from size text)))
    copied_more i h e =
        let l : i < length (map trit_of (part from size text)) = rw trits_long h in
        rw (e, ← trit_at i h) (sets_more old at (map trit_of (part from size text)) i l)

    pub copied_all : {trits : List ℕ} (i : ℕ) → size ≤ i → trits ≡ sets old at (take i (map trit_of (part from size text)))
        → trits ≡ sets old at (map trit_of (part from size text))
    copied_all i h e = e ∙ ap (sets old at) (take_all i (map trit_of (part from size text)) (let l = trits_long in omega arith))
