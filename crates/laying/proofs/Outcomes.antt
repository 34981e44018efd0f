-- What the contracts of laying fix: the trits of a constant always; of an operand and of a cell, whether the runs fit, and where they do
-- every count and every word of the two regions.
use Rattle.std.specs.Prelude.{Some, None}
use mathlib.Core.Path.{◌≡◌, sym, ap₂, ◌∙◌}
use mathlib.Core.Bool.{Bool}
use mathlib.Core.List.{List, ◌++◌, map}
use Prim.Native.Nat.{ℕ, ◌<◌, ◌≤◌}
use native.Mathlib.Omega.{arith}
use lib.ListN.{length}
use lib.Seq.{sets}
use Rattle.ground.specs.Regions.{part}
use Rattle.ground.proofs.Outcome.{any_two}
use Rattle.signs.specs.Bytes.{trit_of}
use Rattle.netlist.specs.Netlist.{Run}
use Rattle.laying.specs.Holding.{Holds, After, CellAfter}
use Rattle.laying.specs.Bare.{TellsBare, CellTellsBare}
use Rattle.laying.specs.declared.Laid.{Laid}
use Rattle.laying.specs.declared.Counts.{Counts}

pub one_trits : (text : List ℕ) (from size at : ℕ) (trits o p : List ℕ) → o ≡ sets trits at (map trit_of (part from size text)) → p ≡ sets trits at (map trit_of (part from size text)) → o ≡ p
one_trits text from size at = any_two (λ trits. sets trits at (map trit_of (part from size text)))

-- what holds the same runs is the same
pub one_held : (rs : List Run) (a x b y : List ℕ) (s t : Laid) → Holds rs a x s → Holds rs b y t → (s ≡ t) × (a ≡ b) × (x ≡ y)
one_held rs a x b y s t h k =
    (ap₂ (λ (n m : ℕ). record { runs = n; trits = m }) (h.count ∙ sym k.count) (h.filled ∙ sym k.filled), h.rows ∙ sym k.rows, h.bits ∙ sym k.bits)

-- runs that fit never pass the limit
never_full : (rs : List Run) (a x : List ℕ) (s : Laid) → Holds rs a x s → 4096 < length rs → ⊥
never_full rs a x s h l = let m = h.long in omega arith

module _ (rs new : List Run) (a x b y : List ℕ) where
  pub one_laid : (s t : Laid) (p q : Bool) → After rs new (Some (s, p)) a x → After rs new (Some (t, q)) b y → (s ≡ t) × (a ≡ b) × (x ≡ y)
  one_laid s t p q = one_held (rs ++ new) a x b y s t

  pub laid_or_full : (s : Laid) (p : Bool) → After rs new (Some (s, p)) a x → After rs new None b y → ⊥
  laid_or_full s p = never_full (rs ++ new) a x s

-- and the answer tells the same of parts without bits
pub one_told : (bare : Bool) (s t : Laid) (p q : Bool) → TellsBare bare (Some (s, p)) → TellsBare bare (Some (t, q)) → p ≡ q
one_told bare s t p q h k = h ∙ sym k

module _ (rs ra rb rc : List Run) (bare : Bool) (a x b y : List ℕ) where
  pub one_cell_laid : (s t : Counts) → CellAfter rs ra rb rc (Some s) a x → CellTellsBare bare (Some s)
      → CellAfter rs ra rb rc (Some t) b y → CellTellsBare bare (Some t) → (s ≡ t) × (a ≡ b) × (x ≡ y)
  one_cell_laid s t h p k q =
      let e = one_held (rs ++ (ra ++ (rb ++ rc))) a x b y s.so t.so h.holds k.holds in
      (alike s.a t.a s.b t.b s.c t.c s.so t.so s.bare t.bare (h.a ∙ sym k.a) (h.b ∙ sym k.b) (h.c ∙ sym k.c) e.0 (p ∙ sym q), e.1, e.2)
    where
      alike : (a b c d e f : ℕ) (s t : Laid) (m n : Bool) → a ≡ b → c ≡ d → e ≡ f → s ≡ t → m ≡ n → ◌≡◌ {A = Counts} (record { a = a; b = c; c = e; so = s; bare = m }) (record { a = b; b = d; c = f; so = t; bare = n })
      alike a b c d e f s t m n p q r u v = rw (p, q, r, u, v)

  pub cell_laid_or_full : (s : Counts) → CellAfter rs ra rb rc (Some s) a x → CellAfter rs ra rb rc None b y → ⊥
  cell_laid_or_full s h = never_full (rs ++ (ra ++ (rb ++ rc))) a x s.so h.holds
