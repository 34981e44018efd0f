-- The facts of one row of a valid netlist.
use mathlib.Core.Path.{◌≡◌, refl}
use mathlib.Core.Bool.{Bool, true}
use mathlib.Core.List.{List, [], ◌∷◌, ◌++◌, map, append_assoc, append-nil}
use Prim.Native.Nat.{ℕ, ◌≤◌}
use native.Mathlib.Omega.{arith}
use lib.ListN.{length}
use Rattle.ground.specs.Lists.{every, total}
use Rattle.ground.proofs.Bools.{bool_cases, never_both, fact, every_first}
use Rattle.netlist.specs.Netlist.{Meta, Io, Cell, Netlist}
use Rattle.netlist.specs.Rules.{meta_sound, metas_sound, io_sound, cell_sound, widths_of, valid}
use Rattle.netlist.proofs.Laying.{valid_roomy, valid_metas, valid_cells}
use Rattle.fronts.proofs.Room.{every_split, total_append}

metas_at : (kinds : List ℕ) (ms : List Meta) (m : Meta) (ms' : List Meta) → metas_sound kinds (ms ++ (m ∷ ms')) ≡ true → meta_sound (kinds ++ map (λ (m : Meta). m.kind) ms) m ≡ true
unfolding metas_sound
metas_at kinds [] m ms' h = bool_cases (meta_sound kinds m)
    (λ e. rw append-nil e)
    (λ e. never_both (rw (e, metas_sound) at h) refl)
metas_at kinds (x ∷ ms) m ms' h = bool_cases (meta_sound kinds x)
    (λ e. rw append_assoc at (metas_at (kinds ++ (x.kind ∷ [])) ms m ms' (rw (e, metas_sound) at h)))
    (λ e. never_both (rw (e, metas_sound) at h) refl)

every_here : {A : Type 0} (p : A → Bool) (zs xs : List A) (x : A) (ys : List A) → zs ≡ xs ++ (x ∷ ys) → every p zs ≡ true → p x ≡ true
every_here p zs xs x ys e h = (every_first p x ys (every_split p xs (x ∷ ys) (rw e at h)).1).0

total_here : {A : Type 0} (f : A → ℕ) (xs : List A) (x : A) (ys : List A) → f x ≤ total f (xs ++ (x ∷ ys))
unfolding total
total_here f xs x ys = omega (arith, total_append f xs (x ∷ ys))

-- a row of metadata is sound after those before it
pub meta_sound_at : (N : Netlist) → valid N ≡ true → (ms : List Meta) (m : Meta) (ms' : List Meta) → N.metas ≡ ms ++ (m ∷ ms') → meta_sound (map (λ (m : Meta). m.kind) ms) m ≡ true
meta_sound_at N v ms m ms' e = metas_at [] ms m ms' (rw e at (valid_metas N v))

-- an I/O row is sound
pub io_sound_at : (N : Netlist) → valid N ≡ true → (is : List Io) (i : Io) (is' : List Io) → N.ios ≡ is ++ (i ∷ is') → io_sound i ≡ true
unfolding valid
io_sound_at N v is i is' e = every_here io_sound N.ios is i is' e (fact _ v 2)

-- a cell is sound and no wider than all cells may be
pub cell_sound_at : (N : Netlist) → valid N ≡ true → (cs : List Cell) (c : Cell) (cs' : List Cell) → N.cells ≡ cs ++ (c ∷ cs')
    → (cell_sound (widths_of N.cells) (length N.metas) c ≡ true) × (c.width ≤ 65535)
cell_sound_at N v cs c cs' e =
    let r = valid_roomy N v in
    let b : total (λ (c : Cell). c.width) (cs ++ (c ∷ cs')) ≤ 4096 = rw (← e) r.bits in
    (every_here (cell_sound (widths_of N.cells) (length N.metas)) N.cells cs c cs' e (valid_cells N v), omega (arith, total_here (λ (c : Cell). c.width) cs c cs'))
