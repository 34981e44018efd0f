-- Tables laid end to end in lent slices are found there again, whatever stands behind them.
use mathlib.Core.Path.{◌≡◌, refl, ap, ◌∙◌, sym, subst}
use mathlib.Core.List.{List, [], ◌∷◌, ◌++◌, append_assoc}
use Prim.Native.Nat.{ℕ, ◌+◌}
use native.Mathlib.Omega.{arith}
use lib.ListN.{length, drop, take}
use lib.Seq.{take-append_seam}
use Rattle.ground.specs.Regions.{part}
use Rattle.ground.proofs.Regions.{part_front, part_next}
use Rattle.netlist.specs.Tables.{Tables, rows_of, bits_of, tables_in}
use Rattle.netlist.proofs.Laying.{Long, tables_eq}

-- a region of n words that begins at s, and what stands behind it
pub record Region (p : List ℕ) (s n : ℕ) (x rest : List ℕ) : Type 0 where
  pub is : part s n p ≡ x
  pub next : drop (s + n) p ≡ rest

pub region_at : (p : List ℕ) (s n : ℕ) (x rest : List ℕ) → length x ≡ n → drop s p ≡ x ++ rest → Region p s n x rest
region_at p s n x rest e h = record {
  is = subst (λ (m : ℕ). part s m p ≡ x) e (part_front p s x rest h);
  next = subst (λ (m : ℕ). drop (s + m) p ≡ rest) e (part_next p s x rest h);
}

pub tables_back : (T : Tables) → Long T → (xs ys zs : List ℕ) → tables_in (rows_of T ++ xs) (T.strings ++ ys) (bits_of T ++ zs) ≡ T
unfolding tables_in rows_of bits_of
tables_back T l xs ys zs =
    let p = rows_of T ++ xs in
    let a : Region p 3 8192 T.metas _ = region_at p 3 8192 T.metas (T.members ++ (T.ios ++ (T.cells ++ (T.runs ++ xs)))) l.metas (simp append_assoc) in
    let b : Region p 8195 1024 T.members _ = region_at p 8195 1024 T.members (T.ios ++ (T.cells ++ (T.runs ++ xs))) l.members a.next in
    let c : Region p 9219 192 T.ios _ = region_at p 9219 192 T.ios (T.cells ++ (T.runs ++ xs)) l.ios b.next in
    let d : Region p 9411 4608 T.cells _ = region_at p 9411 4608 T.cells (T.runs ++ xs) l.cells c.next in
    let e : Region p 14019 12288 T.runs _ = region_at p 14019 12288 T.runs xs l.runs d.next in
    let q = bits_of T ++ zs in
    let f : Region q 0 131072 T.attr_bits _ = region_at q 0 131072 T.attr_bits (T.run_bits ++ zs) l.attr_bits (append_assoc T.attr_bits T.run_bits zs) in
    let g : Region q 131072 262656 T.run_bits _ = region_at q 131072 262656 T.run_bits zs l.run_bits f.next in
    let s : take 16384 (T.strings ++ ys) ≡ T.strings = subst (λ (m : ℕ). take m (T.strings ++ ys) ≡ T.strings) l.strings (take-append_seam T.strings ys) in
    tables_eq (tables_in p (T.strings ++ ys) q) T refl refl refl a.is b.is c.is d.is e.is s f.is g.is
