-- Rows of nine words, and the limits that are tested before the operands are laid.
-- Assumes nothing.
use mathlib.Core.Path.{◌≡◌, refl, sym, ap, ◌∙◌}
use mathlib.Core.Bool.{Bool, true, false, ◌&&◌, ◌||◌}
use mathlib.Core.List.{List, [], ◌∷◌, ◌++◌}
use Prim.Native.Nat.{ℕ, ◌+◌, ◌<◌, ◌≤◌}
use native.Mathlib.Omega.{arith}
use lib.Dec.{leb, ltb, eqb}
use lib.ListN.{length}
use lib.Seq.{sets}
use borrow.Author.Tests.{leb-true, leb-false, ltb-true, ltb-false, lt-leb, le-ltb}
use Rattle.ground.specs.Choice.{pick}
use Rattle.ground.proofs.Bools.{bool_cases, never_both}
use Rattle.ground.proofs.Writes.{sets_append}
use Rattle.form.specs.declared.Wiring.{Wiring}
use Rattle.kinds.specs.Kinds.{output_kind}
use Rattle.netlist.specs.Netlist.{Cell, Netlist, strings_of}
use Rattle.netlist.specs.Rules.{output_bits, roomy}
use Rattle.netlist.proofs.Laying.{Roomy, roomy_is}
use Rattle.noting.specs.Noted.{Tallied}
use Rattle.wiring.specs.CellAdding.{name_size, out_bits, tight}
use Rattle.noting.specs.declared.Tally.{Tally}
use Rattle.wiring.proofs.CellRooms.{with_row, cells_cramped, bits_cramped, outputs_cramped, name_cramped, strings_cramped}

-- nine words, three at a time
pub put_nine : (l : List ℕ) (k x0 x1 x2 x3 x4 x5 x6 x7 x8 : ℕ) {y2 y3 : ℕ} {l1 l2 l3 : List ℕ} → y2 ≡ x2 → y3 ≡ x3
    → l1 ≡ sets l k (x0 ∷ x1 ∷ y2 ∷ []) → l2 ≡ sets l1 (k + 3) (y3 ∷ x4 ∷ x5 ∷ []) → l3 ≡ sets l2 (k + 6) (x6 ∷ x7 ∷ x8 ∷ [])
    → l3 ≡ sets l k (x0 ∷ x1 ∷ x2 ∷ x3 ∷ x4 ∷ x5 ∷ x6 ∷ x7 ∷ x8 ∷ [])
put_nine l k x0 x1 x2 x3 x4 x5 x6 x7 x8 {y2} {y3} {l1} {l2} {l3} p q a b c =
    let e : k + 6 ≡ k + 3 + 3 = omega arith in
    let xs = x0 ∷ x1 ∷ x2 ∷ [] in
    let ys = x3 ∷ x4 ∷ x5 ∷ [] in
    let zs = x6 ∷ x7 ∷ x8 ∷ [] in
    let a' : l1 ≡ sets l k xs = a ∙ ap (λ (y : ℕ). sets l k (x0 ∷ x1 ∷ y ∷ [])) p in
    let b' : l2 ≡ sets (sets l k xs) (k + 3) ys = b ∙ ap (λ (y : ℕ). sets l1 (k + 3) (y ∷ x4 ∷ x5 ∷ [])) q ∙ ap (λ (m : List ℕ). sets m (k + 3) ys) a' in
    c ∙ ap (λ (m : List ℕ). sets m (k + 6) zs) b' ∙ ap (λ (j : ℕ). sets (sets (sets l k xs) (k + 3) ys) j zs) e
    ∙ sym (sets_append (sets l k xs) (k + 3) ys zs) ∙ sym (sets_append l k xs (ys ++ zs))

pub out_most : (w : Wiring) → w.a.width ≤ 256 → out_bits w ≤ 256
out_most w h = bool_cases (eqb w.kind output_kind) (λ e. rw e h) (λ e. rw e (omega arith))

-- ONE LIMIT IS PASSED, or none of them
module _ (n : Tally) (w : Wiring) where
  pub record Loose : Type 0 where
    pub cells : n.cells < 512
    pub bits : n.declared + w.width ≤ 4096
    pub outputs : n.outputs + out_bits w ≤ 4096
    pub name : name_size w ≤ 255
    pub strings : n.strings + name_size w ≤ 16384

  pub loose : tight n w ≡ false → Loose
  unfolding tight
  loose h =
      bool_cases (leb 512 n.cells) (λ e. never_both refl (rw e at h)) (λ e. let h = rw e at h in
      bool_cases (ltb 4096 (n.declared + w.width)) (λ f. never_both refl (rw f at h)) (λ f. let h = rw f at h in
      bool_cases (ltb 4096 (n.outputs + out_bits w)) (λ g. never_both refl (rw g at h)) (λ g. let h = rw g at h in
      bool_cases (ltb 255 (name_size w)) (λ i. never_both refl (rw i at h)) (λ i. let h = rw i at h in
      record {
        cells = leb-false _ _ e;
        bits = ltb-false _ _ f;
        outputs = ltb-false _ _ g;
        name = ltb-false _ _ i;
        strings = ltb-false _ _ h;
      }))))

  pub cramped : (N : Netlist) (c : Cell) → Tallied N n → c.width ≡ w.width → length c.name ≡ name_size w → output_bits c ≡ out_bits w → tight n w ≡ true → roomy (with_row N c) ≡ false
  unfolding tight
  cramped N c t width name out h =
      let r = roomy_is N t.roomy in
      bool_cases (leb 512 n.cells) (λ e. cells_cramped N c r (omega (arith, leb-true 512 n.cells e, t.cells))) (λ e. let h = rw e at h in
      bool_cases (ltb 4096 (n.declared + w.width)) (λ f. bits_cramped N c r (omega (arith, ltb-true 4096 (n.declared + w.width) f, t.declared))) (λ f. let h = rw f at h in
      bool_cases (ltb 4096 (n.outputs + out_bits w)) (λ g. outputs_cramped N c r (omega (arith, ltb-true 4096 (n.outputs + out_bits w) g, t.outputs))) (λ g. let h = rw g at h in
      bool_cases (ltb 255 (name_size w)) (λ i. name_cramped N c r (omega (arith, ltb-true 255 (name_size w) i))) (λ i. let h = rw i at h in
      strings_cramped N c r (omega (arith, ltb-true 16384 (n.strings + name_size w) h, t.strings))))))

  -- the last of the tests
  pub tight_last : (o s : ℕ) → o ≡ out_bits w → s ≡ name_size w → n.cells < 512 → n.declared + w.width ≤ 4096 → n.outputs + o ≤ 4096 → s ≤ 255 → ltb 16384 (n.strings + s) ≡ tight n w
  unfolding tight
  tight_last o s p q a b c d =
      let c' : n.outputs + out_bits w ≤ 4096 = omega (arith, p) in
      let d' : name_size w ≤ 255 = omega (arith, q) in
      let x = lt-leb 512 n.cells a in
      let y = le-ltb 4096 (n.declared + w.width) b in
      let z = le-ltb 4096 (n.outputs + out_bits w) c' in
      let v = le-ltb 255 (name_size w) d' in
      rw (x, y, z, v, q)
