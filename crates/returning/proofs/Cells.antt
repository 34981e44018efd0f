-- Each printed line of a cell is plain.
use Prim.Native.Nat.{ℕ, ◌+◌, ◌≤◌}
use mathlib.Core.Path.{◌≡◌, refl}
use mathlib.Core.Bool.{Bool, true}
use mathlib.Core.List.{List, [], ◌∷◌}
use native.Mathlib.Omega.{arith}
use lib.Dec.{leb, ltb, eqb}
use lib.ListN.{length, get_or}
use borrow.Author.Tests.{leb-true}
use Rattle.ground.specs.Lists.{every}
use Rattle.ground.specs.Text.{bytes}
use Rattle.ground.proofs.Bools.{and_true, fact, every_first}
use Rattle.kinds.specs.Kinds.{Kind, kind_at}
use Rattle.kinds.proofs.Widths.{picked}
use Rattle.netlist.specs.Netlist.{Run, const, piece, Cell}
use Rattle.netlist.specs.Runs.{longest}
use Rattle.netlist.specs.Rules.{is_byte, is_trit, resolves, run_sound, operand_sound, cell_sound}
use Rattle.operands.specs.Operands.{offset, width, run, runs}
use Rattle.celllines.specs.CellLines.{name_text, operand_text, cell_line}
use Rattle.returning.proofs.Plain.{plain_byte, Fine, Lined, fine_more, line_end, line_first}
use Rattle.returning.proofs.Words.{text_fine, number_fine, quoted_fine, trits_fine, option_fine}

offset_fine : {n : ℕ} (whole : Bool) (o : ℕ) {s : List ℕ} → o ≤ 65535 → Fine n s → Fine n (offset whole o s)
unfolding offset
offset_fine {n} whole o l f = picked (Fine n) whole _ _ f (fine_more 43 refl (number_fine o l f))

width_fine : {n : ℕ} (w : ℕ) {s : List ℕ} → w ≤ 65535 → Fine n s → Fine n (width w s)
unfolding width
width_fine {n} w l f = picked (Fine n) (eqb w 1) _ _ f (fine_more 58 refl (number_fine w l f))

-- the keyword of every kind
keyword_plain : (k : ℕ) → every plain_byte (bytes (kind_at k).word) ≡ true
unfolding kind_at every bytes
keyword_plain k =
    let P : Kind → Type 0 = λ x. every plain_byte (bytes x.word) ≡ true in
    picked P (eqb k 1) _ _ refl (picked P (eqb k 2) _ _ refl (picked P (eqb k 3) _ _ refl (picked P (eqb k 4) _ _ refl
    (picked P (eqb k 5) _ _ refl (picked P (eqb k 6) _ _ refl (picked P (eqb k 7) _ _ refl (picked P (eqb k 8) _ _ refl
    (picked P (eqb k 9) _ _ refl (picked P (eqb k 10) _ _ refl (picked P (eqb k 11) _ _ refl (picked P (eqb k 12) _ _ refl refl)))))))))))

module _ (numbers widths : List ℕ) (small : (row : ℕ) → get_or numbers row 0 ≤ 65535) (narrow : (row : ℕ) → get_or widths row 0 ≤ 65535) where
  run_fine : {n : ℕ} (r : Run) {s : List ℕ} → run_sound widths r ≡ true → Fine n s → Fine n (run numbers widths r s)
  run_fine (const ts) p f = trits_fine ts (and_true (leb 1 (length ts)) (every is_trit ts) p).1 f
  run_fine (piece row o w) p f =
      let q = (and_true (leb 1 w) (resolves widths row o w) p).1 in
      let l = leb-true (o + w) (get_or widths row 0) (and_true (ltb row (length widths)) (leb (o + w) (get_or widths row 0)) q).1 in
      fine_more 37 refl (number_fine (get_or numbers row 0) (small row) (offset_fine _ o (omega (arith, l, narrow row)) (width_fine w (omega (arith, l, narrow row)) f)))

  runs_fine : {n : ℕ} (rs : List Run) {s : List ℕ} → every (run_sound widths) rs ≡ true → Fine n s → Fine n (runs numbers widths rs s)
  unfolding runs
  runs_fine [] p f = f
  runs_fine (r ∷ []) p f = run_fine r (every_first (run_sound widths) r [] p).0 f
  runs_fine (r ∷ q ∷ rs) p f =
      let e = every_first (run_sound widths) r (q ∷ rs) p in
      run_fine r e.0 (fine_more 32 refl (runs_fine (q ∷ rs) e.1 f))

  operand_fine : {n : ℕ} (given : Bool) (rs : List Run) {s : List ℕ} → operand_sound widths rs ≡ true → Fine n s → Fine n (operand_text given numbers widths rs s)
  unfolding operand_text
  operand_fine {n} given rs p f =
      let q = (and_true (every (run_sound widths) rs) (longest rs) p).0 in
      picked (Fine n) given _ _
      (fine_more 32 refl (picked (Fine n) (eqb (length rs) 1) _ _ (runs_fine rs q f) (fine_more 91 refl (runs_fine rs q (fine_more 93 refl f))))) f

  name_fine : {n : ℕ} (given : Bool) (name : List ℕ) {s : List ℕ} → every is_byte name ≡ true → Fine n s → Fine n (name_text given name s)
  unfolding name_text
  name_fine {n} given name p f = picked (Fine n) given _ _ (fine_more 32 refl (quoted_fine name p f)) f

  pub cell_lined : {m : ℕ} (n metas : ℕ) (c : Cell) {s : List ℕ} → n ≤ 65535 → metas ≤ 65535 → c.width ≤ 65535 → cell_sound widths metas c ≡ true
      → Lined m s → Lined (m + 1) (cell_line numbers widths n c s)
  unfolding cell_line every bytes
  cell_lined n metas c a b w p f =
      let k = kind_at c.kind in
      let meta = leb-true c.meta metas (fact _ p 3) in
      line_first 37 refl (number_fine n a (fine_more 58 refl (number_fine c.width w (text_fine " = " refl (text_fine k.word (keyword_plain c.kind)
      (name_fine k.named c.name (fact _ p 2)
      (operand_fine _ c.a (fact _ p 8) (operand_fine _ c.b (fact _ p 9) (operand_fine _ c.c (fact _ p 10)
      (option_fine (32 ∷ []) c.meta refl (omega (arith, meta, b)) (line_end f)))))))))))
