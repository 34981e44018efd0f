-- Each printed line of metadata and I/O is plain.
use Prim.Native.Nat.{ℕ, ◌+◌, ◌≤◌}
use mathlib.Core.Path.{◌≡◌, refl}
use mathlib.Core.Bool.{Bool, true}
use mathlib.Core.List.{List, [], ◌∷◌}
use native.Mathlib.Omega.{arith}
use lib.Dec.{leb, eqb}
use lib.ListN.{length}
use borrow.Author.Tests.{leb-true, le-leb, eqb-true}
use Rattle.ground.specs.Lists.{every}
use Rattle.ground.specs.Text.{bytes}
use Rattle.ground.proofs.Bools.{bool_cases, and_true, fact, every_first, every_more}
use Rattle.kinds.proofs.Widths.{picked, wide_is}
use Rattle.netlist.specs.Netlist.{Meta, Io, set_meta, source_meta, scope_meta, indexed_meta, ident_meta, bits_meta, integer_meta, is_scope}
use Rattle.netlist.specs.Rules.{is_number, refers, may_refer, is_member, is_source, meta_sound, io_sound}
use Rattle.writing.specs.Words.{text, quoted}
use Rattle.lines.specs.Lines.{point, scope_line, attr_value, meta_body, meta_line, io_line}
use Rattle.returning.proofs.Plain.{Fine, Lined, fine_more, line_end, line_first}
use Rattle.returning.proofs.Words.{text_fine, number_fine, hash_fine, quoted_fine, trits_fine, reference_fine, references_fine, option_fine}

-- a reference is no more than there are rows
pub refers_most : (p : ℕ → Bool) (kinds : List ℕ) (r : ℕ) → refers p kinds r ≡ true → r ≤ length kinds
refers_most p kinds r h =
    let e = and_true (leb 1 r) _ h in
    leb-true r (length kinds) (and_true (leb r (length kinds)) _ e.1).0

may_refer_most : (p : ℕ → Bool) (kinds : List ℕ) (r : ℕ) → may_refer p kinds r ≡ true → r ≤ length kinds
may_refer_most p kinds r h = bool_cases (eqb r 0) (λ e. omega (arith, eqb-true r 0 e)) (λ e. refers_most p kinds r (rw e at h))

members_most : (kinds : List ℕ) (rs : List ℕ) → length kinds ≤ 65535 → every (refers is_member kinds) rs ≡ true → every (λ r. leb r 65535) rs ≡ true
unfolding every
members_most kinds [] l h = refl
members_most kinds (r ∷ rs) l h =
    let e = every_first (refers is_member kinds) r rs h in
    every_more (λ r. leb r 65535) r rs (le-leb r 65535 (omega (arith, refers_most is_member kinds r e.0))) (members_most kinds rs l e.1)

point_fine : {n : ℕ} (a b : ℕ) {s : List ℕ} → is_number a ≡ true → is_number b ≡ true → Fine n s → Fine n (point a b s)
unfolding point
point_fine a b p q f = fine_more 40 refl (hash_fine a p (fine_more 32 refl (hash_fine b q (fine_more 41 refl f))))

-- METADATA
module _ (kinds : List ℕ) (m : Meta) (l : length kinds ≤ 65535) (p : meta_sound kinds m ≡ true) where
  inside_most : m.inside ≤ 65535
  inside_most = bool_cases (eqb m.kind ident_meta)
      (λ e. omega (arith, l, refers_most is_scope kinds m.inside (rw e at (fact _ (fact _ p 2) 1))))
      (λ e. omega (arith, l, may_refer_most is_scope kinds m.inside (rw e at (fact _ (fact _ p 2) 1))))

  source_most : m.source ≤ 65535
  source_most = omega (arith, l, may_refer_most is_source kinds m.source (fact _ (fact _ p 2) 2))

  scope_fine : {n : ℕ} {s : List ℕ} → Fine n s → Fine n (scope_line m s)
  unfolding text every bytes
  scope_fine f = option_fine (text " in=" []) m.inside refl inside_most (option_fine (text " src=" []) m.source refl source_most f)

  value_fine : {n : ℕ} {s : List ℕ} → Fine n s → Fine n (attr_value m s)
  value_fine {n} f =
      picked (Fine n) (eqb m.kind bits_meta) _ _ (trits_fine m.bits (fact _ (fact _ p 1) 2) f)
      (picked (Fine n) (eqb m.kind integer_meta) _ _ (hash_fine m.number (fact _ (fact _ p 1) 3) f) (quoted_fine m.text (fact _ (fact _ p 1) 1) f))

  name_fine : {n : ℕ} {s : List ℕ} → Fine n s → Fine n (quoted m.name s)
  name_fine f = quoted_fine m.name (fact _ (fact _ p 1) 0) f

  body_fine : {n : ℕ} {s : List ℕ} → Fine n s → Fine n (meta_body m s)
  unfolding every bytes
  body_fine {n} f =
      picked (Fine n) (eqb m.kind set_meta) _ _ (fine_more 123 refl (references_fine m.members (members_most kinds m.members l (fact _ (fact _ p 2) 0)) (fine_more 125 refl f)))
      (picked (Fine n) (eqb m.kind source_meta) _ _
      (text_fine "source " refl (name_fine (fine_more 32 refl (point_fine m.line m.column (fact _ (fact _ p 1) 4) (fact _ (fact _ p 1) 5) (fine_more 32 refl (point_fine m.end_line m.end_column (fact _ (fact _ p 1) 6) (fact _ (fact _ p 1) 7) f))))))
      (picked (Fine n) (eqb m.kind scope_meta) _ _ (text_fine "scope " refl (name_fine (scope_fine f)))
      (picked (Fine n) (eqb m.kind indexed_meta) _ _ (text_fine "scope " refl (hash_fine m.number (fact _ (fact _ p 1) 3) (scope_fine f)))
      (picked (Fine n) (eqb m.kind ident_meta) _ _ (text_fine "ident " refl (name_fine (text_fine " in=" refl (reference_fine m.inside inside_most f))))
      (text_fine "attr " refl (name_fine (fine_more 32 refl (value_fine f))))))))

  pub meta_lined : {n : ℕ} (row : ℕ) {s : List ℕ} → row ≤ 65535 → Lined n s → Lined (n + 1) (meta_line row m s)
  unfolding every bytes
  meta_lined row b f = line_first 33 refl (number_fine row b (text_fine " = " refl (body_fine (line_end f))))

-- I/O
pub io_lined : {n : ℕ} (i : Io) {s : List ℕ} → io_sound i ≡ true → Lined n s → Lined (n + 1) (io_line i s)
unfolding every bytes
io_lined i p f =
    let w = wide_is i.width (fact _ p 2) in
    line_first 38 refl (quoted_fine i.name (fact _ p 1) (fine_more 58 refl (number_fine i.width (omega (arith, w)) (text_fine " = io" refl (line_end f)))))
