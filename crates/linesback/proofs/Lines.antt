-- THE LINES OF METADATA AND I/O BACK: each has the form of its declaration, and says the row that was printed.
use Rattle.form.specs.Form.{Form}
use Prim.Native.Nat.{ℕ, ◌+◌, ◌≤◌, ◌<◌}
use mathlib.Core.Path.{◌≡◌, refl, ap, ◌∙◌}
use mathlib.Core.Bool.{true, false, ◌&&◌}
use mathlib.Core.List.{List, ◌∷◌}
use mathlib.Core.Option.{none}
use native.Mathlib.Omega.{arith}
use lib.Dec.{leb, eqb}
use lib.ListN.{drop, length}
use borrow.Author.Tests.{eqb-true, eqb-false, leb-true}
use Rattle.ground.specs.Lists.{every}
use Rattle.ground.specs.Text.{bytes, same}
use Rattle.ground.proofs.Bools.{bool_cases, fact, and_true}
use Rattle.signs.specs.Bytes.{class_of, class_from}
use Rattle.signs.specs.Pieces.{decoded}
use Rattle.lexis.specs.Tokens.{plain, token, meta, io}
use Rattle.lexis.specs.declared.Token.{Token}
use Rattle.brackets.specs.Parts.{str}
use Rattle.form.specs.Forms.{ended, source_form, scope_form, ident_form, attr_form, meta_form, io_form, body_form, open_form, form_at}
use Rattle.form.specs.declared.Decl.{Decl}
use Rattle.form.specs.declared.Decl.TheVariants as decl
use Rattle.netlist.specs.Netlist.{Meta, Io, set_meta, source_meta, scope_meta, indexed_meta, ident_meta, bits_meta, integer_meta, string_meta}
use Rattle.netlist.specs.Rules.{meta_sound, io_sound, is_byte}
use Rattle.saying.specs.Rules.{Sofar, pad, said_by, asked_of, first_misnamed}
use Rattle.writing.specs.Words as words
use Rattle.lines.specs.Lines.{meta_line, io_line}
use Rattle.tokensback.proofs.Standing.{Stands, Declares}
use Rattle.tokensback.proofs.Tokens.{io_back, string_decoded}
use Rattle.linesback.proofs.Heads.{rest_next, Formed, Worded, worded, declares, ended_back, keyworded, set_opened}
use Rattle.linesback.proofs.Bodies.{set_body, source_body, scoped_body, indexed_body, ident_body, bits_body, integer_body, string_body}
pub use Rattle.linesback.proofs.Bodies.{MetaSays}

-- a kind that is none of the first seven is the last
past : (j n : ℕ) → j ≤ n → eqb n j ≡ false → j < n
past j n l e = let d = eqb-false n j e in omega arith

else_string : (n : ℕ) → leb 1 n && leb n 8 ≡ true → eqb n set_meta ≡ false → eqb n source_meta ≡ false → eqb n scope_meta ≡ false → eqb n indexed_meta ≡ false → eqb n ident_meta ≡ false
    → eqb n bits_meta ≡ false → eqb n integer_meta ≡ false → n ≡ string_meta
else_string n h c d e f g i j =
    let r = and_true (leb 1 n) (leb n 8) h in
    let u = leb-true n 8 r.1 in
    let l = past 7 n (past 6 n (past 5 n (past 4 n (past 3 n (past 2 n (past 1 n (leb-true 1 n r.0) c) d) e) f) g) i) j in
    omega arith

-- a line of metadata with this word behind ` = ` is declared where the rest, from the space on, has this form
abbrev Opens : List ℕ → ℕ → ℕ → (Decl → Type 0) → List ℕ → List ℕ → List ℕ → (List ℕ → Token → ℕ → Form) → Type 0
Opens text k row says s word body form =
    Stands text k (33 ∷ words.number row (words.text " = " word))
    → ((j : ℕ) → drop j text ≡ 32 ∷ body → Formed text (plain meta k row 0 0) says s (form text (plain meta k row 0 0) j))
    → Declares text k row says s

module _ (text : List ℕ) (k row : ℕ) (a : row ≤ 65535) (says : Decl → Type 0) (s body : List ℕ) where
  source_line : Opens text k row says s (words.text "source " body) body source_form
  unfolding meta_form words.text bytes same every class_of class_from
  source_line h formed = keyworded row (bytes "source") (32 ∷ body) (source_form text (plain meta k row 0 0)) a (omega arith) refl refl h (λ at j q. rw q) formed

  scope_line : Opens text k row says s (words.text "scope " body) body scope_form
  unfolding meta_form words.text bytes same every class_of class_from
  scope_line h formed = keyworded row (bytes "scope") (32 ∷ body) (scope_form text (plain meta k row 0 0)) a (omega arith) refl refl h (λ at j q. rw q) formed

  ident_line : Opens text k row says s (words.text "ident " body) body ident_form
  unfolding meta_form words.text bytes same every class_of class_from
  ident_line h formed = keyworded row (bytes "ident") (32 ∷ body) (ident_form text (plain meta k row 0 0)) a (omega arith) refl refl h (λ at j q. rw q) formed

  attr_line : Opens text k row says s (words.text "attr " body) body attr_form
  unfolding meta_form words.text bytes same every class_of class_from
  attr_line h formed = keyworded row (bytes "attr") (32 ∷ body) (attr_form text (plain meta k row 0 0)) a (omega arith) refl refl h (λ at j q. rw q) formed

-- A LINE OF METADATA
pub meta_line_back : {text : List ℕ} {k : ℕ} {s : List ℕ} (row : ℕ) (kinds : List ℕ) (m : Meta) → row ≤ 65535 → length kinds ≤ 65535 → meta_sound kinds m ≡ true
    → Stands text k (meta_line row m s) → Declares text k row (MetaSays text kinds m) s
meta_line_back {text} {k} {s} row kinds m a b p h =
    let t = plain meta k row 0 0 in
    let says = MetaSays text kinds m in
    bool_cases (eqb m.kind set_meta)
    (λ e. set_opened row _ a (rw e at h) (λ j r. set_body text j t s kinds m p b (eqb-true m.kind set_meta e) r))
    (λ c. bool_cases (eqb m.kind source_meta)
    (λ e. source_line text k row a says s _ (rw (c, e) at h) (λ j r. source_body text j t s kinds m p (eqb-true m.kind source_meta e) r))
    (λ d. bool_cases (eqb m.kind scope_meta)
    (λ e. scope_line text k row a says s _ (rw (c, d, e) at h) (λ j r. scoped_body text j t s kinds m p b (eqb-true m.kind scope_meta e) r))
    (λ f. bool_cases (eqb m.kind indexed_meta)
    (λ e. scope_line text k row a says s _ (rw (c, d, f, e) at h) (λ j r. indexed_body text j t s kinds m p b (eqb-true m.kind indexed_meta e) r))
    (λ g. bool_cases (eqb m.kind ident_meta)
    (λ e. ident_line text k row a says s _ (rw (c, d, f, g, e) at h) (λ j r. ident_body text j t s kinds m p b (eqb-true m.kind ident_meta e) r))
    (λ i. bool_cases (eqb m.kind bits_meta)
    (λ e. attr_line text k row a says s _ (rw (c, d, f, g, i, e) at h) (λ j r. bits_body text j t s kinds m p (eqb-true m.kind bits_meta e) r))
    (λ n. bool_cases (eqb m.kind integer_meta)
    (λ e. attr_line text k row a says s _ (rw (c, d, f, g, i, n, e) at h) (λ j r. integer_body text j t s kinds m p (eqb-true m.kind integer_meta e) r))
    (λ o. attr_line text k row a says s _ (rw (c, d, f, g, i, n, o) at h) (λ j r. string_body text j t s kinds m p (else_string m.kind (fact _ (fact _ p 0) 0) c d f g i n o) r))))))))

-- the declaration says the row i
abbrev pub IoSays : List ℕ → Io → Decl → Type 0
IoSays text i d = (so : Sofar) → (said_by text so d ≡ pad i) × (first_misnamed so (asked_of text d) ≡ none)

-- A LINE OF I/O
pub io_line_back : {text : List ℕ} {k : ℕ} {s : List ℕ} (i : Io) → io_sound i ≡ true → Stands text k (io_line i s) → Declares text k 0 (IoSays text i) s
unfolding form_at open_form body_form io_form words.text bytes every class_of class_from same said_by first_misnamed
io_line_back {text} {k} {s} i p h =
    let m : k + 2 ≡ k + 1 + 1 = omega arith in
    let n : every is_byte i.name ≡ true = fact _ p 1 in
    let w = leb-true i.width 256 (and_true (leb 1 i.width) (leb i.width 256) (fact _ p 2)).1 in
    let t = io_back text k i.name i.width n (omega arith) refl h in
    let o : Worded text t.end (bytes "io") (10 ∷ s) = worded (bytes "io") (omega arith) refl refl t.rest in
    let t' = token io k 0 (k + 2) (length i.name) 2 0 i.width 0 in
    let e : form_at text k ≡ ended text t' (decl.Io (str t') i.width) o.end = rw (t.inside, o.marked, o.keyword, o.letters) in
    let d : decoded text (k + 2) ≡ i.name = ap (decoded text) m ∙ string_decoded text (k + 1) i.name _ n (rest_next text k h.rest) in
    declares t' e (ended_back _ o.end o.rest (λ so. (ap (λ (bs : List ℕ). pad (record { name = bs; width = i.width })) d, refl)))
