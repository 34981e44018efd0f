-- The head and the end of a printed line: ` = ` and the keyword behind the opening token, and the line feed behind the last one.
use Rattle.form.specs.Form.{Form}
use Rattle.std.specs.Prelude.{Ok, Some}
use Prim.Native.Nat.{ℕ, ◌+◌, ◌≤◌}
use mathlib.Core.Path.{◌≡◌, refl, sym, ap, ◌∙◌}
use mathlib.Core.Bool.{true}
use mathlib.Core.List.{List, ◌∷◌, ◌++◌}
use lib.ListN.{drop, take, length}
use Rattle.ground.specs.Lists.{every}
use Rattle.ground.specs.Refusals.{at}
use Rattle.ground.specs.Text.{bytes}
use Rattle.ground.proofs.Rest.{rest_rest}
use Rattle.signs.specs.Bytes.{class_of, class_from, is_letter}
use Rattle.lexis.specs.Tokens.{token_at, took, plain, mark, word, meta}
use Rattle.lexis.specs.declared.Token.{Token}
use Rattle.form.specs.Forms.{ended, set_form, meta_form, body_form, open_form, form_at}
use Rattle.form.specs.declared.Decl.{Decl}
use Rattle.writing.specs.Words as words
use Rattle.tokensback.proofs.Standing.{Stands, Takes, Marks, Declares, ends}
use Rattle.tokensback.proofs.Tokens.{behind_space, spaced, spaced_mark, mark_back, feed_back, meta_back, word_back, word_letters}

-- what is left behind the first byte of what is left
pub rest_next : (text : List ℕ) (k : ℕ) {b : ℕ} {s : List ℕ} → drop k text ≡ b ∷ s → drop (k + 1) text ≡ s
rest_next text k h = sym (rest_rest text k 1) ∙ ap (drop 1) h

-- the declaration that a form takes: what it says, and that s is left behind it
pub record Formed (text : List ℕ) (t : Token) (says : Decl → Type 0) (s : List ℕ) (f : Form) : Type 0 where
  pub decl : Decl
  pub end : ℕ
  pub is : f ≡ Ok (Some (record { place = t.place; index = t.value; decl = decl }, record { next = at end }))
  pub after : Stands text end s
  pub said : says decl

-- the declaration at a place that has this form
pub declares : {text : List ℕ} {k : ℕ} {says : Decl → Type 0} {s : List ℕ} {f : Form} (t : Token) → form_at text k ≡ f → Formed text t says s f → Declares text k t.value says s
declares t e p = record { decl = p.decl; place = t.place; end = p.end; form = e ∙ p.is; after = p.after; said = p.said }

-- the line ends behind the declaration
pub ended_back : {text : List ℕ} {t : Token} {says : Decl → Type 0} {s : List ℕ} (d : Decl) (k : ℕ) → drop k text ≡ 10 ∷ s → says d → Formed text t says s (ended text t d k)
ended_back {text} d k h p = let f = feed_back text k h in record { decl = d; end = f.end; is = rw f.outside; after = f.after; said = p }

module _ (text : List ℕ) (k : ℕ) where
  -- ` =` of ` = `
  equals_behind : {s : List ℕ} → drop k text ≡ words.text " = " s → Marks text k (plain mark (k + 1) 61 0 0) (32 ∷ s)
  unfolding words.text bytes class_of class_from
  equals_behind h = spaced_mark text k h (mark_back text (k + 1) 61 refl (behind_space text k h).rest)

  -- a word behind a space
  pub word_behind : {s : List ℕ} (ls : List ℕ) → 1 ≤ length ls → every is_letter ls ≡ true → ends s ≡ true → drop k text ≡ 32 ∷ (ls ++ s)
      → Takes text k (plain word (k + 1) 0 (k + 1) (length ls)) s
  word_behind ls l p e h = spaced text k h (word_back text (k + 1) ls l p e (behind_space text k h))

-- the keyword ls of a line behind ` = `, and what is left behind it
pub record Worded (text : List ℕ) (k : ℕ) (ls s : List ℕ) : Type 0 where
  pub equals : ℕ
  pub at : ℕ
  pub marked : token_at text k ≡ took (plain mark (k + 1) 61 0 0) equals
  pub end : ℕ
  pub keyword : token_at text equals ≡ took (plain word at 0 at (length ls)) end
  pub letters : take (length ls) (drop at text) ≡ ls
  pub rest : drop end text ≡ s

-- ` = ` and the letters of a word
pub worded : {text : List ℕ} {k : ℕ} {s : List ℕ} (ls : List ℕ) → 1 ≤ length ls → every is_letter ls ≡ true → ends s ≡ true → drop k text ≡ words.text " = " (ls ++ s) → Worded text k ls s
worded {text} {k} {s} ls l p e h =
    let m = equals_behind text k h in
    let w = word_behind text m.end ls l p e m.after.rest in
    record {
      equals = m.end;
      at = m.end + 1;
      marked = m.outside;
      end = w.end;
      keyword = w.outside;
      letters = word_letters text (m.end + 1) ls s (behind_space text m.end m.after.rest).rest;
      rest = w.rest;
    }

-- METADATA opens with its number; a word behind ` = ` chooses the form of the rest
pub keyworded : {text : List ℕ} {k : ℕ} {says : Decl → Type 0} {s : List ℕ} (row : ℕ) (ls rest : List ℕ) (body : ℕ → Form) → row ≤ 65535 → 1 ≤ length ls → every is_letter ls ≡ true → ends rest ≡ true
    → Stands text k (33 ∷ words.number row (words.text " = " (ls ++ rest)))
    → ((at e : ℕ) → take (length ls) (drop at text) ≡ ls → meta_form text (plain meta k row 0 0) (plain word at 0 at (length ls)) e ≡ body e)
    → ((e : ℕ) → drop e text ≡ rest → Formed text (plain meta k row 0 0) says s (body e)) → Declares text k row says s
unfolding form_at open_form body_form words.text bytes
keyworded {text} {k} row ls rest body a l p e h chosen formed =
    let t = meta_back text k row a refl h in
    let w : Worded text t.end ls rest = worded ls l p e t.rest in
    declares (plain meta k row 0 0) (rw (t.inside, w.marked, w.keyword) (chosen w.at w.end w.letters)) (formed w.end w.rest)

-- `{` behind ` = ` opens a set
pub set_opened : {text : List ℕ} {k : ℕ} {says : Decl → Type 0} {s : List ℕ} (row : ℕ) (rest : List ℕ) → row ≤ 65535 → Stands text k (33 ∷ words.number row (words.text " = " (123 ∷ rest)))
    → ((e : ℕ) → Stands text e rest → Formed text (plain meta k row 0 0) says s (set_form text (plain meta k row 0 0) e)) → Declares text k row says s
unfolding form_at open_form body_form meta_form words.text bytes class_of class_from
set_opened {text} {k} row rest a h formed =
    let t = meta_back text k row a refl h in
    let m = equals_behind text t.end t.rest in
    let b = spaced_mark text m.end m.after.rest (mark_back text (m.end + 1) 123 refl (behind_space text m.end m.after.rest).rest) in
    declares (plain meta k row 0 0) (rw (t.inside, m.outside, b.outside)) (formed b.end b.after)
