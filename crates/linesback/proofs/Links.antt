-- References in a printed line: `=!m` behind a word, an option present or left out, and the rows that references name again.
use Rattle.std.specs.Prelude.{Ok}
use Prim.Native.Nat.{ℕ, ◌+◌, ◌-◌, ◌≤◌}
use mathlib.Core.Path.{◌≡◌, refl, sym}
use mathlib.Core.Bool.{Bool, true, false, not, ◌&&◌}
use mathlib.Core.List.{List, [], ◌∷◌, ◌++◌}
use native.Mathlib.Omega.{arith}
use lib.Dec.{leb, eqb}
use lib.ListN.{drop, length, get_or}
use borrow.Author.Tests.{eqb-true, ne_eqb, leb-true}
use Rattle.ground.specs.Lists.{every}
use Rattle.ground.specs.Refusals.{at}
use Rattle.ground.specs.Text.{bytes, same}
use Rattle.ground.proofs.Bools.{bool_cases, and_true}
use Rattle.signs.specs.Bytes.{class_of, class_from, is_letter}
use Rattle.lexis.specs.Tokens.{token_at, took, plain, line_end, word, meta}
use Rattle.lexis.specs.declared.Token.{Token}
use Rattle.brackets.specs.Words.{is_spelled}
use Rattle.brackets.specs.Parts.{ref, no_ref}
use Rattle.form.specs.Forms.{link_at, option_at}
use Rattle.brackets.specs.declared.Ref.{Ref}
use Rattle.netlist.specs.Rules.{refers, may_refer}
use Rattle.saying.specs.Values.{ref_row, row_of}
use Rattle.saying.specs.Rules.{Sofar, misnamed}
use Rattle.writing.specs.Words as words
use Rattle.fronts.specs.Fronts.{Rowed}
use Rattle.tokensback.proofs.Standing.{ends}
use Rattle.tokensback.proofs.Tokens.{behind_space, mark_back, feed_back, meta_back, word_letters}
use Rattle.linesback.proofs.Heads.{word_behind}

-- the reference f names the row r, given plus one; 0 is none
pub record RefTo (r : ℕ) (f : Ref) : Type 0 where
  pub given : f.given ≡ not (eqb r 0)
  pub index : f.index ≡ r - 1

-- a row that may be named is one of those before
pub refers_row : (p : ℕ → Bool) (kinds : List ℕ) (r : ℕ) → refers p kinds r ≡ true → (1 ≤ r) × (r ≤ length kinds)
refers_row p kinds r h =
    let a = and_true (leb 1 r) (leb r (length kinds) && p (get_or kinds (r - 1) 0)) h in
    (leb-true 1 r a.0, leb-true r (length kinds) (and_true (leb r (length kinds)) (p (get_or kinds (r - 1) 0)) a.1).0)

may_refer_lem : (p : ℕ → Bool) (kinds : List ℕ) (r : ℕ) → may_refer p kinds r ≡ true → eqb r 0 ≡ false → refers p kinds r ≡ true
may_refer_lem p kinds r h e = rw e at h

-- its printed index fits
pub row_small : (p : ℕ → Bool) (kinds : List ℕ) (r : ℕ) → may_refer p kinds r ≡ true → length kinds ≤ 65535 → r - 1 ≤ 65535
row_small p kinds r h l = bool_cases (eqb r 0)
    (λ e. let z = eqb-true r 0 e in omega arith)
    (λ e. let b = refers_row p kinds r (may_refer_lem p kinds r h e) in omega arith)

-- a reference that is written
pub written_to : (f : Ref) (p : ℕ → Bool) (kinds : List ℕ) (r : ℕ) → refers p kinds r ≡ true → f.given ≡ true → f.index ≡ r - 1 → RefTo r f
written_to f p kinds r h g i = let b = refers_row p kinds r h in record { given = rw (g, ne_eqb r 0 (λ z. omega arith)); index = i }

-- what a reference says: the row, which it may name
pub ref_says : {so : Sofar} {kinds : List ℕ} {f : Ref} (p : ℕ → Bool) (r : ℕ) → Rowed so kinds → may_refer p kinds r ≡ true → RefTo r f
    → (ref_row so.meta_numbers f ≡ r) × (misnamed so (record { ref = f; allowed = p }) ≡ false)
ref_says {so} {kinds} {f} p r w h t = bool_cases (eqb r 0)
    (λ e. let z = eqb-true r 0 e in (rw (t.given, e) (sym z), rw (t.given, e)))
    (λ e.
    let q = may_refer_lem p kinds r h e in
    let b = refers_row p kinds r q in
    let row : row_of so.meta_numbers (r - 1) ≡ r = w.rows r b.0 b.1 in
    (rw (t.given, e, t.index) row, rw (t.given, e, t.index, row, w.same, q)))

-- `=!m` at the place k
pub record Links (text : List ℕ) (k r : ℕ) (s : List ℕ) : Type 0 where
  pub link : Ref
  pub end : ℕ
  pub is : link_at text k ≡ Ok (link, record { next = at end })
  pub given : link.given ≡ true
  pub index : link.index ≡ r - 1
  pub rest : drop end text ≡ s

-- `=` and a reference
pub link_back : {text : List ℕ} {k : ℕ} {s : List ℕ} (r : ℕ) → r - 1 ≤ 65535 → ends s ≡ true → drop k text ≡ 61 ∷ words.reference r s → Links text k r s
unfolding link_at words.reference class_of class_from
link_back {text} {k} r l e h =
    let m = mark_back text k 61 refl h in
    let t = meta_back text m.end (r - 1) l e m.after in
    record { link = ref (plain meta m.end (r - 1) 0 0); end = t.end; is = rw (m.outside, t.outside); given = refl; index = refl; rest = t.rest }

-- an option of the word ls at the place k: the row r, or 0 where it is left out
pub record Options (text ls : List ℕ) (k r : ℕ) (s : List ℕ) : Type 0 where
  pub link : Ref
  pub end : ℕ
  pub is : option_at text ls k ≡ Ok (link, record { next = at end })
  pub to : RefTo r link
  pub rest : drop end text ≡ s

-- its word, `=` and a reference
option_given : {text : List ℕ} {k : ℕ} {s : List ℕ} (ls : List ℕ) (r : ℕ) → 1 ≤ length ls → every is_letter ls ≡ true → same ls ls ≡ true → r - 1 ≤ 65535 → eqb r 0 ≡ false → ends s ≡ true
    → drop k text ≡ 32 ∷ (ls ++ (61 ∷ words.reference r s)) → Options text ls k r s
unfolding option_at
option_given {text} {k} {s} ls r l p q n z e h =
    let w = word_behind text k ls l p refl h in
    let f : Links text w.end r s = link_back r n e w.rest in
    let b = word_letters text (k + 1) ls (61 ∷ words.reference r s) (behind_space text k h).rest in
    record { link = f.link; end = f.end; is = rw (w.outside, b, q, f.is); to = record { given = rw (f.given, z); index = f.index }; rest = f.rest }

-- another token stands there
pub record Other (text ls : List ℕ) (k : ℕ) : Type 0 where
  pub token : Token
  pub end : ℕ
  pub is : token_at text k ≡ took token end
  pub unlike : is_spelled text ls token ≡ false

-- nothing of it
option_absent : {text ls : List ℕ} {k : ℕ} {s : List ℕ} → Other text ls k → drop k text ≡ s → Options text ls k 0 s
unfolding option_at
option_absent {k = k} o h = record { link = no_ref; end = k; is = rw (o.is, o.unlike); to = record { given = refl; index = refl }; rest = h }

-- THE OPTIONS OF A SCOPE, `in=` and then `src=`, to the end of the line
abbrev sourced : ℕ → List ℕ → List ℕ
sourced source s = words.option (words.text " src=" []) source (10 ∷ s)

sourced_end : (source : ℕ) (s : List ℕ) → ends (sourced source s) ≡ true
unfolding words.option words.text bytes
sourced_end source s = bool_cases (eqb source 0) (λ e. rw e) (λ e. rw e)

-- a number may end before them
pub options_end : (inside source : ℕ) (s : List ℕ) → ends (words.option (words.text " in=" []) inside (sourced source s)) ≡ true
unfolding words.option words.text bytes
options_end inside source s = bool_cases (eqb inside 0) (λ e. rw e (sourced_end source s)) (λ e. rw e)

module _ (text : List ℕ) (k source : ℕ) (s : List ℕ) (h : drop k text ≡ sourced source s) where
  -- `in` does not stand before `src` or the end of the line
  no_inside : Other text (bytes "in") k
  unfolding words.option words.text bytes same every class_of class_from
  no_inside = bool_cases (eqb source 0)
      (λ e. let f = feed_back text k (rw e at h) in record { token = plain line_end k 0 0 0; end = f.end; is = f.outside; unlike = refl })
      (λ e.
      let h' : drop k text ≡ 32 ∷ (bytes "src" ++ (61 ∷ words.reference source (10 ∷ s))) = rw e at h in
      let w = word_behind text k (bytes "src") (omega arith) refl refl h' in
      let b = word_letters text (k + 1) (bytes "src") (61 ∷ words.reference source (10 ∷ s)) (behind_space text k h').rest in
      record { token = plain word (k + 1) 0 (k + 1) 3; end = w.end; is = w.outside; unlike = rw b })

  -- `src=`
  pub source_back : source - 1 ≤ 65535 → Options text (bytes "src") k source (10 ∷ s)
  unfolding words.option words.text bytes same every class_of class_from
  source_back l = bool_cases (eqb source 0)
      (λ e.
      let h' : drop k text ≡ 10 ∷ s = rw e at h in
      let f = feed_back text k h' in
      rw (eqb-true source 0 e) (option_absent (record { token = plain line_end k 0 0 0; end = f.end; is = f.outside; unlike = refl }) h'))
      (λ e. option_given (bytes "src") source (omega arith) refl refl l e refl (rw e at h))

-- `in=`
pub inside_back : (text : List ℕ) (k inside source : ℕ) (s : List ℕ) → inside - 1 ≤ 65535 → drop k text ≡ words.option (words.text " in=" []) inside (sourced source s)
    → Options text (bytes "in") k inside (sourced source s)
unfolding words.option words.text bytes same every class_of class_from
inside_back text k inside source s l h = bool_cases (eqb inside 0)
    (λ e. let h' : drop k text ≡ sourced source s = rw e at h in rw (eqb-true inside 0 e) (option_absent (no_inside text k source s h') h'))
    (λ e. option_given (bytes "in") inside (omega arith) refl refl l e (sourced_end source s) (rw e at h))
