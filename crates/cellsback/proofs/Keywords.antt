-- Keywords back: each printed keyword names its kind; and the reference that may stand at a line's end.
use Rattle.std.specs.Prelude.{Ok}
use mathlib.Core.Path.{◌≡◌, refl, sym, ◌∙◌}
use mathlib.Core.Bool.{Bool, true, false, ◌&&◌}
use mathlib.Core.List.{List, [], ◌∷◌}
use Prim.Native.Nat.{ℕ, ◌+◌, ◌-◌, ◌≤◌}
use native.Mathlib.Omega.{arith}
use lib.Dec.{eqb, leb}
use lib.ListN.{drop, length, get_or}
use borrow.Author.Tests.{eqb-true, eqb-false, ne_eqb, leb-true, le-leb}
use Rattle.ground.specs.Choice.{pick}
use Rattle.ground.specs.Lists.{every}
use Rattle.ground.specs.Text.{bytes, same}
use Rattle.ground.specs.Refusals.{at}
use Rattle.ground.proofs.Bools.{bool_cases, and_true, every_at}
use Rattle.ground.proofs.Tables.{table_rule}
use Rattle.kinds.specs.Kinds.{keywords, kind_at, is_kind}
use Rattle.signs.specs.Bytes.{class_from, class_of, is_letter, is_special}
use Rattle.lexis.specs.Tokens.{token, plain, meta, cell}
use Rattle.lexis.specs.declared.Token.{Token}
use Rattle.brackets.specs.Words.{numbered}
use Rattle.brackets.specs.Parts.{ref, no_ref}
use Rattle.form.specs.Forms.{meta_if, wiring_form, named_form, cell_form, body_form, open_form, form_at}
use Rattle.brackets.specs.declared.Ref.{Ref}
use Rattle.netlist.specs.Rules.{any_kind}
use Rattle.saying.specs.Values.{ref_row}
use Rattle.saying.specs.Rules.{Sofar, misnamed}
use Rattle.writing.specs.Words as words
use Rattle.writing.specs.Words.{number, reference, option}
use Rattle.celllines.specs.CellLines.{declared}
use Rattle.fronts.specs.Fronts.{Rowed}
use Rattle.tokensback.proofs.Standing.{Stands, ends}
use Rattle.tokensback.proofs.Tokens.{behind_space, spaced, spaced_mark, mark_back, feed_back, meta_back, declared_back, word_back, word_letters}

-- letters that have the kind's number in the table of keywords
abbrev word_of : ℕ → List ℕ
word_of n = bytes (kind_at n).word

abbrev named : ℕ → Bool
named n = leb 1 (length (word_of n)) && (every is_letter (word_of n) && eqb (numbered keywords (word_of n) 1) n)

abbrev kind_numbers : List ℕ
kind_numbers = 1 ∷ 2 ∷ 3 ∷ 4 ∷ 5 ∷ 6 ∷ 7 ∷ 8 ∷ 9 ∷ 10 ∷ 11 ∷ 12 ∷ []

-- the test passes of each line of the table
table : every named kind_numbers ≡ true
unfolding every numbered kind_at bytes same class_of class_from
table = refl

-- what a kind's keyword is
pub record Keyword (n : ℕ) : Type 0 where
  pub long : 1 ≤ length (bytes (kind_at n).word)
  pub letters : every is_letter (bytes (kind_at n).word) ≡ true
  pub number : numbered keywords (bytes (kind_at n).word) 1 ≡ n

-- .. of each kind
pub keyword : (n : ℕ) → is_kind n ≡ true → Keyword n
keyword n h =
    let b = and_true (leb 1 n) (leb n 12) h in
    let low = leb-true 1 n b.0 in
    let high = leb-true n 12 b.1 in
    let m : n - 1 + 1 ≡ n = omega arith in
    let r : get_or kind_numbers (n - 1) 0 ≡ n = table_rule (λ (k : ℕ). k + 1) kind_numbers tt (n - 1) (omega arith) ∙ m in
    let p : named n ≡ true = rw r at (every_at named kind_numbers 0 table (n - 1) (omega arith)) in
    let q = and_true (leb 1 (length (word_of n))) _ p in
    let s = and_true (every is_letter (word_of n)) _ q.1 in
    record { long = leb-true _ _ q.0; letters = s.0; number = eqb-true _ _ s.1 }

equals_mark : is_special 61 ≡ true
unfolding class_of class_from
equals_mark = refl

-- `%n:w` at the place k
abbrev pub opening : ℕ → ℕ → ℕ → Token
opening k n w = token cell k n 0 0 2 0 w 0

-- the line of a cell up to its keyword
pub record Opened (text : List ℕ) (k n w kind : ℕ) (s : List ℕ) : Type 0 where
  pub end : ℕ
  pub form : form_at text k
      ≡ pick (kind_at kind).named (named_form text (opening k n w) kind end) (wiring_form text (opening k n w) kind (record { from = 0; size = 0 }) end)
  pub rest : drop end text ≡ s

-- .. and what is read of it
pub opened : {text : List ℕ} {k : ℕ} {s : List ℕ} (n w kind : ℕ) → n ≤ 65535 → w ≤ 65535 → is_kind kind ≡ true → ends s ≡ true
    → Stands text k (declared n w (kind_at kind).word s) → Opened text k n w kind s
unfolding form_at open_form body_form cell_form words.text bytes
opened {text} {k} {s} n w kind a b i e h =
    let f = keyword kind i in
    let d = declared_back text k n w a b refl h in
    let m = spaced_mark text d.end d.rest (mark_back text (d.end + 1) 61 equals_mark (behind_space text d.end d.rest).rest) in
    let o = behind_space text m.end m.after.rest in
    let v = spaced text m.end m.after.rest (word_back text (m.end + 1) (bytes (kind_at kind).word) f.long f.letters e o) in
    let l = word_letters text (m.end + 1) (bytes (kind_at kind).word) s o.rest in
    let z : eqb kind 0 ≡ false = ne_eqb kind 0 (λ o. let l = leb-true 1 kind (and_true (leb 1 kind) (leb kind 12) i).0 in omega arith) in
    record { end = v.end; form = rw (d.inside, m.outside, v.outside, l, f.number, z); rest = v.rest }

-- the reference at the end of a line, or the line's end
pub record TakesMeta (text : List ℕ) (k m : ℕ) (s : List ℕ) : Type 0 where
  pub ref : Ref
  pub end : ℕ
  pub taken : meta_if text k ≡ Ok (ref, record { next = at end })
  pub row : (so : Sofar) (kinds : List ℕ) → Rowed so kinds → m ≤ length kinds → ref_row so.meta_numbers ref ≡ m
  pub named : (so : Sofar) (kinds : List ℕ) → Rowed so kinds → m ≤ length kinds → misnamed so (record { ref = ref; allowed = any_kind }) ≡ false
  pub rest : drop end text ≡ 10 ∷ s

-- a printed reference, or none, read again
pub meta_if_lem : (text : List ℕ) (k : ℕ) {s : List ℕ} (m : ℕ) → m ≤ 65536 → drop k text ≡ option (32 ∷ []) m (10 ∷ s) → TakesMeta text k m s
unfolding option reference meta_if
meta_if_lem text k {s} m l h = bool_cases (eqb m 0)
    (λ z.
    let h' : drop k text ≡ 10 ∷ s = rw z at h in
    let n : 0 ≡ m = sym (eqb-true m 0 z) in
    let f = feed_back text k h' in
    record { ref = no_ref; end = k; taken = rw f.outside; row = λ so kinds r b. n; named = λ so kinds r b. refl; rest = h' })
    (λ z.
    let h' : drop k text ≡ 32 ∷ 33 ∷ number (m - 1) (10 ∷ s) = rw z at h in
    let p = spaced text k h' (meta_back text (k + 1) (m - 1) (omega arith) refl (behind_space text k h')) in
    let n : 1 ≤ m = (let o = eqb-false m 0 z in omega arith) in
    record {
      ref = ref (plain meta (k + 1) (m - 1) 0 0);
      end = p.end;
      taken = rw p.outside;
      row = λ so kinds r b. r.rows m n b;
      named = λ so kinds r b. rw (r.same, r.rows m n b, le-leb 1 m n, le-leb m (length kinds) b);
      rest = p.rest;
    })
