-- Strings and source points of a printed line, each behind a space.
use Rattle.std.specs.Prelude.{Ok}
use Prim.Native.Nat.{ℕ, ◌+◌, ◌<◌}
use mathlib.Core.Path.{◌≡◌, refl}
use mathlib.Core.Bool.{true}
use mathlib.Core.List.{List, ◌∷◌}
use lib.ListN.{drop, length}
use Rattle.ground.specs.Lists.{every}
use Rattle.ground.specs.Refusals.{at}
use Rattle.signs.specs.Bytes.{class_of, class_from}
use Rattle.signs.specs.Pieces.{decoded}
use Rattle.lexis.specs.Tokens.{plain, string, number}
use Rattle.form.specs.Forms.{point_at}
use Rattle.netlist.specs.Rules.{is_byte}
use Rattle.writing.specs.Words as words
use Rattle.lines.specs.Lines.{point}
use Rattle.tokensback.proofs.Standing.{Takes, ends}
use Rattle.tokensback.proofs.Tokens.{behind_space, spaced, spaced_mark, mark_back, hash_back, string_back, string_decoded}

-- a point `(#l #c)` at the place k
pub record Points (text : List ℕ) (k line column : ℕ) (s : List ℕ) : Type 0 where
  pub end : ℕ
  pub is : point_at text k ≡ Ok (record { line = line; column = column }, record { next = at end })
  pub rest : drop end text ≡ s

module _ (text : List ℕ) (k : ℕ) where
  -- a string
  pub string_behind : {s : List ℕ} (bs : List ℕ) → every is_byte bs ≡ true → drop k text ≡ 32 ∷ words.quoted bs s → Takes text k (plain string (k + 1) 0 (k + 1 + 1) (length bs)) s
  string_behind bs p h = spaced text k h (string_back text (k + 1) bs p (behind_space text k h))

  -- the bytes that it means
  pub meant_behind : (bs s : List ℕ) → every is_byte bs ≡ true → drop k text ≡ 32 ∷ words.quoted bs s → decoded text (k + 1 + 1) ≡ bs
  meant_behind bs s p h = string_decoded text (k + 1) bs s p (behind_space text k h).rest

  -- a `#` number
  pub hash_behind : {s : List ℕ} (n : ℕ) → n < 4294967296 → ends s ≡ true → drop k text ≡ 32 ∷ words.hash n s → Takes text k (plain number (k + 1) n 0 0) s
  hash_behind n l e h = spaced text k h (hash_back text (k + 1) n l e (behind_space text k h))

-- a point
pub point_behind : (text : List ℕ) (k line column : ℕ) (s : List ℕ) → line < 4294967296 → column < 4294967296 → drop k text ≡ 32 ∷ point line column s → Points text k line column s
unfolding point point_at class_of class_from
point_behind text k line column s l c h =
    let o = spaced_mark text k h (mark_back text (k + 1) 40 refl (behind_space text k h).rest) in
    let a = hash_back text o.end line l refl o.after in
    let b = hash_behind text a.end column c refl a.rest in
    let e = mark_back text b.end 41 refl b.rest in
    record { end = e.end; is = rw (o.outside, a.inside, b.inside, e.inside); rest = e.after.rest }
