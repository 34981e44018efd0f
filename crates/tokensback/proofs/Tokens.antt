-- THE TOKENS BACK: each printed token, where reading stands before it, is taken as what was printed.
use Prim.Native.Nat.{ℕ, suc, ◌+◌, ◌-◌, ◌≤◌, ◌<◌}
use mathlib.Core.Path.{◌≡◌, refl, ap, ◌∙◌}
use mathlib.Core.Bool.{Bool, true, false, not}
use mathlib.Core.List.{List, [], ◌∷◌, ◌++◌, map}
use native.Mathlib.Omega.{arith}
use lib.Dec.{eqb, leb}
use lib.ListN.{drop, take, length, length-map}
use lib.Seq.{take-append_seam}
use borrow.Author.Tests.{eqb-true, leb-true, leb-false}
use Rattle.ground.specs.Lists.{every}
use Rattle.ground.specs.Regions.{part}
use Rattle.ground.proofs.Bools.{bool_cases, every_first}
use Rattle.ground.proofs.Regions.{part_front, part_next}
use Rattle.signs.specs.Bytes.{class_from, class_of, is_special, is_constant, is_letter, trit_of}
use Rattle.signs.specs.Pieces.{span_end, inside_end, bytes_in, decoded, quoted_at}
use Rattle.lexis.specs.Tokens.{meta_of, long_of, token_from, inside_at, took, plain, token, written, line_end, text_end, mark, word, constant, number, meta, io, cell, string}
use Rattle.lexis.specs.declared.Token.{Token}
use Rattle.signs.proofs.Bytes.{within_true}
use Rattle.netlist.specs.Rules.{is_byte, is_trit}
use Rattle.writing.specs.Decimal.{decimal, signed}
use Rattle.writing.specs.Words as words
use Rattle.writing.specs.Words.{trit_char}
use Rattle.operands.specs.Operands as operands
use Rattle.tokensback.proofs.Standing.{Stands, Takes, Marks, Feeds, ends}
use Rattle.tokensback.proofs.Places.{byte_here, past_byte, past_two, stands_behind, space_passed, outside_here, inside_here, begun, mark_from}
use Rattle.tokensback.proofs.Spans.{span_here, letter_fails, word_long}
use Rattle.tokensback.proofs.Numbers.{numeral_back, index_back, digits_end, single_took, positive_long, negative_long}
use Rattle.tokensback.proofs.Strings.{string_read}
use Rattle.tokensback.proofs.Parts.{unparted, ended, parted, io_long}
use Rattle.tokensback.proofs.Constants.{char_constant, chars_constant, chars_meant, trits_chars, constant_fails, constant_long}
use Rattle.tokensback.proofs.Cells.{unopened_number, width_parted, width_meant, offset_first, offset_parted, offset_unopened, cell_long}

module _ (text : List ℕ) (k : ℕ) where
  -- behind a space a token may begin
  pub behind_space : {s : List ℕ} → drop k text ≡ 32 ∷ s → Stands text (k + 1) s
  unfolding class_of class_from
  behind_space h = stands_behind text k 32 h refl

  -- a space before a token is passed over
  pub spaced : {t : Token} {s s' : List ℕ} → drop k text ≡ 32 ∷ s' → Takes text (k + 1) t s → Takes text k t s
  spaced h p =
      let e = space_passed text k h in
      record { end = p.end; outside = e.0 ∙ p.outside; inside = e.1 ∙ p.inside; rest = p.rest }

  -- the same before a mark
  pub spaced_mark : {t : Token} {s s' : List ℕ} → drop k text ≡ 32 ∷ s' → Marks text (k + 1) t s → Marks text k t s
  spaced_mark h p =
      let e = space_passed text k h in
      record { end = p.end; outside = e.0 ∙ p.outside; inside = e.1 ∙ p.inside; after = p.after }

  -- one of the eight special characters
  pub mark_back : {s : List ℕ} (b : ℕ) → is_special b ≡ true → drop k text ≡ b ∷ s → Marks text k (plain mark k b 0 0) s
  mark_back {s} b p h =
      let c : class_of b ≡ 15 = eqb-true (class_of b) 15 p in
      record {
        end = k + 1;
        outside = outside_here text k b h (rw c) ∙ mark_from text k b s p;
        inside = inside_here text k b h (rw c) (rw c) ∙ mark_from text k b s p;
        after = stands_behind text k b h (rw c);
      }

  -- the end of a line
  pub feed_back : {s : List ℕ} → drop k text ≡ 10 ∷ s → Feeds text k (plain line_end k 0 0 0) s
  unfolding token_from class_of class_from
  feed_back h = record { end = k + 1; outside = outside_here text k 10 h refl; after = stands_behind text k 10 h refl }

  -- nothing is left
  pub end_back : drop k text ≡ [] → inside_at text k ≡ took (plain text_end k 0 0 0) k
  unfolding inside_at inside_end token_from
  end_back h = rw (h, h)

  -- `!` and a number
  pub meta_back : {s : List ℕ} (n : ℕ) → n ≤ 65535 → ends s ≡ true → Stands text k (33 ∷ words.number n s) → Takes text k (plain meta k n 0 0) s
  unfolding long_of meta_of class_of class_from
  meta_back {s} n l e h =
      let i = index_back text (k + 1) n s l (digits_end s e) (past_byte text k h.rest) in
      begun text k 33 h (omega arith) (omega arith) i.end (single_took meta k (k + 1) (λ v. v) i) i.rest

  -- `#` and a number with its sign
  pub hash_back : {s : List ℕ} (n : ℕ) → n < 4294967296 → ends s ≡ true → Stands text k (words.hash n s) → Takes text k (plain number k n 0 0) s
  unfolding words.hash signed long_of class_of class_from
  hash_back {s} n l e h = bool_cases (leb 2147483648 n)
      (λ p.
      let g = leb-true 2147483648 n p in
      let r : drop k text ≡ 35 ∷ 45 ∷ (decimal (4294967296 - n) ++ s) = rw p at h.rest in
      let i = numeral_back 2147483648 text (k + 2) (4294967296 - n) s (omega arith) (omega arith) (digits_end s e) (past_two text k r) in
      let v : 4294967296 - (4294967296 - n) ≡ n = omega arith in
      begun text k 35 h (omega arith) (omega arith) i.end (negative_long text k (4294967296 - n) s (omega arith) (byte_here text (k + 1) 45 (past_byte text k r)) i ∙ rw v) i.rest)
      (λ p.
      let g = leb-false 2147483648 n p in
      let r : drop (k + 1) text ≡ decimal n ++ s = rw p at (past_byte text k h.rest) in
      let i = numeral_back 2147483647 text (k + 1) n s (omega arith) (omega arith) (digits_end s e) r in
      begun text k 35 h (omega arith) (omega arith) i.end (positive_long text k n s i) i.rest)

  -- a string, by its size
  pub string_back : {s : List ℕ} (bs : List ℕ) → every is_byte bs ≡ true → Stands text k (words.quoted bs s) → Takes text k (plain string k 0 (k + 1) (length bs)) s
  unfolding words.quoted long_of quoted_at class_of class_from
  string_back {s} bs p h =
      let r = string_read text (k + 1) bs s p (past_byte text k h.rest) in
      begun text k 34 h (omega arith) (omega arith) r.end (rw r.is) r.rest

  -- and by its bytes
  pub string_decoded : (bs s : List ℕ) → every is_byte bs ≡ true → drop k text ≡ words.quoted bs s → decoded text (k + 1) ≡ bs
  unfolding words.quoted
  string_decoded bs s p h = ap bytes_in (string_read text (k + 1) bs s p (past_byte text k h)).is

  -- the declaration of an input or output: `&"name":w`
  pub io_back : {s : List ℕ} (bs : List ℕ) (w : ℕ) → every is_byte bs ≡ true → w ≤ 65535 → ends s ≡ true
      → Stands text k (38 ∷ words.quoted bs (58 ∷ words.number w s)) → Takes text k (token io k 0 (k + 2) (length bs) 2 0 w 0) s
  unfolding words.quoted long_of class_of class_from
  io_back {s} bs w p l e h =
      let t = string_read text (k + 2) bs (58 ∷ words.number w s) p (past_two text k h.rest) in
      let o = unparted text 43 t.end refl t.rest in
      let q = parted text 58 t.end w l (digits_end s e) t.rest in
      begun text k 38 h (omega arith) (omega arith) q.end (io_long k (byte_here text (k + 1) 34 (past_byte text k h.rest)) t o q) q.rest

  -- a constant, by its characters
  pub constant_back : {s : List ℕ} (ts : List ℕ) → 1 ≤ length ts → every is_trit ts ≡ true → ends s ≡ true
      → Stands text k (words.trits ts s) → Takes text k (token constant k 0 k (length ts) 0 0 0 0) s
  unfolding words.trits
  constant_back [] l p e h = absurd (omega arith)
  constant_back {s} (t ∷ ts) l p e h =
      let n = suc (length ts) in
      let c = char_constant t (every_first is_trit t ts p).0 in
      let r = within_true 5 6 (class_of (trit_char t)) c in
      let m : length (map trit_char (t ∷ ts)) ≡ n = length-map (t ∷ ts) trit_char in
      let d = h.rest ∙ trits_chars (t ∷ ts) s in
      let g : span_end is_constant (drop k text) k ≡ k + n = rw m at (span_here is_constant text k (map trit_char (t ∷ ts)) s constant_fails (chars_constant (t ∷ ts) p) e d) in
      let q : drop (k + n) text ≡ s = rw m at (part_next text k (map trit_char (t ∷ ts)) s d) in
      let a = ended text 42 (k + n) refl e q in
      begun text k (trit_char t) h (omega arith) (omega arith) a.end (constant_long text k (trit_char t) n c g a) a.rest

  -- and by its trits
  pub constant_meant : (ts s : List ℕ) → every is_trit ts ≡ true → drop k text ≡ words.trits ts s → map trit_of (part k (length ts) text) ≡ ts
  constant_meant ts s p h =
      let m : length (map trit_char ts) ≡ length ts = length-map ts trit_char in
      let d : part k (length ts) text ≡ map trit_char ts = rw m at (part_front text k (map trit_char ts) s (h ∙ trits_chars ts s)) in
      rw d (chars_meant ts p)

  -- a cell's declaration: `%n:w`
  pub declared_back : {s : List ℕ} (n w : ℕ) → n ≤ 65535 → w ≤ 65535 → ends s ≡ true
      → Stands text k (37 ∷ words.number n (58 ∷ words.number w s)) → Takes text k (token cell k n 0 0 2 0 w 0) s
  unfolding long_of class_of class_from
  declared_back {s} n w l m e h =
      let i = index_back text (k + 1) n (58 ∷ words.number w s) l refl (past_byte text k h.rest) in
      let p = unparted text 43 i.end refl i.rest in
      let q = parted text 58 p.end w m (digits_end s e) p.rest in
      let c = ended text 42 q.end refl e q.rest in
      begun text k 37 h (omega arith) (omega arith) c.end (cell_long k i p q c (unopened_number text i.end s w m (digits_end s e) i.rest)) c.rest

  -- a piece: `+o` unless it is whole, `:w` unless it is 1 wide
  pub piece_back : {s : List ℕ} (n o w : ℕ) (whole : Bool) → (whole ≡ true → o ≡ 0) → n ≤ 65535 → o ≤ 65535 → w ≤ 65535 → ends s ≡ true
      → Stands text k (37 ∷ words.number n (operands.offset whole o (operands.width w s)))
      → Takes text k (token cell k n 0 0 (written (not whole) (not (eqb w 1)) false) o w 0) s
  unfolding long_of class_of class_from
  piece_back {s} n o w whole z a b c e h =
      let i = index_back text (k + 1) n _ a (offset_first whole o w s e) (past_byte text k h.rest) in
      let p = offset_parted whole o w s e text i.end i.rest z b in
      let q = width_parted w s e text p.end c p.rest in
      let r = ended text 42 q.end refl e q.rest in
      begun text k 37 h (omega arith) (omega arith) r.end
      (cell_long k i p q r (offset_unopened whole o w s e text i.end i.rest c) ∙ rw (width_meant w)) r.rest

  -- a word of letters
  pub word_back : {s : List ℕ} (ls : List ℕ) → 1 ≤ length ls → every is_letter ls ≡ true → ends s ≡ true
      → Stands text k (ls ++ s) → Takes text k (plain word k 0 k (length ls)) s
  word_back [] l p e h = absurd (omega arith)
  word_back {s} (b ∷ ls) l p e h =
      let f = every_first is_letter b ls p in
      let c = within_true 7 8 (class_of b) f.0 in
      let d = span_here is_letter text k (b ∷ ls) s letter_fails p e h.rest in
      begun text k b h (omega arith) (omega arith) (k + suc (length ls)) (word_long text k b (suc (length ls)) f.0 d)
      (part_next text k (b ∷ ls) s h.rest)

  -- its letters
  pub word_letters : (ls s : List ℕ) → drop k text ≡ ls ++ s → take (length ls) (drop k text) ≡ ls
  word_letters ls s h = rw (h, take-append_seam)
