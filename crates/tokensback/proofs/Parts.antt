-- The parts of an identifier back: `+`, `:` and `*` with a number behind them, or none.
use Prim.Native.Nat.{ℕ, ◌+◌, ◌≤◌}
use mathlib.Core.Path.{◌≡◌}
use mathlib.Core.Bool.{Bool, true, false}
use mathlib.Core.List.{List, ◌∷◌}
use native.Mathlib.Omega.{arith}
use lib.Dec.{eqb}
use lib.ListN.{drop, get_or, length}
use borrow.Author.Tests.{eq-eqb, ne_eqb}
use Rattle.signs.specs.Bytes.{is_digit}
use Rattle.signs.specs.Pieces.{suffix_at, quoted_at}
use Rattle.lexis.specs.Tokens.{took, token, io, io_of}
use Rattle.writing.specs.Words.{number}
use Rattle.tokensback.proofs.Standing.{ends}
use Rattle.tokensback.proofs.Places.{first_left, byte_here, past_byte}
use Rattle.tokensback.proofs.Spans.{Fails, end_fails}
use Rattle.tokensback.proofs.Numbers.{index_back}
use Rattle.tokensback.proofs.Strings.{Strung}

-- a part that is given or not, its value, and what is left behind it
pub record Parted (text : List ℕ) (sign k : ℕ) (given : Bool) (value : ℕ) (s : List ℕ) : Type 0 where
  pub end : ℕ
  pub is : suffix_at text sign k ≡ record { given = given; broken = false; large = false; value = value; end = end }
  pub rest : drop end text ≡ s

module _ (text : List ℕ) (sign k : ℕ) {s : List ℕ} where
  -- where another byte stands no part is given
  pub unparted : eqb (get_or s 0 0) sign ≡ false → drop k text ≡ s → Parted text sign k false 0 s
  unfolding suffix_at
  unparted e h =
      let c : eqb (get_or text k 0) sign ≡ false = rw (first_left text k, h) e in
      record { end = k; is = rw c; rest = h }

  -- nor where a number, a word or a constant ends
  pub ended : Fails (λ b. eqb b sign) → ends s ≡ true → drop k text ≡ s → Parted text sign k false 0 s
  ended f e h = unparted (end_fails (λ b. eqb b sign) s f e) h

  -- a part with its number
  pub parted : (n : ℕ) → n ≤ 65535 → is_digit (get_or s 0 0) ≡ false → drop k text ≡ sign ∷ number n s → Parted text sign k true n s
  unfolding suffix_at
  parted n l d h =
      let i = index_back text (k + 1) n s l d (past_byte text k h) in
      record {
        end = i.end;
        is = rw (eq-eqb (get_or text k 0) sign (byte_here text k sign h), i.is, ne_eqb i.end (k + 1) (λ z. let m = i.far in omega arith));
        rest = i.rest;
      }

-- the name and width of an input or output
pub io_long :
    {text bs r s s' : List ℕ} {w : ℕ} (k : ℕ) → get_or text (k + 1) 0 ≡ 34 → (t : Strung text (k + 2) bs r) → Parted text 43 t.end false 0 s'
    → (q : Parted text 58 t.end true w s) → io_of text k ≡ took (token io k 0 (k + 2) (length bs) 2 0 w 0) q.end
unfolding io_of quoted_at
io_long k e t p q = rw (e, t.is, p.is, q.is)
