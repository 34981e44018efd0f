-- Constants back: the characters of printed trits, and the trits that they mean.
use Rattle.lexis.specs.Took.{Took}
use Prim.Native.Nat.{ℕ, ◌+◌, ◌-◌}
use mathlib.Core.Path.{◌≡◌, refl, ap, ap₂}
use mathlib.Core.Bool.{Bool, true, false, ◌&&◌}
use mathlib.Core.List.{List, [], ◌∷◌, ◌++◌, map}
use native.Mathlib.Omega.{arith}
use lib.Dec.{T, eqb, eqb→eq}
use lib.ListN.{drop}
use borrow.Author.Tests.{ltb-true, lt-leb}
use Rattle.ground.specs.Lists.{every}
use Rattle.ground.specs.Regions.{zeros}
use Rattle.ground.proofs.Bools.{and_first, and_second, every_first, every_more}
use Rattle.ground.proofs.Tables.{at}
use Rattle.signs.specs.Bytes.{class_from, class_of, is_constant, is_letter, trit_of}
use Rattle.signs.specs.Pieces.{span_end}
use Rattle.lexis.specs.Tokens.{took, token, constant, constant_of, long_of}
use Rattle.signs.proofs.Bytes.{within_true}
use Rattle.netlist.specs.Rules.{is_trit}
use Rattle.writing.specs.Words.{trit_char, trits}
use Rattle.tokensback.proofs.Spans.{Fails}
use Rattle.tokensback.proofs.Strings.{told}
use Rattle.tokensback.proofs.Parts.{Parted}

-- the character of a trit is a constant's, and means the trit
abbrev trit_test : ℕ → Bool
trit_test t = is_constant (trit_char t) && eqb (trit_of (trit_char t)) t

trit_tested : (t : ℕ) → is_trit t ≡ true → T (trit_test t)
unfolding class_of class_from zeros
trit_tested t h = at (λ k x. trit_test k) (zeros 3) 0 tt t (ltb-true t 3 h)

-- the character is a constant's
pub char_constant : (t : ℕ) → is_trit t ≡ true → is_constant (trit_char t) ≡ true
char_constant t h = told _ (and_first (is_constant (trit_char t)) _ (trit_tested t h))

char_meant : (t : ℕ) → is_trit t ≡ true → trit_of (trit_char t) ≡ t
char_meant t h = eqb→eq _ _ (and_second (is_constant (trit_char t)) _ (trit_tested t h))

-- the same of the characters of all trits
pub chars_constant : (ts : List ℕ) → every is_trit ts ≡ true → every is_constant (map trit_char ts) ≡ true
unfolding every
chars_constant [] h = refl
chars_constant (t ∷ ts) h =
    let f = every_first is_trit t ts h in
    every_more is_constant (trit_char t) (map trit_char ts) (char_constant t f.0) (chars_constant ts f.1)

-- which mean the trits
pub chars_meant : (ts : List ℕ) → every is_trit ts ≡ true → map trit_of (map trit_char ts) ≡ ts
chars_meant [] h = refl
chars_meant (t ∷ ts) h =
    let f = every_first is_trit t ts h in
    ap₂ (λ x l. x ∷ l) (char_meant t f.0) (chars_meant ts f.1)

-- a constant is the characters of its trits
pub trits_chars : (ts s : List ℕ) → trits ts s ≡ map trit_char ts ++ s
unfolding trits
trits_chars [] s = refl
trits_chars (t ∷ ts) s = ap (λ (l : List ℕ). trit_char t ∷ l) (trits_chars ts s)

-- what ends a constant is none of its characters
pub constant_fails : Fails is_constant
unfolding class_of class_from
constant_fails = refl

-- the constant of n characters that b begins
pub constant_long :
    (text : List ℕ) (k b n : ℕ) {s : List ℕ} → is_constant b ≡ true → span_end is_constant (drop k text) k ≡ k + n → (c : Parted text 42 (k + n) false 0 s)
    → long_of text k b ≡ took (token constant k 0 k n 0 0 0 0) c.end
unfolding long_of constant_of
constant_long text k b n f e c =
    let r = within_true 5 6 (class_of b) f in
    let l : is_letter b ≡ false = rw (lt-leb 7 (class_of b) (omega arith)) in
    let d : k + n - k ≡ n = omega arith in
    rw (l, f, e, c.is, d)
