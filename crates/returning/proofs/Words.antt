-- Each printed token is plain.
use Prim.Native.Nat.{ℕ, ◌+◌, ◌-◌, ◌/◌, ◌%◌, ◌<◌, ◌≤◌}
use Prim.Native.String.{String}
use mathlib.Core.Path.{◌≡◌, refl}
use mathlib.Core.Bool.{true, not, ◌&&◌, ◌||◌}
use mathlib.Core.List.{List, [], ◌∷◌, ◌++◌}
use native.Mathlib.Omega.{arith}
use lib.Dec.{leb, ltb, eqb}
use borrow.Author.Tests.{leb-true, ltb-true}
use Rattle.ground.specs.Lists.{every}
use Rattle.ground.specs.Text.{bytes}
use Rattle.ground.proofs.Bools.{bool_cases, and_true, every_first}
use Rattle.netlist.specs.Rules.{is_byte, is_trit, is_number}
use Rattle.writing.specs.Decimal.{places, decimal, signed}
use Rattle.writing.specs.Words.{text, number, hash, raw_byte, hex_digit, escaped, quoted, trit_char, trits, reference, references, option}
use Rattle.tokensback.proofs.Numbers.{places_reach}
use Rattle.returning.proofs.Plain.{plain_byte, plain_small, Fine, fine_more, fine_front, digits_plain}

-- a literal, whose bytes are tried one by one
pub text_fine : {n : ℕ} (w : String) {s : List ℕ} → every plain_byte (bytes w) ≡ true → Fine n s → Fine n (text w s)
unfolding text
text_fine w p f = fine_front (bytes w) p f

decimal_fine : {m : ℕ} (n : ℕ) {s : List ℕ} → n < 10000000000 → Fine m s → Fine m (decimal n ++ s)
decimal_fine n l f = fine_front (decimal n) (digits_plain (places n) n (places_reach n l)) f

pub number_fine : {m : ℕ} (n : ℕ) {s : List ℕ} → n ≤ 65535 → Fine m s → Fine m (number n s)
unfolding number
number_fine n l f = decimal_fine n (omega arith) f

signed_fine : {m : ℕ} (n : ℕ) {s : List ℕ} → n < 4294967296 → Fine m s → Fine m (signed n ++ s)
unfolding signed
signed_fine n l f = bool_cases (leb 2147483648 n)
    (λ e. rw e (fine_more 45 refl (decimal_fine (4294967296 - n) (omega arith) f)))
    (λ e. rw e (decimal_fine n (omega arith) f))

pub hash_fine : {m : ℕ} (n : ℕ) {s : List ℕ} → is_number n ≡ true → Fine m s → Fine m (hash n s)
unfolding hash
hash_fine n p f = fine_more 35 refl (signed_fine n (ltb-true n 4294967296 p) f)

raw_plain : (b : ℕ) → raw_byte b ≡ true → plain_byte b ≡ true
raw_plain b p =
    let e = and_true (leb 0x20 b) (leb b 0x7e && not (eqb b 0x22 || eqb b 0x5c)) p in
    let l = leb-true 0x20 b e.0 in
    let m = leb-true b 0x7e (and_true (leb b 0x7e) (not (eqb b 0x22 || eqb b 0x5c)) e.1).0 in
    plain_small b (omega arith) (λ z. omega arith)

hex_plain : (d : ℕ) → d < 16 → plain_byte (hex_digit d) ≡ true
hex_plain d h = bool_cases (ltb d 10)
    (λ e. let l = ltb-true d 10 e in rw e (plain_small (48 + d) (omega arith) (λ z. omega arith)))
    (λ e. rw e (plain_small (87 + d) (omega arith) (λ z. omega arith)))

escaped_fine : {n : ℕ} (bs : List ℕ) {s : List ℕ} → every is_byte bs ≡ true → Fine n s → Fine n (escaped bs s)
unfolding escaped
escaped_fine [] p f = f
escaped_fine (b ∷ bs) p f =
    let e = every_first is_byte b bs p in
    let l = ltb-true b 256 e.0 in
    let g = escaped_fine bs e.1 f in
    bool_cases (raw_byte b)
    (λ r. rw (r, escaped) (fine_more b (raw_plain b r) g))
    (λ r. rw (r, escaped) (fine_more 92 refl (fine_more (hex_digit (b / 16)) (hex_plain (b / 16) (omega arith)) (fine_more (hex_digit (b % 16)) (hex_plain (b % 16) (omega arith)) g))))

pub quoted_fine : {n : ℕ} (bs : List ℕ) {s : List ℕ} → every is_byte bs ≡ true → Fine n s → Fine n (quoted bs s)
unfolding quoted
quoted_fine bs p f = fine_more 34 refl (escaped_fine bs p (fine_more 34 refl f))

trit_plain : (t : ℕ) → is_trit t ≡ true → plain_byte (trit_char t) ≡ true
trit_plain t p =
    let l = ltb-true t 3 p in
    bool_cases (eqb t 2) (λ e. rw e) (λ e. rw e (plain_small (48 + t) (omega arith) (λ z. omega arith)))

pub trits_fine : {n : ℕ} (ts : List ℕ) {s : List ℕ} → every is_trit ts ≡ true → Fine n s → Fine n (trits ts s)
unfolding trits
trits_fine [] p f = f
trits_fine (t ∷ ts) p f = let e = every_first is_trit t ts p in fine_more (trit_char t) (trit_plain t e.0) (trits_fine ts e.1 f)

pub reference_fine : {n : ℕ} (r : ℕ) {s : List ℕ} → r ≤ 65535 → Fine n s → Fine n (reference r s)
unfolding reference
reference_fine r l f = fine_more 33 refl (number_fine (r - 1) (omega arith) f)

pub references_fine : {n : ℕ} (rs : List ℕ) {s : List ℕ} → every (λ r. leb r 65535) rs ≡ true → Fine n s → Fine n (references rs s)
unfolding references
references_fine [] p f = f
references_fine (r ∷ []) p f = reference_fine r (leb-true r 65535 (every_first (λ r. leb r 65535) r [] p).0) f
references_fine (r ∷ q ∷ rs) p f =
    let e = every_first (λ r. leb r 65535) r (q ∷ rs) p in
    reference_fine r (leb-true r 65535 e.0) (fine_more 32 refl (references_fine (q ∷ rs) e.1 f))

pub option_fine : {n : ℕ} (w : List ℕ) (r : ℕ) {s : List ℕ} → every plain_byte w ≡ true → r ≤ 65535 → Fine n s → Fine n (option w r s)
unfolding option
option_fine w r p l f = bool_cases (eqb r 0) (λ e. rw e f) (λ e. rw e (fine_front w p (reference_fine r l f)))
