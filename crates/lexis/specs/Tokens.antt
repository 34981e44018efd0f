-- The tokens, as document 001's lexical structure has them, each with its place and the moved reader; refusals 5 and 6.
use Rattle.lexis.specs.Took.{Took}
use Rattle.std.specs.Prelude.{ℕ, zero, suc, ◌+◌, ◌-◌, Bool, true, false, not, ◌&&◌, ◌||◌, List, [], ◌∷◌, ltb, eqb, drop, get_or, Ok, Err, Option, Some, None}
use Rattle.ground.specs.Choice.{pick}
use Rattle.signs.specs.Bytes.{class_of, is_white, is_feed, is_constant, is_letter, is_special, within}
use Rattle.ground.specs.Refusals.{at, refusal}
use Rattle.signs.specs.Pieces.{span_end, comment_end, inside_end, numeral_at, part_limit, suffix_at, quoted_at}
use Rattle.signs.specs.declared.pieces.Numeral.{Numeral}
use Rattle.signs.specs.declared.pieces.Suffix.{Suffix}
use Rattle.lexis.specs.declared.Token.{Token}
use Rattle.lexis.specs.declared.Spot.{Spot}
use Rattle.lexis.specs.declared.Link.{Link}

-- THE SORTS OF TOKENS, and which fields count
abbrev pub line_end : ℕ
line_end = 0

-- the end of the text
abbrev pub text_end : ℕ
text_end = 1

-- a special character: value is the byte
abbrev pub mark : ℕ
mark = 2

-- from, size: the letters
abbrev pub word : ℕ
word = 3

-- from, size: the characters; parts, count
abbrev pub constant : ℕ
constant = 4

-- value: the number in 32 bits, a negative one as its two's complement
abbrev pub number : ℕ
number = 5

-- value: the index
abbrev pub meta : ℕ
meta = 6

-- from: where the name is written; size: how many bytes it means; parts, offset, width
abbrev pub io : ℕ
io = 7

-- value: the index; parts, offset, width, count
abbrev pub cell : ℕ
cell = 8

-- from: where the string is written; size: how many bytes it means
abbrev pub string : ℕ
string = 9

-- value: the index
abbrev pub placeholder : ℕ
placeholder = 10

-- `&_`; parts, width
abbrev pub floating : ℕ
floating = 11

-- which parts are written: 1 for `+`, 2 for `:`, 4 for `*`
abbrev pub written : Bool → Bool → Bool → ℕ
written o w c = pick o 1 0 + pick w 2 0 + pick c 4 0

abbrev pub token : ℕ → ℕ → ℕ → ℕ → ℕ → ℕ → ℕ → ℕ → ℕ → Token
token sort k value from size parts offset width count =
    record { sort = sort; place = at k; value = value; from = from; size = size; parts = parts; offset = offset; width = width; count = count }

abbrev pub took : Token → ℕ → Took Token
took t k = Ok (t, record { next = at k })

abbrev pub refused : ℕ → ℕ → Took Token
refused n k = Err (refusal n (at k))

-- a token without parts
abbrev pub plain : ℕ → ℕ → ℕ → ℕ → ℕ → Token
plain sort k value from size = token sort k value from size 0 0 0 0

-- the token at the place k, 5 where it is malformed, 6 where a number in it is too large
abbrev pub judged : Bool → Bool → ℕ → Took Token → Took Token
judged malformed large k s = pick malformed (refused 5 k) (pick large (refused 6 k) s)

-- a token that is one numeral, whose digits begin at `from`: the value means it, and the token ends at `end`
abbrev pub single : ℕ → ℕ → ℕ → Numeral → ℕ → ℕ → Took Token
single sort k from i value end = judged (eqb i.end from) i.large k (took (plain sort k value 0 0) end)

-- 001, Metadata identifiers: `!` and digits
unfoldable pub meta_of : List ℕ → ℕ → Took Token
meta_of text k = let i = numeral_at part_limit text (k + 1) in single meta k (k + 1) i i.value i.end

-- 001, Decimal numbers: `#`, an optional `-`, digits. Document 01, Text: "-2,147,483,648 to 2,147,483,647"
abbrev pub signed_of : Bool → ℕ → ℕ
signed_of minus n = pick (minus && ltb 0 n) (4294967296 - n) n

abbrev pub number_from : Bool → Numeral → ℕ → ℕ → Took Token
number_from minus i from k = single number k from i (signed_of minus i.value) i.end

unfoldable pub number_of : List ℕ → ℕ → Took Token
number_of text k =
    pick (eqb (get_or text (k + 1) 0) 45)
    (number_from true (numeral_at 2147483648 text (k + 2)) (k + 2) k)
    (number_from false (numeral_at 2147483647 text (k + 1)) (k + 1) k)

-- 001, Constants and Repetitions: trits, and `*` with a count behind them
abbrev pub constant_from : ℕ → ℕ → Suffix → Took Token
constant_from k e c =
    judged c.broken c.large k
    (took (token constant k 0 k (e - k) (written false false c.given) 0 0 c.value) c.end)

unfoldable pub constant_of : List ℕ → ℕ → Took Token
constant_of text k = let e = span_end is_constant (drop k text) k in constant_from k e (suffix_at text 42 e)

-- 001, Cell identifiers and Repetitions: `%i`, `%i:w`, `%i+o`, `%i+o:w`, each with a count; a bit is 1 wide where no width is written
abbrev pub cell_took : ℕ → Numeral → Suffix → Suffix → Suffix → Took Token
cell_took k i o w c =
    took (token cell k i.value 0 0 (written o.given w.given c.given) o.value (pick w.given w.value 1) c.value) c.end

abbrev pub cell_from : ℕ → Numeral → Suffix → Suffix → Suffix → Took Token
cell_from k i o w c =
    judged (eqb i.end (k + 1) || (o.broken || (w.broken || c.broken)))
    (i.large || (o.large || (w.large || c.large))) k
    (cell_took k i o w c)

abbrev pub placeholder_from : ℕ → Numeral → Took Token
placeholder_from k i = single placeholder k (k + 1) i i.value (i.end + 2)

-- `:_` at the place
abbrev pub opens_placeholder : List ℕ → ℕ → Bool
opens_placeholder text k = eqb (get_or text k 0) 58 && eqb (get_or text (k + 1) 0) 95

unfoldable pub cell_of : List ℕ → ℕ → Took Token
cell_of text k =
    let i = numeral_at part_limit text (k + 1) in
    let o = suffix_at text 43 i.end in
    let w = suffix_at text 58 o.end in
    let c = suffix_at text 42 w.end in
    pick (opens_placeholder text i.end) (placeholder_from k i) (cell_from k i o w c)

-- 001, I/O identifiers: `&"s"`, `&"s":w`, `&"s"+o`, `&_`, `&_:w`
abbrev pub io_from : ℕ → ℕ → Suffix → Suffix → Took Token
io_from k size o w =
    judged (o.broken || w.broken) (o.large || w.large) k
    (took (token io k 0 (k + 2) size (written o.given w.given false) o.value w.value 0) (pick o.given o.end w.end))

abbrev pub named_from : List ℕ → ℕ → Option (ℕ × ℕ) → Took Token
named_from text k (Some (n, e)) = io_from k n (suffix_at text 43 e) (suffix_at text 58 e)
named_from text k None = refused 5 k

abbrev pub floating_from : ℕ → Suffix → Took Token
floating_from k w =
    judged w.broken w.large k (took (token floating k 0 0 0 (written false w.given false) 0 w.value 0) w.end)

unfoldable pub io_of : List ℕ → ℕ → Took Token
io_of text k =
    pick (eqb (get_or text (k + 1) 0) 95) (floating_from k (suffix_at text 58 (k + 2)))
    (pick (eqb (get_or text (k + 1) 0) 34) (named_from text k (quoted_at text (k + 2)))
    (refused 5 k))

-- 001, Strings
abbrev pub string_step : ℕ → Option (ℕ × ℕ) → Took Token
string_step k (Some (n, e)) = took (plain string k 0 (k + 1) n) e
string_step k None = refused 5 k

unfoldable pub word_of : List ℕ → ℕ → Took Token
word_of text k = let e = span_end is_letter (drop k text) k in took (plain word k 0 k (e - k)) e

-- a token that the byte b begins and that is no line end and no special character
unfoldable pub long_of : List ℕ → ℕ → ℕ → Took Token
long_of text k b =
    pick (is_letter b) (word_of text k)
    (pick (is_constant b) (constant_of text k)
    (pick (eqb b 35) (number_of text k)
    (pick (eqb b 33) (meta_of text k)
    (pick (eqb b 38) (io_of text k)
    (pick (eqb b 37) (cell_of text k)
    (pick (eqb b 34) (string_step k (quoted_at text (k + 1)))
    (refused 5 k)))))))

-- Document 01, Text: "Two tokens need white space between them unless one is `[ ] ( ) { } = ,`; else 5 at the second".
-- A token at the place k follows on another where the byte before is neither white space nor a special character.
unfoldable pub follows : List ℕ → ℕ → Bool
follows text zero = false
follows text (suc j) = let b = get_or text j 0 in not (within 1 2 (class_of b) || is_special b)

-- the token at the place k, where the rest is s and no white space stands
unfoldable pub token_from : List ℕ → ℕ → List ℕ → Took Token
token_from text k [] = took (plain text_end k 0 0 0) k
token_from text k (b ∷ s) =
    pick (is_feed b) (took (plain line_end k 0 0 0) (k + 1))
    (pick (eqb b 13) (took (plain line_end k 0 0 0) (k + 2))
    (pick (eqb b 59) (took (plain line_end k 0 0 0) (comment_end s (k + 1)))
    (pick (is_special b) (took (plain mark k b 0 0) (k + 1))
    (pick (follows text k) (refused 5 k)
    (long_of text k b)))))

abbrev pub standing_at : List ℕ → ℕ → Took Token
standing_at text k = token_from text k (drop k text)

-- THE TOKEN from the place on: line ends are tokens
unfoldable pub token_at : List ℕ → ℕ → Took Token
token_at text k = standing_at text (span_end is_white (drop k text) k)

-- THE TOKEN between brackets: line ends and comments are white space
unfoldable pub inside_at : List ℕ → ℕ → Took Token
inside_at text k = standing_at text (inside_end (drop k text) false k)

-- A part by its number, or n where it is not written; `large` where the token would be refused, 5 or 6
abbrev pub part_or : ℕ → Suffix → Numeral
part_or n s = record { value = pick s.given s.value n; large = s.broken || s.large; end = s.end }

abbrev pub spot : ℕ → ℕ → ℕ → ℕ → Spot
spot n offset width end = record { found = true; closed = false; cell = n; offset = offset; width = width; end = end }

abbrev pub no_spot : Bool → Spot
no_spot closed = record { found = false; closed = closed; cell = 0; offset = 0; width = 0; end = 0 }

-- a cell identifier without a count by its numbers
abbrev pub spot_of : Took Token → Spot
spot_of (Ok (t, r)) = pick (eqb t.sort cell && ltb t.parts 4) (spot t.value t.offset t.width r.next.at) (no_spot false)
spot_of (Err g) = no_spot false

-- THE CELL IDENTIFIER between brackets, without a count, by its numbers; or whether `]` stands there
unfoldable pub spot_at : List ℕ → ℕ → Spot
spot_at text at =
    let k = inside_end (drop at text) false at in
    pick (eqb (get_or text k 0) 37 && not (follows text k)) (spot_of (cell_of text k)) (no_spot (eqb (get_or text k 0) 93))

abbrev pub link : ℕ → ℕ → ℕ → Link
link index k end = record { index = index; at = k; end = end }

abbrev pub link_of : Took Token → Option Link
link_of (Ok (t, r)) = Some (link t.value t.place.at r.next.at)
link_of (Err g) = None

-- THE REFERENCE between brackets, by its index, where one stands there
unfoldable pub link_at : List ℕ → ℕ → Option Link
link_at text at =
    let k = inside_end (drop at text) false at in
    pick (eqb (get_or text k 0) 33 && not (follows text k)) (link_of (meta_of text k)) None

-- THE BYTE b from the place on, where only white space stands before it: the place past it, or 0
unfoldable pub byte_end : List ℕ → ℕ → ℕ → ℕ
byte_end text b at = let k = span_end is_white (drop at text) at in pick (eqb (get_or text k 0) b) (k + 1) 0
