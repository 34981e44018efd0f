-- What tokens are made of: spans of one kind of byte, digits, the parts `+` `:` `*`, strings.
-- Each definition takes the rest of the text and the place at which that rest begins.
use Rattle.std.specs.Prelude.{ℕ, zero, suc, ◌+◌, ◌-◌, ◌*◌, Bool, true, false, not, ◌&&◌, List, [], ◌∷◌, ltb, eqb, drop, get_or, length, Option, Some, None}
use Rattle.ground.specs.Choice.{pick}
use Rattle.signs.specs.Bytes.{class_of, is_feed, is_digit, is_hex, is_raw, hex_of, within}
use Rattle.signs.specs.declared.pieces.Numeral.{Numeral}
use Rattle.signs.specs.declared.pieces.Suffix.{Suffix}

-- the place past the bytes that pass the test
unfoldable pub span_end : (ℕ → Bool) → List ℕ → ℕ → ℕ
span_end p [] k = k
span_end p (b ∷ s) k = elim (p b) [ true ↦ span_end p s (k + 1) | false ↦ k ]

-- 001, Comments: a comment starts with `;` and ends with LINE FEED
unfoldable pub comment_end : List ℕ → ℕ → ℕ
comment_end s k = span_end (λ b. not (is_feed b)) s k + 1

-- what a byte of the class c is between brackets: 0 begins a token, 1 is white space, 2 begins a comment or stands in one
abbrev pub inside_move : Bool → ℕ → ℕ
inside_move true c = pick (eqb c 2) 1 2
inside_move false c = pick (within 1 3 c) 1 (pick (eqb c 14) 2 0)

-- Document 01, Text: "LF ends a declaration, except between matching brackets, where it is white space", and "A comment counts as LF".
-- The place of the next token between brackets; `noted` says that a comment runs.
unfoldable pub inside_end : List ℕ → Bool → ℕ → ℕ
inside_end [] noted k = k
inside_end (b ∷ s) true k = inside_end s (not (is_feed b)) (k + 1)
inside_end (b ∷ s) false k = elim (within 1 3 (class_of b)) [
  | true ↦ inside_end s false (k + 1)
  | false ↦ elim (eqb (class_of b) 14) [ true ↦ inside_end s true (k + 1) | false ↦ k ]
]

-- digits: the number that they make behind n, and the place past them. Leading zeros never matter.
pub record Digits : Type 0 where
  pub value : ℕ
  pub end : ℕ

unfoldable pub digits_from : List ℕ → ℕ → ℕ → Digits
digits_from [] n k = record { value = n; end = k }
digits_from (b ∷ s) n k = elim (is_digit b) [ true ↦ digits_from s (n * 10 + (b - 48)) (k + 1) | false ↦ record { value = n; end = k } ]

-- the number n with the digit b behind it; past the limit it need not grow any more
abbrev pub grown_past : ℕ → ℕ → ℕ → ℕ
grown_past limit n b = pick (ltb limit n) n (n * 10 + (b - 48))

-- a numeral with a limit: past it the numeral is too large, and its value is not asked for
abbrev pub limited : ℕ → Digits → Numeral
limited limit d = record { value = pick (ltb limit d.value) 0 d.value; large = ltb limit d.value; end = d.end }

-- the numeral of the text from the place k on
unfoldable pub numeral_at : ℕ → List ℕ → ℕ → Numeral
numeral_at limit text k = limited limit (digits_from (drop k text) 0 k)

-- Document 01, Text: "Indices, offsets, widths, counts: at most 65,535"
abbrev pub part_limit : ℕ
part_limit = 65535

-- Document 01, Text: "malformed if a part begun (`+`, `:`, `*`) isn't finished". A part that is not begun ends where it would begin.
abbrev pub no_suffix : ℕ → Suffix
no_suffix k = record { given = false; broken = false; large = false; value = 0; end = k }

abbrev pub begun_suffix : ℕ → Numeral → Suffix
begun_suffix k d = record { given = true; broken = eqb d.end (k + 1); large = d.large; value = d.value; end = d.end }

-- the part that begins with the mark at the place k
unfoldable pub suffix_at : List ℕ → ℕ → ℕ → Suffix
suffix_at text mark k = pick (eqb (get_or text k 0) mark) (begun_suffix k (numeral_at part_limit text (k + 1))) (no_suffix k)

-- Strings: the bytes meant, and the place past the closing `"`; or malformed.
pub data Str : Type 0 where
  whole : List ℕ → ℕ → Str
  broken : Str

abbrev pub prefixed : ℕ → Str → Str
prefixed b (whole bs e) = whole (b ∷ bs) e
prefixed b broken = broken

-- Document 01, Text: "`\` and two of `0-9a-f` is that byte; any other `\` is malformed. Raw 00-1F and 7F are malformed".
-- The rest behind the opening `"`; `skip` bytes of it are digits of an escape that is taken.
unfoldable pub string_from : List ℕ → ℕ → ℕ → Str
string_from [] skip k = broken
string_from (b ∷ s) (suc skip) k = string_from s skip (k + 1)
string_from (b ∷ s) zero k = elim (eqb b 34) [
  | true ↦ whole [] (k + 1)
  | false ↦ elim (eqb b 92) [
    | true ↦ elim (is_hex (get_or s 0 0) && is_hex (get_or s 1 0)) [
      | true ↦ prefixed (hex_of (get_or s 0 0) * 16 + hex_of (get_or s 1 0)) (string_from s 2 (k + 1))
      | false ↦ broken
    ]
    | false ↦ elim (is_raw b) [ true ↦ prefixed b (string_from s 0 (k + 1)) | false ↦ broken ]
  ]
]

-- the string whose first byte behind the opening `"` stands at the place k
abbrev pub string_at : List ℕ → ℕ → Str
string_at text k = string_from (drop k text) 0 k

abbrev pub bytes_in : Str → List ℕ
bytes_in (whole bs e) = bs
bytes_in broken = []

-- the bytes that the string at the place means
abbrev pub decoded : List ℕ → ℕ → List ℕ
decoded text k = bytes_in (string_at text k)

-- a string by its size: how many bytes it means, and the place past it
abbrev pub sized : Str → Option (ℕ × ℕ)
sized (whole bs e) = Some (length bs, e)
sized broken = None

unfoldable pub quoted_at : List ℕ → ℕ → Option (ℕ × ℕ)
quoted_at text k = sized (string_at text k)

-- how many bytes of the text one byte of a string takes, where the string goes on there: 3 an escape, 1 a raw byte, 0 for an escape or a
-- byte that is malformed. It looks at this one alone, and is not asked at the closing `"`
abbrev pub taken_at : List ℕ → ℕ → ℕ
taken_at text k =
    pick (eqb (get_or text k 0) 92) (pick (is_hex (get_or text (k + 1) 0) && is_hex (get_or text (k + 2) 0)) 3 0)
    (pick (is_raw (get_or text k 0)) 1 0)
