-- The classes of bytes. Document 01, Text: "A byte's class (white, digit, letter, sigil, bracket and so on) comes from a table of
-- 256 classes". The rule is a list of ranges, each with its class; a byte that no range holds has the class `other`.
use Rattle.std.specs.Prelude.{ℕ, zero, suc, ◌+◌, ◌-◌, Bool, true, false, List, [], ◌∷◌, leb, eqb}
use Rattle.ground.specs.Choice.{pick}

-- b lies from a to e
abbrev pub within : ℕ → ℕ → ℕ → Bool
within a e b = pick (leb a b) (leb b e) false

-- the bytes from low to high
pub record Range : Type 0 where
  pub low : ℕ
  pub high : ℕ

abbrev pub range : ℕ → ℕ → Range
range a e = record { low = a; high = e }

abbrev pub in_range : Range → ℕ → Bool
in_range r b = within r.low r.high b

pub record Class : Type 0 where
  pub bytes : Range
  pub number : ℕ

abbrev class : ℕ → ℕ → ℕ → Class
class a e n = record { bytes = range a e; number = n }

-- 1 white, 2 LF, 3 CR, 4 the digits 2 to 9, 5 the digits 0 and 1, 6 `X`, 7 the letters a to f, 8 the other letters,
-- 9 `#`, 10 `!`, 11 `&`, 12 `%`, 13 `"`, 14 `;`, 15 the special characters `[ ] ( ) { } = ,`,
-- 16 the other bytes that a string may not hold raw, 17 `\`, 0 all others
abbrev pub classes : List Class
classes =
    class 0x20 0x20 1 ∷ class 0x09 0x09 1 ∷ class 0x0a 0x0a 2 ∷ class 0x0d 0x0d 3 ∷ class 0x30 0x31 5 ∷ class 0x32 0x39 4
    ∷ class 0x61 0x66 7 ∷ class 0x67 0x7a 8 ∷ class 0x58 0x58 6
    ∷ class 0x23 0x23 9 ∷ class 0x21 0x21 10 ∷ class 0x26 0x26 11 ∷ class 0x25 0x25 12 ∷ class 0x22 0x22 13 ∷ class 0x3b 0x3b 14
    ∷ class 0x5b 0x5b 15 ∷ class 0x5d 0x5d 15 ∷ class 0x28 0x29 15 ∷ class 0x7b 0x7b 15 ∷ class 0x7d 0x7d 15 ∷ class 0x3d 0x3d 15
    ∷ class 0x2c 0x2c 15
    ∷ class 0x00 0x1f 16 ∷ class 0x7f 0x7f 16 ∷ class 0x5c 0x5c 17 ∷ []

unfoldable pub class_from : List Class → ℕ → ℕ
class_from [] b = 0
class_from (c ∷ cs) b = elim (in_range c.bytes b) [ true ↦ c.number | false ↦ class_from cs b ]

unfoldable pub class_of : ℕ → ℕ
class_of b = class_from classes b

-- the classes of n bytes, from the byte b on
unfoldable pub classes_from : ℕ → ℕ → List ℕ
classes_from b zero = []
classes_from b (suc n) = class_of b ∷ classes_from (b + 1) n

-- the table: entry b is the class of the byte b
unfoldable pub table : List ℕ
table = classes_from 0 256

-- a byte of the classes from low to high
abbrev pub among : ℕ → ℕ → ℕ → Bool
among low high b = within low high (class_of b)

abbrev pub is_white : ℕ → Bool
is_white b = among 1 1 b

abbrev pub is_feed : ℕ → Bool
is_feed b = eqb (class_of b) 2

abbrev pub is_digit : ℕ → Bool
is_digit b = among 4 5 b

-- Document 01, Text: "Constants are `0 1 X`"
abbrev pub is_constant : ℕ → Bool
is_constant b = among 5 6 b

-- Document 01, Text: "A word is letters a-z"
abbrev pub is_letter : ℕ → Bool
is_letter b = among 7 8 b

-- Document 01, Text: "two of `0-9a-f`"
abbrev pub is_hex : ℕ → Bool
is_hex b = pick (is_digit b) true (eqb (class_of b) 7)

abbrev pub is_special : ℕ → Bool
is_special b = eqb (class_of b) 15

-- Document 01, Text: "Raw 00-1F and 7F are malformed" in a string; `"` and `\` pass here, and `string_from` asks for them first
abbrev pub is_raw : ℕ → Bool
is_raw b =
    pick (within 1 3 (class_of b)) (eqb b 0x20)
    (pick (eqb (class_of b) 16) false true)

-- the trit that a constant's character means: X is 2
abbrev pub trit_of : ℕ → ℕ
trit_of b = pick (eqb (class_of b) 6) 2 (b - 48)

-- the value of a hexadecimal digit
abbrev pub hex_of : ℕ → ℕ
hex_of b = pick (is_digit b) (b - 48) (b - 87)
