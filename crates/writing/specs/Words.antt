-- The tokens of the canonical text. Each printer takes what follows, so that a line reads from the left to the right.
use Rattle.std.specs.Prelude.{ℕ, ◌+◌, ◌-◌, ◌/◌, ◌%◌, Bool, true, false, not, ◌&&◌, ◌||◌, List, [], ◌∷◌, ◌++◌, leb, ltb, eqb}
use Prim.Native.String.{String}
use Rattle.ground.specs.Choice.{pick}
use Rattle.ground.specs.Text.{bytes}
use Rattle.writing.specs.Decimal.{decimal, signed}

unfoldable pub text : String → List ℕ → List ℕ
text s k = bytes s ++ k

unfoldable pub number : ℕ → List ℕ → List ℕ
number n k = decimal n ++ k

-- `#` and a number with its sign
unfoldable pub hash : ℕ → List ℕ → List ℕ
hash n k = 35 ∷ (signed n ++ k)

-- Document 01, Canonical text: "String bytes 20-7E but `"` and `\` are raw, the rest `\hh`"
abbrev pub raw_byte : ℕ → Bool
raw_byte b = leb 0x20 b && (leb b 0x7e && not (eqb b 0x22 || eqb b 0x5c))

abbrev pub hex_digit : ℕ → ℕ
hex_digit d = pick (ltb d 10) (48 + d) (87 + d)

unfoldable pub escaped : List ℕ → List ℕ → List ℕ
escaped [] k = k
escaped (b ∷ bs) k = elim (raw_byte b) [
  | true ↦ b ∷ escaped bs k
  | false ↦ 92 ∷ hex_digit (b / 16) ∷ hex_digit (b % 16) ∷ escaped bs k
]

unfoldable pub quoted : List ℕ → List ℕ → List ℕ
quoted bs k = 34 ∷ escaped bs (34 ∷ k)

-- constants: `0 1 X`, most significant left
abbrev pub trit_char : ℕ → ℕ
trit_char t = pick (eqb t 2) 88 (48 + t)

unfoldable pub trits : List ℕ → List ℕ → List ℕ
trits [] k = k
trits (t ∷ ts) k = trit_char t ∷ trits ts k

-- `!` and a metadata row; the reference is the row plus one
unfoldable pub reference : ℕ → List ℕ → List ℕ
reference r k = 33 ∷ number (r - 1) k

-- the members of a set
unfoldable pub references : List ℕ → List ℕ → List ℕ
references [] k = k
references (r ∷ []) k = reference r k
references (r ∷ q ∷ rs) k = reference r (32 ∷ references (q ∷ rs) k)

-- further members, each behind a space
unfoldable pub more_references : List ℕ → List ℕ → List ℕ
more_references [] k = k
more_references (r ∷ rs) k = 32 ∷ reference r (more_references rs k)

-- an optional reference behind its word
unfoldable pub option : List ℕ → ℕ → List ℕ → List ℕ
option word r k = pick (eqb r 0) k (word ++ reference r k)
