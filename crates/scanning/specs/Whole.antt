-- The whole text: refusals 2, 3 and 4.
use Rattle.ground.specs.declared.Refusal.{Refusal}
use Rattle.std.specs.Prelude.{ℕ, ◌+◌, Bool, true, false, List, [], ◌∷◌, ltb, eqb, length, Result, Ok, Err}
use Rattle.std.proofs.Math.Option.{Option, none, some}
use Rattle.ground.specs.Choice.{pick}
use Rattle.signs.specs.Bytes.{Range, range, in_range}
use Rattle.ground.specs.Refusals.{at, refusal}

-- a sequence: the range of its first byte, and the ranges of the bytes behind it
pub record Sequence : Type 0 where
  pub lead : Range
  pub tail : List Range

abbrev pub sequence : ℕ → ℕ → List Range → Sequence
sequence a e t = record { lead = range a e; tail = t }

abbrev pub more : Range
more = range 0x80 0xbf

-- RFC 3629, section 4, line by line; and document 01, Text: "CR is legal only before LF, in comments too", so CR LF is a sequence
abbrev pub sequences : List Sequence
sequences =
    sequence 0x00 0x0c [] ∷ sequence 0x0d 0x0d (range 0x0a 0x0a ∷ []) ∷ sequence 0x0e 0x7f []
    ∷ sequence 0xc2 0xdf (more ∷ [])
    ∷ sequence 0xe0 0xe0 (range 0xa0 0xbf ∷ more ∷ []) ∷ sequence 0xe1 0xec (more ∷ more ∷ [])
    ∷ sequence 0xed 0xed (range 0x80 0x9f ∷ more ∷ []) ∷ sequence 0xee 0xef (more ∷ more ∷ [])
    ∷ sequence 0xf0 0xf0 (range 0x90 0xbf ∷ more ∷ more ∷ []) ∷ sequence 0xf1 0xf3 (more ∷ more ∷ more ∷ [])
    ∷ sequence 0xf4 0xf4 (range 0x80 0x8f ∷ more ∷ more ∷ []) ∷ []

-- what must follow the first byte b of a sequence; none where no sequence begins so
unfoldable pub tail_of : List Sequence → ℕ → Option (List Range)
tail_of [] b = none
tail_of (q ∷ qs) b = elim (in_range q.lead b) [ true ↦ some q.tail | false ↦ tail_of qs b ]

-- what is lacking past the byte b, where bytes in the ranges were; where nothing was, b begins a sequence. None where b may not stand there
abbrev pub lacks_past : List Range → ℕ → Option (List Range)
lacks_past [] b = tail_of sequences b
lacks_past (r ∷ rs) b = pick (in_range r b) (some rs) none

-- where the sequence of the byte at the place k began
abbrev pub began_at : List Range → ℕ → ℕ → ℕ
began_at [] from k = k
began_at (r ∷ rs) from k = from

-- the place of the first bad sequence: the rest s at the place k, where the sequence that began at `from` still lacks bytes in the ranges
unfoldable pub bad_from : List ℕ → List Range → ℕ → ℕ → Option ℕ
bad_from [] [] from k = none
bad_from [] (r ∷ rs) from k = some from
bad_from (b ∷ s) rs from k =
    elim (lacks_past rs b) [ none ↦ some (began_at rs from k) | some t ↦ bad_from s t (began_at rs from k) (k + 1) ]

abbrev pub bad_at : List ℕ → Option ℕ
bad_at s = bad_from s [] 0 0

unfoldable pub ends_in_feed : List ℕ → Bool
ends_in_feed [] = false
ends_in_feed (b ∷ []) = eqb b 10
ends_in_feed (b ∷ c ∷ s) = ends_in_feed (c ∷ s)

-- the refusal with its number and place
abbrev pub unsound : ℕ → ℕ → Result (Unit {0}) Refusal
unsound n k = Err (refusal n (at k))

abbrev pub ending : List ℕ → Option ℕ → Result (Unit {0}) Refusal
ending s (some k) = unsound 3 k
ending s none = pick (ends_in_feed s) (Ok tt) (unsound 4 (length s))

-- 2: "text too long", at 65,536; 3: "not UTF-8, or CR without LF", at the first bad sequence; 4: "empty, or the last byte is no LF", at the length
unfoldable pub whole_of : List ℕ → Result (Unit {0}) Refusal
whole_of s = pick (ltb 65536 (length s)) (unsound 2 65536) (ending s (bad_at s))
