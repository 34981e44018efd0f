-- A walk over metadata rows: each begins in the pools where those before it end, what it has is there, and it keeps the rules.
use Rattle.std.specs.Prelude.{ℕ, zero, suc, ◌+◌, ◌*◌, Bool, true, false, ◌&&◌, List, eqb, drop, Option, Some, None}
use Rattle.pools.specs.Lying.{lies}
use Rattle.ground.specs.Choice.{pick}
use Rattle.ground.specs.Lists.{every}
use Rattle.ground.specs.Regions.{blank, part}
use Rattle.netlist.specs.Rules.{refers, is_member, is_trit}
use Rattle.netlist.specs.View.{word}
use Rattle.checkmeta.specs.Fields.{kind_sound, name_sound, text_sound, members_sound, bits_sound, inside_sound, source_sound, number_sound, range_sound, kinds_in}

abbrev pub sizes_sound : List ℕ → Bool
sizes_sound row =
    (kind_sound (word row 0) && name_sound (word row 0) (word row 2))
    && (text_sound (word row 0) (word row 4) && (members_sound (word row 0) (word row 6) && bits_sound (word row 0) (word row 8)))

abbrev pub values_sound : List ℕ → List ℕ → Bool
values_sound kinds row =
    (inside_sound kinds (word row 0) (word row 9) && source_sound kinds (word row 0) (word row 10))
    && (number_sound (word row 0) (word row 11) && range_sound (word row 0) (word row 12) (word row 13) (word row 14) (word row 15))

-- the next string, member and trit lie at s, m and b
abbrev pub placed : ℕ → ℕ → ℕ → List ℕ → Bool
placed s m b row =
    (lies s 16384 (word row 1) (word row 2 + word row 4) && eqb (word row 3) (s + word row 2))
    && (lies m 1024 (word row 5) (word row 6) && lies b 131072 (word row 7) (word row 8))

-- the row of metadata, behind rows of the kinds that are given
unfoldable pub meta_good : List ℕ → List ℕ → List ℕ → ℕ → ℕ → ℕ → List ℕ → Bool
meta_good members bits kinds s m b row =
    placed s m b row && ((sizes_sound row && values_sound kinds row)
    && (every (refers is_member kinds) (part m (word row 6) members) && every is_trit (part b (word row 8) bits)))

-- the rows from the row i on, of which so many are left
unfoldable pub metas_walk : List ℕ → List ℕ → List ℕ → ℕ → ℕ → ℕ → ℕ → ℕ → Option (ℕ × ℕ × ℕ)
metas_walk members bits rows i s m b zero = pick (blank (drop (i * 16) rows)) (Some (s, m, b)) None
metas_walk members bits rows i s m b (suc left) =
    elim (meta_good members bits (kinds_in i rows) s m b (drop (i * 16) rows)) [
      | true ↦ metas_walk members bits rows (i + 1) (s + (word (drop (i * 16) rows) 2 + word (drop (i * 16) rows) 4)) (m + word (drop (i * 16) rows) 6) (b + word (drop (i * 16) rows) 8) left
      | false ↦ None
    ]

abbrev pub strings_upto : Option (ℕ × ℕ × ℕ) → ℕ
strings_upto None = 0
strings_upto (Some (s, m, b)) = s
