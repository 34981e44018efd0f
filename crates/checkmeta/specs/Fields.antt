-- The rules of metadata by the fields of a row: each field's are gathered, with sizes for what lies in pools. The rules are those of
-- the netlist (document 01, Metadata and I/O; rules 10 to 13), with that of `shape`: what a kind does not have is empty or 0.
use Rattle.std.specs.Prelude.{ℕ, zero, suc, Bool, not, ◌&&◌, ◌||◌, List, [], ◌∷◌, leb, eqb, drop, get_or}
use Rattle.ground.specs.Choice.{pick}
use Rattle.kinds.specs.Kinds.{wide}
use Rattle.netlist.specs.Netlist.{set_meta, source_meta, indexed_meta, ident_meta, bits_meta, integer_meta, string_meta, is_scope}
use Rattle.netlist.specs.Rules.{has_name, bad_range, refers, is_member, is_source}
use Rattle.checkmeta.specs.declared.refs.Asks.{Asks}
use Rattle.checkmeta.specs.declared.refs.Asks.TheVariants.{Member, Scope, Source}

abbrev pub kind_sound : ℕ → Bool
kind_sound kind = leb 1 kind && leb kind 8

-- "names .. aren't empty"; "strings of 255 decoded bytes"
abbrev pub name_sound : ℕ → ℕ → Bool
name_sound kind size = pick (has_name kind) (leb 1 size && leb size 255) (eqb size 0)

abbrev pub text_sound : ℕ → ℕ → Bool
text_sound kind size = pick (eqb kind string_meta) (leb size 255) (eqb size 0)

-- "sets have two or more members"
abbrev pub members_sound : ℕ → ℕ → Bool
members_sound kind count = pick (eqb kind set_meta) (leb 2 count) (eqb count 0)

-- "An attribute's constant is 1 to 256 wide"
abbrev pub bits_sound : ℕ → ℕ → Bool
bits_sound kind width = pick (eqb kind bits_meta) (wide width) (eqb width 0)

-- "`in=` names a scope, `src=` a source"
abbrev pub inside_sound : List ℕ → ℕ → ℕ → Bool
inside_sound kinds kind inside =
    pick (eqb kind ident_meta) (refers is_scope kinds inside) (eqb inside 0 || (is_scope kind && refers is_scope kinds inside))

abbrev pub source_sound : List ℕ → ℕ → ℕ → Bool
source_sound kinds kind source = eqb source 0 || (is_scope kind && refers is_source kinds source)

abbrev pub number_sound : ℕ → ℕ → Bool
number_sound kind number = (eqb kind indexed_meta || eqb kind integer_meta) || eqb number 0

abbrev pub zero_range : ℕ → ℕ → ℕ → ℕ → Bool
zero_range line column end_line end_column = eqb line 0 && (eqb column 0 && (eqb end_line 0 && eqb end_column 0))

-- "a source range has no negative number and doesn't end before it starts"
abbrev pub range_sound : ℕ → ℕ → ℕ → ℕ → ℕ → Bool
range_sound kind line column end_line end_column =
    pick (eqb kind source_meta) (not (bad_range line column end_line end_column)) (zero_range line column end_line end_column)

-- the kinds that a reference may name
abbrev pub allowed : Asks → ℕ → Bool
allowed Member = is_member
allowed Scope = is_scope
allowed Source = is_source

-- the kinds of the first n rows
unfoldable pub kinds_in : ℕ → List ℕ → List ℕ
kinds_in zero rows = []
kinds_in (suc n) rows = get_or rows 0 0 ∷ kinds_in n (drop 16 rows)
