-- What metadata references name. RULE 10: "metadata reference missing, later or of the wrong kind", at the first such.
use Rattle.ground.specs.declared.Place.{Place}
use Rattle.std.specs.Prelude.{Bool, true, false, not, ◌&&◌, List, [], ◌∷◌, map, ℕ, ◌-◌, ◌*◌, leb, get_or, Option, Some, None}
use Rattle.ground.specs.Choice.{pick}
use Rattle.brackets.specs.declared.Ref.{Ref}
use Rattle.netlist.specs.Netlist.{is_scope}
use Rattle.netlist.specs.Rules.{refers, any_kind, is_member, is_source}
use Rattle.saying.specs.Values.{row_of}
use Rattle.saying.specs.Notes.{MetaNote, metas_said}
use Rattle.asking.specs.declared.Asks.{Asks}
use Rattle.asking.specs.declared.Asks.TheVariants.{Any, Member, Scope, Source}

-- the kinds that a reference may name
abbrev pub allowed : Asks → ℕ → Bool
allowed Any = any_kind
allowed Member = is_member
allowed Scope = is_scope
allowed Source = is_source

-- the kinds of the rows noted so far
abbrev pub kinds_said : List MetaNote → List ℕ
kinds_said ns = map (λ m. m.kind) (metas_said ns)

-- a reference that is written and names no earlier row, or one of a kind that is not allowed there
abbrev pub misnamed : (ℕ → Bool) → List ℕ → List ℕ → Ref → Bool
misnamed p kinds numbers r = r.given && not (refers p kinds (row_of numbers r.index))

unfoldable pub first_misnamed : (Ref → Bool) → List Ref → Option Place
first_misnamed wrong [] = None
first_misnamed wrong (r ∷ rs) = elim (wrong r) [ true ↦ Some r.place | false ↦ first_misnamed wrong rs ]

-- the same by the tables: a word of the map is a row plus one, and a row of metadata begins with its kind
abbrev pub ref_in : List ℕ → Ref → ℕ
ref_in rows r = pick r.given (get_or rows r.index 0) 0

abbrev pub refers_in : Asks → List ℕ → ℕ → ℕ → Bool
refers_in asks metas n row = leb 1 row && (leb row n && allowed asks (get_or metas ((row - 1) * 16) 0))

unfoldable pub misnamed_in : Asks → List ℕ → List ℕ → ℕ → Ref → Bool
misnamed_in asks rows metas n r = r.given && not (refers_in asks metas n (get_or rows r.index 0))
