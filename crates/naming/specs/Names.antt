-- Full names. Document 01, Metadata: "The full name of an ident is written parent first, down to the named declaration, joined by `/`,
-- indexed scopes in decimal." 16: "asked row is no ident".
use Rattle.ground.specs.declared.Refusal.{Refusal}
use Rattle.std.specs.Prelude.{ℕ, zero, suc, ◌-◌, Bool, true, false, not, ◌&&◌, List, [], ◌∷◌, ◌++◌, ltb, eqb, length, get_or, Result, Ok, Err}
use Rattle.ground.specs.Choice.{pick}
use Rattle.ground.specs.Refusals.{at, refusal}
use Rattle.ground.specs.Regions.{over}
use Rattle.netlist.specs.Netlist.{Meta, Netlist, indexed_meta, ident_meta}
use Rattle.netlist.specs.Good.{check_of, netlist_in}
use Rattle.writing.specs.Decimal.{signed}

abbrev pub no_meta : Meta
no_meta =
    record { kind = 0; name = []; text = []; members = []; bits = []; inside = 0; source = 0; number = 0; line = 0; column = 0; end_line = 0; end_column = 0 }

abbrev pub meta_at : Netlist → ℕ → Meta
meta_at N row = get_or N.metas row no_meta

-- a row's own name: its string, or its index in decimal
abbrev pub own_name : Meta → List ℕ
own_name m = pick (eqb m.kind indexed_meta) (signed m.number) m.name

-- the name of a row behind its parents'. A parent is an earlier row, so the row itself bounds the steps up.
unfoldable pub name_from : ℕ → Netlist → ℕ → List ℕ
name_from zero N row = own_name (meta_at N row)
name_from (suc f) N row = elim (eqb (meta_at N row).inside 0) [
  | true ↦ own_name (meta_at N row)
  | false ↦ name_from f N ((meta_at N row).inside - 1) ++ (47 ∷ own_name (meta_at N row))
]

abbrev pub full_name : Netlist → ℕ → List ℕ
full_name N row = name_from row N row

abbrev pub is_ident : Netlist → ℕ → Bool
is_ident N row = ltb row (length N.metas) && eqb (meta_at N row).kind ident_meta

pub record Outcome : Type 0 where
  pub answer : Result ℕ Refusal
  pub room : List ℕ

abbrev pub made : Result ℕ Refusal → List ℕ → Outcome
made answer room = record { answer = answer; room = room }

-- 24; "Room past an answer is unchanged"
abbrev pub given : List ℕ → List ℕ → Outcome
given name room =
    pick (ltb (length room) (length name)) (made (Err (refusal 24 (at 0))) room)
    (made (Ok (length name)) (over (length name) name room))

-- 16, then 24
unfoldable pub written : Netlist → ℕ → List ℕ → Outcome
written N row room = pick (not (is_ident N row)) (made (Err (refusal 16 (at 0))) room) (given (full_name N row) room)

abbrev after : Result (Unit {0}) Refusal → List ℕ → Outcome → Outcome
after (Ok tt) room o = o
after (Err g) room o = made (Err g) room

-- THE OUTCOME OF NAMING: 1, 15, 16, 24
unfoldable pub name_of : List ℕ → List ℕ → List ℕ → ℕ → List ℕ → Outcome
name_of rows strings bits row room = after (check_of rows strings bits) room (written (netlist_in rows strings bits) row room)
