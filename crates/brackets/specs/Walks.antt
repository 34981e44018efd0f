-- The parts of an operand and the members of a set again, one a step: a walk is where it stands, and what a step finds there.
use Rattle.brackets.specs.declared.Part.{Part}
use Rattle.ground.specs.declared.Place.{Place}
use Rattle.lexis.specs.declared.Token.{Token}
use Rattle.lexis.specs.Took.{Took}
use Rattle.std.specs.Prelude.{ℕ, ◌+◌, ◌-◌, List, [], ◌∷◌, eqb, length, Ok, Err, Option, Some, None}
use Rattle.ground.specs.Choice.{pick}
use Rattle.ground.specs.Refusals.{at}
use Rattle.lexis.specs.Tokens.{token_at}
use Rattle.brackets.specs.Parts.{is_part, part_of, PartAt, next_part, parts_from, next_member, members_from}
use Rattle.brackets.specs.declared.Operand.{Operand}
use Rattle.brackets.specs.declared.Ref.{Ref}
use Rattle.brackets.specs.declared.Parted.{Parted}
use Rattle.brackets.specs.declared.Parted.TheVariants as parted
use Rattle.brackets.specs.declared.Membered.{Membered}
use Rattle.brackets.specs.declared.Membered.TheVariants as membered
use Rattle.brackets.specs.declared.Walk.{Walk}
use Rattle.brackets.specs.declared.Walk.TheVariants.{Past, Alone, Within}
use Rattle.brackets.specs.declared.Tour.{Tour}

-- THE WALK over the parts of an operand, by its first token: each part takes a byte at least
abbrev pub walk_from : List ℕ → Took Token → Walk
walk_from text (Err g) = Past
walk_from text (Ok (t, r)) = pick (is_part t) (Alone (part_of t) t.place) (Within r (length text + 1))

unfoldable pub walk_of : List ℕ → Operand → Walk
walk_of text o = pick o.given (walk_from text (token_at text o.at)) Past

abbrev pub walk_on : ℕ → Took Parted → Option (Part × Place × Walk)
walk_on left (Ok (parted.Took p place, r)) = Some (p, place, Within r (left - 1))
walk_on left (Ok (parted.Other t, r)) = None
walk_on left (Err g) = None

unfoldable pub walk_step : List ℕ → Walk → Option (Part × Place × Walk)
walk_step text Past = None
walk_step text (Alone p place) = Some (p, place, Past)
walk_step text (Within r left) = pick (eqb left 0) None (walk_on left (next_part text r.next.at))

-- the parts that a walk has before it, and those behind one step
unfoldable pub parts_left : List ℕ → Walk → List PartAt
parts_left text Past = []
parts_left text (Alone p place) = record { part = p; place = place } ∷ []
parts_left text (Within r left) = parts_from left text r.next.at

abbrev pub parts_on : List ℕ → Option (Part × Place × Walk) → List PartAt
parts_on text None = []
parts_on text (Some (p, place, w)) = record { part = p; place = place } ∷ parts_left text w

-- at most so many parts come
abbrev pub most_parts : Walk → ℕ
most_parts Past = 0
most_parts (Alone p place) = 1
most_parts (Within r left) = left

-- THE WALK over the members of a set
abbrev pub tour_at : List ℕ → ℕ → Tour
tour_at text k = record { next = record { next = at k }; left = length text + 1 }

abbrev pub tour_on : ℕ → Took Membered → Option (Ref × Tour)
tour_on left (Ok (membered.Took m, r)) = Some (m, record { next = r; left = left - 1 })
tour_on left (Ok (membered.Other t, r)) = None
tour_on left (Err g) = None

unfoldable pub tour_step : List ℕ → Tour → Option (Ref × Tour)
tour_step text w = pick (eqb w.left 0) None (tour_on w.left (next_member text w.next.next.at))

abbrev pub members_left : List ℕ → Tour → List Ref
members_left text w = members_from w.left text w.next.next.at

abbrev pub members_on : List ℕ → Option (Ref × Tour) → List Ref
members_on text None = []
members_on text (Some (m, w)) = m ∷ members_left text w
