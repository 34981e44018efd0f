-- THE LANGUAGE, apart from the order in which 9 to 14 are asked: when a text says a netlist. The text is sound as a whole; its
-- declarations stand one behind the other, each of good form (5 to 8, by form/specs/Forms); and rules 9 to 14 hold of them all.
use Rattle.std.specs.Prelude.{ℕ, ◌≡◌, Bool, true, false, not, ◌&&◌, List, [], ◌∷◌, eqb, Ok, Some, None}
use Rattle.ground.specs.Lists.{every}
use Rattle.kinds.specs.Kinds.{input_kind, output_kind}
use Rattle.scanning.specs.Whole.{whole_of}
use Rattle.lexis.specs.declared.Reader.{Reader}
use Rattle.form.specs.Forms.{form_at}
use Rattle.form.specs.declared.Declared.{Declared}
use Rattle.netlist.specs.Netlist.{Netlist}
use Rattle.netlist.specs.Rules.{distinct, io_names, names_as, widths_of, roomy}
use Rattle.saying.specs.Pieces.{unresolved}
use Rattle.saying.specs.Rules.{Sofar, nothing, said_by, added, misnamed, asked_of, incomplete, misfit}
use Rattle.declaring.specs.Reading.{netlist_of}

-- 001, General structure: declarations from a place on, one behind the other, to the end of the text
pub data Stand (text : List ℕ) : ℕ → List Declared → Type 0 where
  ended : {k : ℕ} → form_at text k ≡ Ok None → Stand text k []
  next : {k : ℕ} {d : Declared} {r : Reader} {ds : List Declared} → form_at text k ≡ Ok (Some (d, r)) → Stand text r.next.at ds → Stand text k (d ∷ ds)

-- what they say, behind what is said already
unfoldable pub say_from : List ℕ → Sofar → List Declared → Sofar
say_from text so [] = so
say_from text so (d ∷ ds) = say_from text (added so d.index (said_by text so d.decl)) ds

abbrev pub say : List ℕ → List Declared → Sofar
say text ds = say_from text nothing ds

-- each declaration passes a test, given what those before it say
unfoldable pub each_from : (Sofar → Declared → Bool) → List ℕ → Sofar → List Declared → Bool
each_from p text so [] = true
each_from p text so (d ∷ ds) = p so d && each_from p text (added so d.index (said_by text so d.decl)) ds

abbrev pub each : (Sofar → Declared → Bool) → List ℕ → List Declared → Bool
each p text ds = each_from p text nothing ds

-- no number stands twice
unfoldable pub has : ℕ → List ℕ → Bool
has n [] = false
has n (m ∷ ms) = elim (eqb n m) [ true ↦ true | false ↦ has n ms ]

unfoldable pub once : List ℕ → Bool
once [] = true
once (n ∷ ns) = not (has n ns) && once ns

-- THE TEXT SAYS THE NETLIST
pub record Says (text : List ℕ) (N : Netlist) : Type 0 where
  -- 2, 3, 4
  pub sound : whole_of text ≡ Ok tt
  -- 5 to 8
  pub declarations : List Declared
  pub stand : Stand text 0 declarations
  -- 9: "index or name declared twice"; `!` and `%` indices, I/O names, input names and output names
  pub meta_numbers : once (say text declarations).meta_numbers ≡ true
  pub cell_numbers : once (say text declarations).cell_numbers ≡ true
  pub pads : distinct (io_names (say text declarations).netlist.ios) ≡ true
  pub inputs : distinct (names_as input_kind (say text declarations).netlist.cells) ≡ true
  pub outputs : distinct (names_as output_kind (say text declarations).netlist.cells) ≡ true
  -- 10: "metadata reference missing, later or of the wrong kind": each names an earlier declaration of a kind that may stand there
  pub references : each (λ so d. every (λ q. not (misnamed so q)) (asked_of text d.decl)) text declarations ≡ true
  -- 11: "empty name, bad range, short set"
  pub complete : each (λ so d. not (incomplete (said_by text so d.decl))) text declarations ≡ true
  -- 12: "width rule"
  pub widths : each (λ so d. not (misfit (said_by text so d.decl))) text declarations ≡ true
  -- 13: "a limit of Room passed"
  pub room : roomy (say text declarations).netlist ≡ true
  -- 14: "piece doesn't resolve"
  pub pieces : every (λ p. not (unresolved (say text declarations).cell_numbers (widths_of (say text declarations).netlist.cells) p)) (say text declarations).pieces ≡ true
  -- and what they say, its pieces by rows, is the netlist
  pub is : netlist_of (say text declarations) ≡ N
