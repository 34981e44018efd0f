-- Each public function has one outcome: its contract is one equation, or one under what it asks of its caller.
use mathlib.Core.Path.{◌≡◌, sym, ◌∙◌}
use mathlib.Core.Bool.{Bool}
use mathlib.Core.List.{List}
use Prim.Native.Nat.{ℕ}
use lib.ListN.{length, get_or}
use Rattle.ground.specs.Lists.{joined}
use Rattle.ground.specs.Regions.{pad}
use Rattle.ground.specs.Text.{same}
use Rattle.ground.proofs.Outcome.{any_two}
use Rattle.signs.specs.Pieces.{decoded}
use Rattle.brackets.specs.Parts.{members_at}
use Rattle.netlist.specs.Rules.{bad_range, taken, io_names, names_as}
use Rattle.marking.specs.Marks.{mark_of}
use Rattle.saying.specs.Notes.{IoNote, CellNote, io_note, cell_note, ios_said, cells_said, SpellIos, SpellCells}
use Rattle.asking.specs.Namesakes.{IosNoted, CellsNoted}
use Rattle.asking.specs.References.{ref_in, misnamed_in, first_misnamed}
use Rattle.asking.specs.declared.Asks.{Asks}
use Rattle.asking.specs.declared.Asks.TheVariants.{Member}

abbrev One : {A B : Type 0} → (A → B) → Type 0
One {A} {B} f = (a : A) (o p : B) → o ≡ f a → p ≡ f a → o ≡ p

-- `word_at`, and `row_of` by its first half
pub one_word : (table : List ℕ) → One (λ at. get_or table at 0)
one_word table = any_two (λ at. get_or table at 0)

pub one_same : (text : List ℕ) (a : ℕ) → One (λ b. same (decoded text a) (decoded text b))
one_same text a = any_two (λ b. same (decoded text a) (decoded text b))

pub one_mark : (text : List ℕ) (kind : ℕ) → One (λ from. mark_of kind (decoded text from))
one_mark text kind = any_two (λ from. mark_of kind (decoded text from))

pub one_range : (line column end_line : ℕ) → One (bad_range line column end_line)
one_range line column end_line = any_two (bad_range line column end_line)

-- the contracts of these begin with what the tables say, whatever they note
pub one_ref : (rows : List ℕ) → One (ref_in rows)
one_ref rows = any_two (ref_in rows)

pub one_misnamed : (asks : Asks) (rows metas : List ℕ) (n : ℕ) → One (misnamed_in asks rows metas n)
one_misnamed asks rows metas n = any_two (misnamed_in asks rows metas n)

pub one_first_misnamed : (text rows metas : List ℕ) (n : ℕ) → One (λ k. first_misnamed (misnamed_in Member rows metas n) (members_at text k))
one_first_misnamed text rows metas n = any_two (λ k. first_misnamed (misnamed_in Member rows metas n) (members_at text k))

-- what the contracts of `io_taken` and `cell_taken` allow, of tables that note something
abbrev pub IoTaken : List ℕ → List ℕ → ℕ → ℕ → Bool → Type 0
IoTaken text ios n from r =
    (ns : List IoNote) → ios ≡ pad 192 (joined io_note ns) → n ≡ length ns → SpellIos text ns → r ≡ taken (decoded text from) (io_names (ios_said ns))

pub one_io_taken : (text ios : List ℕ) (n from : ℕ) → IosNoted text ios n → (o p : Bool) → IoTaken text ios n from o → IoTaken text ios n from p → o ≡ p
one_io_taken text ios n from h o p s t = s h.notes h.rows h.count h.names ∙ sym (t h.notes h.rows h.count h.names)

abbrev pub CellTaken : List ℕ → List ℕ → ℕ → ℕ → ℕ → Bool → Type 0
CellTaken text cells n kind from r =
    (ns : List CellNote) → cells ≡ pad 4608 (joined cell_note ns) → n ≡ length ns → SpellCells text ns → r ≡ taken (decoded text from) (names_as kind (cells_said ns))

pub one_cell_taken : (text cells : List ℕ) (n kind from : ℕ) → CellsNoted text cells n → (o p : Bool) → CellTaken text cells n kind from o → CellTaken text cells n kind from p → o ≡ p
one_cell_taken text cells n kind from h o p s t = s h.notes h.rows h.count h.names ∙ sym (t h.notes h.rows h.count h.names)
