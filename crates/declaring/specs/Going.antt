-- The declarations of a text while they are noted, one after the other.
use Rattle.ground.specs.declared.Refusal.{Refusal}
use Rattle.std.specs.Prelude.{◌≡◌, true, false, List, ℕ, suc, ◌+◌, length, Result, Ok, Err, Option, Some, None}
use Rattle.std.proofs.Math.Option.{none, some}
use Rattle.ground.specs.Lists.{every}
use Rattle.ground.specs.Regions.{zeros}
use Rattle.lexis.specs.declared.Reader.{Reader}
use Rattle.form.specs.declared.Declared.{Declared}
use Rattle.form.specs.declared.Decl.{Decl}
use Rattle.form.specs.declared.Decl.TheVariants as decl
use Rattle.netlist.specs.Netlist.{runs_of}
use Rattle.saying.specs.Pieces.{first_unresolved}
use Rattle.saying.specs.Rules.{Sofar, nothing, said_by, added, ruled_out}
use Rattle.noting.specs.Noted.{Noted, After}
use Rattle.noting.specs.declared.Tally.{Tally}
use Rattle.resolving.specs.Resolving.{is_declared}
use Rattle.declaring.specs.Fresh.{NamesMarked}
use Rattle.declaring.specs.Reading.{Declarations, all, stopped, declarations_from}
use Rattle.declaring.specs.declared.notes.Sort.{Sort}
use Rattle.declaring.specs.declared.notes.Sort.TheVariants as sort

abbrev pub no_tally : Tally
no_tally = record { metas = 0; ios = 0; cells = 0; members = 0; trits = 0; runs = 0; known = 0; declared = 0; outputs = 0; strings = 0; bare = false }

-- the sort of a declaration
abbrev pub sort_of : Decl → Sort
sort_of (decl.Set m) = sort.Metadata
sort_of (decl.Source f r) = sort.Metadata
sort_of (decl.Scope l i s) = sort.Metadata
sort_of (decl.Ident n i) = sort.Metadata
sort_of (decl.Attr n p) = sort.Metadata
sort_of (decl.Io n w) = sort.Pad n w
sort_of (decl.Cell w) = sort.Cell w

-- where every piece resolves, the cells of the runs are declared
pub record Knows (so : Sofar) : Type 0 where
  pub declared : (numbers widths : List ℕ) → first_unresolved numbers widths so.pieces ≡ none → every (is_declared numbers) (runs_of so.netlist.cells) ≡ true

pub record NotesOne (text : List ℕ) (d : Declared) (n : Tally) (rows bits work : List ℕ) (r : Result Tally Refusal) (rows' bits' work' : List ℕ) : Type 0 where
  pub after : (so : Sofar) → Noted text so n rows bits work → After text so d r rows' bits' work'

-- a declaration that the form took: refused, or noted with what was said before
abbrev pub TookOf : List ℕ → Sofar → Declared → Reader → Result (Option (Tally × Reader)) Refusal → List ℕ → List ℕ → List ℕ → Type 0
TookOf text so d reader (Err g) rows bits work = ruled_out text so d ≡ some g
TookOf text so d reader (Ok None) rows bits work = ◌≡◌ {A = ℕ} 0 1
TookOf text so d reader (Ok (Some (n, r))) rows bits work =
    (r ≡ reader) × (ruled_out text so d ≡ none) × Noted text (added so d.index (said_by text so d.decl)) n rows bits work

pub record Took (text : List ℕ) (d : Declared) (reader : Reader) (n : Tally) (rows bits work : List ℕ) (r : Result (Option (Tally × Reader)) Refusal) (rows' bits' work' : List ℕ) : Type 0 where
  pub after : (so : Sofar) → Noted text so n rows bits work → TookOf text so d reader r rows' bits' work'

-- notes of something said, whose names have left their marks
pub record NotedMarked (text : List ℕ) (n : Tally) (rows bits work seen : List ℕ) : Type 0 where
  pub so : Sofar
  pub noted : Noted text so n rows bits work
  pub marked : NamesMarked seen so

-- one declaration more: the rest of the text gives what the whole gives
pub record Went (text : List ℕ) (so : Sofar) (k j : ℕ) (n : Tally) (rows bits work seen : List ℕ) : Type 0 where
  pub more : Sofar
  pub on : (f : ℕ) → declarations_from (suc f) text k so ≡ declarations_from f text j more
  pub noted : Noted text more n rows bits work
  pub marked : NamesMarked seen more
  pub knows : Knows so → Knows more

abbrev pub TakenOf : List ℕ → Sofar → ℕ → Tally → Result (Option (Tally × Reader)) Refusal → List ℕ → List ℕ → List ℕ → List ℕ → Type 0
TakenOf text so k n (Err g) rows bits work seen = (f : ℕ) → declarations_from (suc f) text k so ≡ stopped g
TakenOf text so k n (Ok None) rows bits work seen = ((f : ℕ) → declarations_from (suc f) text k so ≡ all so) × Noted text so n rows bits work
TakenOf text so k n (Ok (Some (m, r))) rows bits work seen = Went text so k r.next.at m rows bits work seen

pub record TakesOne (text : List ℕ) (k : ℕ) (n : Tally) (rows bits work seen : List ℕ) (r : Result (Option (Tally × Reader)) Refusal) (rows' bits' work' seen' : List ℕ) : Type 0 where
  pub after : (so : Sofar) → Noted text so n rows bits work → NamesMarked seen so → TakenOf text so k n r rows' bits' work' seen'

-- nothing noted yet
pub record Blank (words trits room : List ℕ) : Type 0 where
  pub rows : words ≡ zeros 26307
  pub bits : trits ≡ zeros 393728
  pub work : room ≡ zeros 132608

-- ALL DECLARATIONS
pub record Whole (text : List ℕ) (n : Tally) (rows bits work : List ℕ) : Type 0 where
  pub so : Sofar
  pub is : declarations_from (suc (length text)) text 0 nothing ≡ all so
  pub noted : Noted text so n rows bits work
  pub knows : Knows so

abbrev pub AllOf : List ℕ → Result Tally Refusal → List ℕ → List ℕ → List ℕ → Type 0
AllOf text (Err g) rows bits work = declarations_from (suc (length text)) text 0 nothing ≡ stopped g
AllOf text (Ok n) rows bits work = Whole text n rows bits work

pub record AllNoted (text : List ℕ) (r : Result Tally Refusal) (rows bits work : List ℕ) : Type 0 where
  pub after : AllOf text r rows bits work
