-- A cell as it is noted: what its row says, the limits that are tested before its operands are laid, and what stands afterwards.
use Rattle.ground.specs.declared.Refusal.{Refusal}
use Rattle.std.specs.Prelude.{◌≡◌, ℕ, ◌+◌, ◌*◌, ◌<◌, ◌≤◌, Bool, true, false, ◌&&◌, ◌||◌, List, [], ◌∷◌, ◌++◌, leb, ltb, eqb, length, get_or, set, Result, Ok, Err, Option}
use Rattle.std.proofs.lemmas.List.Edits.{sets}
use Rattle.ground.specs.Choice.{pick}
use Rattle.ground.specs.Lists.{joined}
use Rattle.ground.specs.Refusals.{refusal}
use Rattle.ground.specs.Regions.{pad, part}
use Rattle.kinds.specs.Kinds.{kind_at, output_kind}
use Rattle.form.specs.declared.Wiring.{Wiring}
use Rattle.ground.specs.declared.Place.{Place}
use Rattle.netlist.specs.Netlist.{Run}
use Rattle.netlist.specs.Rules.{taken, names_as, roomy}
use Rattle.saying.specs.Values.{row_of, name_in, operand_runs}
use Rattle.saying.specs.Notes.{CellNote, cell_note, cells_said, SpellCells, operand_word, Maps}
use Rattle.saying.specs.Rules.{Sofar, declares, cell_of, pieces_of, with_cell}
use Rattle.laying.specs.Holding.{Holds, CellAfter}
use Rattle.laying.specs.Bare.{cell_bare, CellTellsBare}
use Rattle.laying.specs.declared.Laid.{Laid}
use Rattle.laying.specs.declared.Counts.{Counts}
use Rattle.noting.specs.Noted.{cells_in, runs_in, run_trits_in, cell_map_in, meta_map_in, places_in, Noted}
use Rattle.noting.specs.declared.Tally.{Tally}

-- n words from a on are written over, and all else stands as it stood
pub record SameBut (a n : ℕ) (old new : List ℕ) : Type 0 where
  pub long : length new ≡ length old
  pub before : (s k : ℕ) → s + k ≤ a → part s k new ≡ part s k old
  pub after : (s k : ℕ) → a + n ≤ s → part s k new ≡ part s k old

-- RULE 9, by the tables
abbrev pub Twice : List ℕ → Wiring → ℕ → ℕ → List ℕ → List ℕ → Bool → Type 0
Twice text w index n rows work r =
    (numbers : List ℕ) (ns : List CellNote) → Maps numbers (cell_map_in work) → index < 65536
    → cells_in rows ≡ pad 4608 (joined cell_note ns) → n ≡ length ns → SpellCells text ns
    → r ≡ (declares numbers index || ((kind_at w.kind).named && taken (name_in text (kind_at w.kind).named w.name) (names_as w.kind (cells_said ns))))

-- the name of a cell, where its kind has one
abbrev pub name_from : Wiring → ℕ
name_from w = pick (kind_at w.kind).named w.name.from 0

abbrev pub name_size : Wiring → ℕ
name_size w = pick (kind_at w.kind).named w.name.size 0

-- RULE 11
abbrev pub nameless : Wiring → Bool
nameless w = (kind_at w.kind).named && eqb w.name.size 0

-- the bits that a cell puts out
abbrev pub out_bits : Wiring → ℕ
out_bits w = pick (eqb w.kind output_kind) w.a.width 0

-- RULE 13 but for the runs: a limit that the cell would pass
unfoldable pub tight : Tally → Wiring → Bool
tight n w =
    pick (leb 512 n.cells) true
    (pick (ltb 4096 (n.declared + w.width)) true
    (pick (ltb 4096 (n.outputs + out_bits w)) true
    (pick (ltb 255 (name_size w)) true
    (ltb 16384 (n.strings + name_size w)))))

-- what is counted with the cell
abbrev pub tally_with : Tally → Wiring → Laid → Bool → Tally
tally_with n w so bare = record {
  metas = n.metas;
  ios = n.ios;
  cells = n.cells + 1;
  members = n.members;
  trits = n.trits;
  runs = so.runs;
  known = so.trits;
  declared = n.declared + w.width;
  outputs = n.outputs + out_bits w;
  strings = n.strings + name_size w;
  bare = n.bare || bare;
}

-- THE ROW, and where its operands are read
abbrev pub cell_words : Wiring → ℕ → Counts → List ℕ
cell_words w meta n = w.kind ∷ w.width ∷ name_from w ∷ name_size w ∷ meta ∷ 0 ∷ n.a ∷ n.b ∷ n.c ∷ []

abbrev pub place_words : Wiring → List ℕ
place_words w = operand_word w.a ∷ operand_word w.b ∷ operand_word w.c ∷ []

-- numbers that a word of a row holds
pub record RowFits (w : Wiring) (n : Counts) : Type 0 where
  pub from : name_from w < 65536
  pub size : name_size w < 65536
  pub a : n.a < 65536
  pub b : n.b < 65536
  pub c : n.c < 65536

pub record PlacesFit (w : Wiring) : Type 0 where
  pub a : w.a.given ≡ true → w.a.at < 65536
  pub b : w.b.given ≡ true → w.b.at < 65536
  pub c : w.c.given ≡ true → w.c.at < 65536

-- THE WORK SPACE with the cell in row n
pub record WorkWith (n index : ℕ) (w : Wiring) (old new : List ℕ) : Type 0 where
  pub long : length new ≡ length old
  pub places : places_in new ≡ sets (places_in old) (n * 3) (place_words w)
  pub numbered : cell_map_in new ≡ set (cell_map_in old) index (n + 1)
  pub metas : meta_map_in new ≡ meta_map_in old

-- THE OPERANDS are laid in their regions
pub record RunsWith (text : List ℕ) (w : Wiring) (so : Laid) (rows bits : List ℕ) (r : Option Counts) (rows' bits' : List ℕ) : Type 0 where
  pub laid : (rs : List Run) → Holds rs (runs_in rows) (run_trits_in bits) so
      → CellAfter rs (operand_runs text w.a) (operand_runs text w.b) (operand_runs text w.c) r (runs_in rows') (run_trits_in bits')
  pub tells : CellTellsBare (cell_bare text w) r
  pub kept_rows : SameBut 14019 12288 rows rows'
  pub kept_bits : SameBut 131072 262656 bits bits'

abbrev pub laid_of : Tally → Laid
laid_of n = record { runs = n.runs; trits = n.known }

-- a cell that passed the rules 9 to 12 and every limit but that of the runs
pub record Passed (w : Wiring) (n : Tally) : Type 0 where
  pub named : nameless w ≡ false
  pub fits : (kind_at w.kind).widths w.width w.a.width w.b.width w.c.width ≡ true
  pub room : tight n w ≡ false

-- WHAT IS KEPT: the cell is noted; or there are too many runs
abbrev pub said_with : List ℕ → Sofar → ℕ → Wiring → Sofar
said_with text so index w = with_cell so index (cell_of text so w) (pieces_of text w)

abbrev pub Kept : List ℕ → Sofar → ℕ → Place → Wiring → Result Tally Refusal → List ℕ → List ℕ → List ℕ → Type 0
Kept text so index place w (Err g) rows bits work = (g ≡ refusal 13 place) × (roomy (said_with text so index w).netlist ≡ false)
Kept text so index place w (Ok n) rows bits work = (roomy (said_with text so index w).netlist ≡ true) × Noted text (said_with text so index w) n rows bits work

-- whatever was said before, where the number is new
abbrev pub Keeps : List ℕ → ℕ → Place → Wiring → Tally → List ℕ → List ℕ → List ℕ → Result Tally Refusal → List ℕ → List ℕ → List ℕ → Type 0
Keeps text index place w n rows bits work r rows' bits' work' =
    (so : Sofar) → Noted text so n rows bits work → row_of so.cell_numbers index ≡ 0 → Kept text so index place w r rows' bits' work'
