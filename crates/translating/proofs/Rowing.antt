-- The rows of an order, made one after the other.
use mathlib.Core.Path.{◌≡◌, refl, sym, ap, ◌∙◌}
use mathlib.Core.List.{List, [], ◌∷◌, ◌++◌}
use Prim.Native.Nat.{ℕ, ◌+◌, ◌-◌, ◌<◌, ◌≤◌}
use native.Mathlib.Omega.{arith}
use lib.ListN.{length, take, drop, get_or, length-take}
use lib.Seq.{sets, length-sets, get_or-take, length-take-le}
use Rattle.ground.proofs.Rest.{rest_cons, rest_end}
use Rattle.netlist.specs.Netlist.{Run}
use Rattle.loadlist.specs.declared.Record.{Record}
use Rattle.cells.specs.Records.{Made}
use Rattle.recording.specs.Making.{Puts, Recorded, recorded, recorded_of}
use Rattle.valuing.proofs.Laws.{put_behind}
use Rattle.translating.specs.InTables.{row_made, records_in, slots_in}
use Rattle.translating.specs.Sound.{Roomy, Listed}
use Rattle.translating.proofs.Listing.{Left, left_whole, left_on, left_none, left_next, left_room}

pub listed_puts : {old : List ℕ} {k : ℕ} {rs : List Record} {next : ℕ} {new : List ℕ} → Listed old k rs next new → Puts old k rs new
listed_puts l = record { is = l.is }

-- A CELL: its slots are put where its bits begin
module _ (m : Made) (k : ℕ) (old outs : List ℕ) {r : ℕ} {new outs' : List ℕ} (e : recorded r new outs' ≡ recorded_of m k old outs) where
  pub cell_listed : Listed old k m.records (k + r) new
  cell_listed = record { is = ap (λ (x : Recorded). x.list) e; next_is = ap (λ (x : Recorded). k + x.count) e }

  pub cell_slots : (slots : List ℕ) (start : ℕ) → outs ≡ take (length slots - start) (drop start slots) → start + length m.outs ≤ length slots
      → take start slots ++ (outs' ++ drop (length slots - start) (drop start slots)) ≡ sets slots start m.outs
  cell_slots slots start d h =
      let x : outs' ≡ sets (take (length slots - start) (drop start slots)) 0 m.outs = ap (λ (y : Recorded). y.outs) e ∙ ap (λ (l : List ℕ). sets l 0 m.outs) d in
      (put_behind slots start m.outs outs' (0 + length m.outs) (omega arith) h (record { next = refl; holds = x })).holds

-- THE FIRST i ROWS OF THE ORDER ARE MADE
pub record Rowed (cells : List ℕ) (pool : List Run) (starts order : List ℕ) (count from : ℕ) (old first : List ℕ) (i k : ℕ) (list slots : List ℕ) : Type 0 where
  pub lists : Left old from (records_in (take count order) cells pool starts from first) list k (records_in (drop i (take count order)) cells pool starts k slots)
  pub held : slots_in (drop i (take count order)) cells pool starts k slots ≡ slots_in (take count order) cells pool starts from first
  pub wide : length slots ≡ length first

pub rowed_none : (cells : List ℕ) (pool : List Run) (starts order : List ℕ) (count from : ℕ) (old first : List ℕ) → Rowed cells pool starts order count from old first 0 from old first
rowed_none cells pool starts order count from old first = record { lists = left_whole old from _; held = refl; wide = refl }

module _ {cells : List ℕ} {pool : List Run} {starts order : List ℕ} {count from : ℕ} {old first : List ℕ} {i k : ℕ} {list slots : List ℕ}
    (w : Rowed cells pool starts order count from old first i k list slots) where
  module _ (c : count ≤ length order) (h : i < count) (row : ℕ) (r : row ≡ get_or order i 0) where
    abbrev mine : Made
    mine = row_made cells pool starts slots row k

    abbrev after : List ℕ
    after = sets slots (get_or starts row 0) mine.outs

    next_row : drop i (take count order) ≡ row ∷ drop (i + 1) (take count order)
    next_row =
        let L = take count order in
        let l : i < length L = omega (arith, length-take-le count order c) in
        rest_cons L i l ∙ ap (λ (x : ℕ). x ∷ drop (i + 1) L) (get_or-take count order i 0 h ∙ sym r)

    split : records_in (drop i (take count order)) cells pool starts k slots
        ≡ mine.records ++ records_in (drop (i + 1) (take count order)) cells pool starts (k + length mine.records) after
    unfolding records_in
    split = rw next_row

    pub rowed_room : Roomy old from (records_in (take count order) cells pool starts from first) → Roomy list k mine.records
    rowed_room = left_room w.lists _ split

    pub rowed_more : {next : ℕ} {list' slots' : List ℕ} → Listed list k mine.records next list' → slots' ≡ after → Rowed cells pool starts order count from old first (i + 1) next list' slots'
    unfolding slots_in
    rowed_more {next} {list'} {slots'} l s = rw (s, l.next_is) (record {
      lists = left_on w.lists split (listed_puts l) refl;
      held = rw (next_row, slots_in) at w.held;
      wide = length-sets slots (get_or starts row 0) mine.outs ∙ w.wide;
    })

  module _ (h : count ≤ i) where
    ended : drop i (take count order) ≡ []
    ended = rest_end (take count order) i (rw length-take (omega arith))

    empty : records_in (drop i (take count order)) cells pool starts k slots ≡ []
    unfolding records_in
    empty = rw ended

    pub rowed_all : Listed old from (records_in (take count order) cells pool starts from first) k list
    rowed_all = record { is = (left_none w.lists empty).is; next_is = left_next w.lists empty }

    pub rowed_slots : slots ≡ slots_in (take count order) cells pool starts from first
    unfolding slots_in
    rowed_slots = rw (ended, slots_in) at w.held
