-- The whole list: constants and inputs, the rows in their order, the outputs.
use mathlib.Core.Path.{◌≡◌, refl, sym}
use mathlib.Core.List.{List, [], ◌++◌, append_assoc, append-nil}
use Prim.Native.Nat.{ℕ, ◌+◌, ◌*◌, ◌≤◌}
use native.Mathlib.Omega.{arith}
use lib.ListN.{length}
use Rattle.ground.specs.Lists.{up_from}
use Rattle.netlist.specs.Netlist.{Run}
use Rattle.loadlist.specs.declared.Record.{Record}
use Rattle.cells.specs.Held.{held_bits}
use Rattle.recording.specs.Making.{Puts}
use Rattle.assigning.specs.Rows.{input_in, rows_total}
use Rattle.evaluating.specs.InTables.{outputs_in, starts_in}
use Rattle.translating.specs.Translation.{constants, input_records, output_records}
use Rattle.translating.specs.InTables.{records_in, slots_in, first_slots, translation_in}
use Rattle.translating.specs.Sound.{Roomy, Listed}
use Rattle.translating.proofs.Counting.{length_inputs}
use Rattle.translating.proofs.Listing.{Left, left_whole, left_on, left_none, left_room}
use Rattle.translating.proofs.Rowing.{listed_puts}

module _ (cells : List ℕ) (pool : List Run) (n : ℕ) (L : List ℕ) (starts slots : List ℕ) (inputs : ℕ) (s : starts ≡ starts_in cells n) (f : slots ≡ first_slots cells n) (i : inputs ≡ rows_total input_in n cells) where
  abbrev whole : List Record
  whole = translation_in cells pool n L

  abbrev front : List Record
  front = constants ++ input_records (up_from 0 inputs)

  abbrev middle : List Record
  middle = records_in L cells pool starts (3 + inputs) slots

  abbrev last : List ℕ → List Record
  last held = output_records (outputs_in n cells pool (held_bits starts held)) 0

  abbrev done : List ℕ
  done = slots_in L cells pool starts (3 + inputs) slots

  parts : whole ≡ front ++ (middle ++ last done)
  unfolding translation_in
  parts = rw (s, f, i) (sym (append_assoc constants (input_records (up_from 0 (rows_total input_in n cells))) _))

  front_long : length front ≡ 3 + inputs
  front_long = omega (arith, length_inputs inputs 0)

  module _ {list : List ℕ} (r : Roomy list 0 whole) where
    pub front_room : 8 * (3 + inputs) ≤ length list
    front_room = let q : Roomy list 0 front = left_room (left_whole list 0 whole) (middle ++ last done) parts r in omega (arith, front_long, q.bytes)

    module _ {list₁ : List ℕ} (p : Puts list 0 front list₁) where
      begun : Left list 0 whole list₁ (3 + inputs) (middle ++ last done)
      begun = left_on (left_whole list 0 whole) parts p (omega (arith, front_long))

      pub middle_room : Roomy list₁ (3 + inputs) middle
      middle_room = left_room begun (last done) refl r

      module _ {k : ℕ} {list₂ : List ℕ} (m : Listed list₁ (3 + inputs) middle k list₂) (held : List ℕ) (h : held ≡ done) where
        going : Left list 0 whole list₂ k (last held)
        going = rw h (left_on begun refl (listed_puts m) m.next_is)

        pub last_room : Roomy list₂ k (last held)
        last_room = left_room going [] (sym (append-nil (last held))) r

        pub all_put : {list₃ : List ℕ} → Puts list₂ k (last held) list₃ → Puts list 0 whole list₃
        all_put q = left_none (left_on going (sym (append-nil (last held))) q refl) refl
