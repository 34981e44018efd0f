-- The words of a row, and the number of its records.
use mathlib.Core.Path.{◌≡◌, sym, ap, ap₂, ◌∙◌, subst}
use mathlib.Core.List.{List}
use Prim.Native.Nat.{ℕ, ◌+◌, ◌-◌, ◌*◌, ◌≤◌}
use native.Mathlib.Omega.{arith}
use lib.ListN.{length, take, drop, get_or}
use lib.Seq.{sets, get_or-drop}
use Rattle.ground.specs.Regions.{part}
use Rattle.ground.specs.Writes.{Put}
use Rattle.ground.proofs.Writes.{put_length}
use Rattle.kinds.specs.Kinds.{kind_at}
use Rattle.netlist.specs.Netlist.{Run, operand_width}
use Rattle.cells.specs.Operands.{bits_from}
use Rattle.cells.specs.Records.{Made, kind_made}
use Rattle.cells.proofs.Linking.{length_bits}
use Rattle.loadlist.specs.declared.Record.{Record}
use Rattle.recording.specs.Making.{Puts}
use Rattle.placing.specs.Placing.{output_from}
use Rattle.assigning.proofs.Laws.{row_kind}
use Rattle.valuing.specs.Row.{cell_of}
use Rattle.valuing.proofs.Laws.{row_word, an_output, taken_back}
use Rattle.translating.specs.InTables.{row_sum, made_from}
use Rattle.translating.specs.Sound.{Listed}

module _ (pool : List Run) (cells : List ℕ) (row : ℕ) where
  abbrev word : ℕ → ℕ
  word i = get_or cells (row * 9 + i) 0

  pub first_is : (cell_of pool (drop (row * 9) cells)).a ≡ part (word 5) (word 6) pool
  first_is = rw (get_or-drop (row * 9) cells 5 0, get_or-drop (row * 9) cells 6 0)

  pub second_is : (cell_of pool (drop (row * 9) cells)).b ≡ part (word 5 + word 6) (word 7) pool
  second_is = rw (get_or-drop (row * 9) cells 5 0, get_or-drop (row * 9) cells 6 0, get_or-drop (row * 9) cells 7 0)

  pub third_is : (cell_of pool (drop (row * 9) cells)).c ≡ part (word 5 + word 6 + word 7) (word 8) pool
  third_is = rw (get_or-drop (row * 9) cells 5 0, get_or-drop (row * 9) cells 6 0, get_or-drop (row * 9) cells 7 0, get_or-drop (row * 9) cells 8 0)

  -- the widths of the operands, by the words that were read
  pub first_at : (f x : ℕ) → f ≡ word 5 → x ≡ word 6 → operand_width (cell_of pool (drop (row * 9) cells)).a ≤ 256 → operand_width (part f x pool) ≤ 256
  first_at f x p q h = rw (p, q) (subst (λ (r : List Run). operand_width r ≤ 256) first_is h)

  pub second_at : (f x y : ℕ) → f ≡ word 5 → x ≡ word 6 → y ≡ word 7 → operand_width (cell_of pool (drop (row * 9) cells)).b ≤ 256 → operand_width (part (f + x) y pool) ≤ 256
  second_at f x y p q r h = rw (p, q, r) (subst (λ (l : List Run). operand_width l ≤ 256) second_is h)

  pub third_at : (f x y z : ℕ) → f ≡ word 5 → x ≡ word 6 → y ≡ word 7 → z ≡ word 8 → operand_width (cell_of pool (drop (row * 9) cells)).c ≤ 256 → operand_width (part (f + x + y) z pool) ≤ 256
  third_at f x y z p q r s h = rw (p, q, r, s) (subst (λ (l : List Run). operand_width l ≤ 256) third_is h)

  pub row_sum_lem : (kind w x : ℕ) → kind ≡ get_or cells (row * 9) 0 → w ≡ word 1 → x ≡ operand_width (part (word 5) (word 6) pool) → (kind_at kind).records w x ≡ row_sum pool (drop (row * 9) cells)
  unfolding row_sum
  row_sum_lem kind w x p q r = rw (p, q, r) (rw (row_kind cells row, get_or-drop (row * 9) cells 1 0, get_or-drop (row * 9) cells 5 0, get_or-drop (row * 9) cells 6 0))

  -- what a row makes, by its words
  pub row_made : (held : ℕ → List ℕ) (k kind : ℕ) (a b c : List ℕ) → kind ≡ get_or cells (row * 9) 0 → a ≡ bits_from held (part (word 5) (word 6) pool)
      → b ≡ bits_from held (part (word 5 + word 6) (word 7) pool) → c ≡ bits_from held (part (word 5 + word 6 + word 7) (word 8) pool)
      → kind_made kind k a b c ≡ made_from held (cell_of pool (drop (row * 9) cells)) k
  unfolding made_from
  row_made held k kind a b c p q r s =
      rw (p, q, r, s) (rw (row_kind cells row, get_or-drop (row * 9) cells 5 0, get_or-drop (row * 9) cells 6 0, get_or-drop (row * 9) cells 7 0, get_or-drop (row * 9) cells 8 0))

  pub row_gathered : (held : ℕ → List ℕ) (k kind f x y z : ℕ) (a b c : List ℕ) → kind ≡ get_or cells (row * 9) 0 → f ≡ word 5 → x ≡ word 6 → y ≡ word 7 → z ≡ word 8
      → a ≡ bits_from held (part f x pool) → b ≡ bits_from held (part (f + x) y pool) → c ≡ bits_from held (part (f + x + y) z pool)
      → kind_made kind k a b c ≡ made_from held (cell_of pool (drop (row * 9) cells)) k
  row_gathered held k kind f x y z a b c e p q r s ea eb ec =
      row_made held k kind a b c e (ea ∙ rw (p, q)) (eb ∙ rw (p, q, r)) (ec ∙ rw (p, q, r, s))

-- AN OPERAND GATHERED into a lent slice that is long enough
module _ (held : ℕ → List ℕ) (pool : List Run) (from size : ℕ) {old new : List ℕ} {n : ℕ} (p : Put old 0 (bits_from held (part from size pool)) n new) (l : length new ≡ 256)
    (w : operand_width (part from size pool) ≤ 256) where
  pub operand_count : n ≡ operand_width (part from size pool)
  operand_count = omega (arith, p.next, length_bits held (part from size pool))

  pub operand_long : n ≤ length new
  operand_long = omega (arith, operand_count)

  pub operand_is : take (n - 0) new ≡ bits_from held (part from size pool)
  operand_is =
      let e : n - 0 ≡ n = omega arith in
      rw e (taken_back old (bits_from held (part from size pool)) new n p (omega (arith, put_length p, length_bits held (part from size pool))))

-- AN OUTPUT'S BITS, by the words of its row
pub output_bits : (held : ℕ → List ℕ) (pool : List Run) (cells : List ℕ) (row from size : ℕ) → get_or cells (row * 9) 0 ≡ 2 → from ≡ get_or cells (row * 9 + 5) 0 → size ≡ get_or cells (row * 9 + 6) 0
    → bits_from held (part from size pool) ≡ output_from held (cell_of pool (drop (row * 9) cells))
output_bits held pool cells row from size k p q = rw (p, q) (sym (an_output cells pool held row (row_word cells row ∙ k) ∙ ap (bits_from held) (first_is pool cells row)))

-- the same slots, room and records, told in another way
pub room_as : {m m' : Made} {s s' n : ℕ} → m ≡ m' → s ≡ s' → n ≡ 4096 → s' + length m'.outs ≤ 4096 → s + length m.outs ≤ n
room_as e p q h = rw (e, p, q) h

pub slots_as : (old : List ℕ) {new : List ℕ} {s s' : ℕ} {m m' : Made} → new ≡ sets old s m.outs → m ≡ m' → s ≡ s' → new ≡ sets old s' m'.outs
slots_as old {new} {s} {s'} {m} {m'} e d h = e ∙ ap₂ (λ (i : ℕ) (x : Made). sets old i x.outs) h d

pub puts_as : {old new : List ℕ} {k : ℕ} {rs ss : List Record} → rs ≡ ss → Puts old k rs new → Puts old k ss new
puts_as {old} {new} {k} e p = subst (λ (x : List Record). Puts old k x new) e p

pub listed_as : {old new : List ℕ} {k next : ℕ} {rs ss : List Record} → rs ≡ ss → Listed old k rs next new → Listed old k ss next new
listed_as {old} {new} {k} {next} e p = subst (λ (x : List Record). Listed old k x next new) e p
