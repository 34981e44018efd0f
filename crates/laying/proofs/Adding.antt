-- What adding a piece or a constant to an operand asks, and the ways out of it.
-- Assumes nothing.
use Rattle.std.specs.Prelude.{Option, Some, None}
use mathlib.Core.Path.{◌≡◌, refl, ap, sym, subst, ◌∙◌}
use mathlib.Core.Bool.{true, false}
use mathlib.Core.List.{List, [], ◌∷◌, ◌++◌, append-nil}
use Prim.Native.Nat.{ℕ, ◌+◌, ◌*◌, ◌<◌, ◌≤◌}
use native.Mathlib.Omega.{arith}
use lib.ListN.{length, get_or, length-append}
use lib.Seq.{sets}
use Rattle.ground.proofs.Regions.{length_pad}
use Rattle.netlist.specs.Netlist.{const, piece, run_bits_of}
use Rattle.netlist.specs.Runs.{Bit, falling, known_bits, cut}
use Rattle.netlist.specs.Tables.{run_rows}
use Rattle.netlist.proofs.Lengths.{length_run_rows}
use Rattle.laying.specs.Growing.{Open, Opened, Grows, Added, last_row, last_is, last_is_from}
use Rattle.laying.specs.declared.Laid.{Laid}
use Rattle.laying.proofs.Melding.{cut_trits, cut_falling, cut_known}
use Rattle.laying.proofs.Keeping.{trits_append}
use Rattle.laying.proofs.Joining.{seen_piece, seen_constant, open_full, open_more, piece_joined, constant_joined, last_short}

-- THE ROOM that an operand with n bits to come has
module _ {first : ℕ} {runs trits : List ℕ} {so : Laid} {n : ℕ} (h : Opened first runs trits so n) where
  trits_used : so.trits ≤ length (run_bits_of h.rs) + length h.done
  trits_used =
      let f : so.trits ≡ length (run_bits_of (h.rs ++ cut h.done)) = h.stands.holds.filled in
      let e : length (run_bits_of (h.rs ++ cut h.done)) ≡ length (run_bits_of h.rs) + length (run_bits_of (cut h.done)) =
      ap length (trits_append h.rs (cut h.done)) ∙ length-append (run_bits_of h.rs) (run_bits_of (cut h.done)) in
      let t = cut_trits h.done in
      omega arith

  pub trits_room : so.trits + n ≤ 262656
  trits_room = let u = trits_used in omega (arith, h.room)

  pub trits_all : length trits ≡ 262656
  trits_all =
      let f : so.trits ≡ length (run_bits_of (h.rs ++ cut h.done)) = h.stands.holds.filled in
      let r = trits_room in
      ap length h.stands.holds.bits ∙ length_pad 262656 (run_bits_of (h.rs ++ cut h.done)) (omega arith)

  pub rows_few : so.runs ≤ 4096
  rows_few = omega (arith, h.stands.holds.count, h.stands.holds.long)

  pub rows_all : length runs ≡ 12288
  rows_all =
      let l = length_run_rows 0 (h.rs ++ cut h.done) in
      let g = h.stands.holds.long in
      ap length h.stands.holds.rows ∙ length_pad 12288 (run_rows 0 (h.rs ++ cut h.done)) (omega arith)

  pub last_room : first < so.runs → get_or runs (last_row so.runs + 2) 0 + n ≤ 256
  last_room l = let s = last_short h.stands l in omega (arith, h.narrow)

-- NOTHING
pub grows_none : {first : ℕ} {runs trits : List ℕ} {so : Laid} (new : List Bit) → new ≡ [] → Grows first runs trits so new (Some so) runs trits
grows_none {first} {runs} {trits} {so} new e =
    record { behind = λ rs done o. subst (λ (l : List Bit). Open rs l first runs trits so) (sym (ap (λ (l : List Bit). done ++ l) e ∙ append-nil done)) o }

-- A PIECE
pub piece_none : {first : ℕ} {runs trits : List ℕ} {so : Laid} (cell from w : ℕ) → w ≡ 0 → Grows first runs trits so (falling cell from w) (Some so) runs trits
unfolding falling
piece_none cell from w e = grows_none (falling cell from w) (ap (falling cell from) e)

module _ {first : ℕ} {runs trits : List ℕ} {so : Laid} (cell from w : ℕ) (wide : 0 < w) where
  pub piece_on : {runs' : List ℕ} → last_is_from runs first so.runs (cell + 1) (from + w) ≡ true → so.trits ≤ 262656
      → runs' ≡ sets runs (last_row so.runs) ((cell + 1) ∷ from ∷ (get_or runs (last_row so.runs + 2) 0 + w) ∷ [])
      → Grows first runs trits so (falling cell from w) (Some so) runs' trits
  piece_on t room e = record { behind = λ rs done o. piece_joined o cell from w wide (rw t at (seen_piece o cell from w)) e room }

  pub piece_added : (r : Option Laid) {runs' : List ℕ} → last_is_from runs first so.runs (cell + 1) (from + w) ≡ false → so.trits ≤ 262656
      → Added runs so ((cell + 1) ∷ from ∷ w ∷ []) 0 r runs' → Grows first runs trits so (falling cell from w) r runs' trits
  piece_added (Some so') t room e = record {
    behind = λ rs done o.
        open_more o (falling cell from w) (piece cell from w) (cut_falling cell from w wide) (rw t at (seen_piece o cell from w))
        e.few (omega arith) e.is refl e.count e.filled;
  }
  piece_added None t room e = record {
    behind = λ rs done o.
        open_full o (falling cell from w) (piece cell from w) (cut_falling cell from w wide) (rw t at (seen_piece o cell from w)) e;
  }

-- A CONSTANT of so many trits, which stand behind those in use
module _ {first : ℕ} {runs trits : List ℕ} {so : Laid} (ts : List ℕ) (size : ℕ) (long : length ts ≡ size) where
  pub constant_none : size ≡ 0 → Grows first runs trits so (known_bits ts) (Some so) runs (sets trits so.trits ts)
  unfolding known_bits
  constant_none z = go ts (omega arith)
    where
      go : (ts : List ℕ) → length ts ≡ 0 → Grows first runs trits so (known_bits ts) (Some so) runs (sets trits so.trits ts)
      go [] e = grows_none [] refl
      go (t ∷ ts) e = absurd (omega arith)

  module _ (wide : 0 < size) where
    pub constant_on : {runs' : List ℕ} {so' : Laid} → last_is runs first so.runs 0 ≡ true → so.trits + size ≤ 262656
        → runs' ≡ sets runs (last_row so.runs) (0 ∷ get_or runs (last_row so.runs + 1) 0 ∷ (get_or runs (last_row so.runs + 2) 0 + size) ∷ [])
        → so'.runs ≡ so.runs → so'.trits ≡ so.trits + size
        → Grows first runs trits so (known_bits ts) (Some so') runs' (sets trits so.trits ts)
    constant_on t room e c b =
        let f = e ∙ ap (λ (m : ℕ). sets runs (last_row so.runs) (0 ∷ get_or runs (last_row so.runs + 1) 0 ∷ (get_or runs (last_row so.runs + 2) 0 + m) ∷ [])) (sym long) in
        record { behind = λ rs done o. constant_joined o ts (omega arith) (rw t at (seen_constant o ts)) f refl (omega arith) c (omega arith) }

    pub constant_added : (r : Option Laid) {runs' : List ℕ} → last_is runs first so.runs 0 ≡ false → so.trits + size ≤ 262656
        → Added runs so (0 ∷ so.trits ∷ size ∷ []) size r runs' → Grows first runs trits so (known_bits ts) r runs' (sets trits so.trits ts)
    constant_added (Some so') t room e =
        let f = e.is ∙ ap (λ (m : ℕ). sets runs (3 * so.runs) (0 ∷ so.trits ∷ m ∷ [])) (sym long) in
        record {
          behind = λ rs done o.
              open_more o (known_bits ts) (const ts) (cut_known ts (omega arith)) (rw t at (seen_constant o ts))
              e.few (omega arith) f refl e.count (omega (arith, e.filled));
        }
    constant_added None t room e = record {
      behind = λ rs done o.
          open_full o (known_bits ts) (const ts) (cut_known ts (omega arith)) (rw t at (seen_constant o ts)) e;
    }
