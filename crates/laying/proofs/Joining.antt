-- A piece or a constant behind the bits of an operand that are laid.
-- Assumes nothing.
use mathlib.Core.Path.{◌≡◌, refl, ap, ap₂, sym, subst, ◌∙◌}
use mathlib.Core.Bool.{Bool, true, false}
use mathlib.Core.List.{List, [], ◌∷◌, ◌++◌, append_assoc, append-nil}
use Prim.Native.Nat.{ℕ, ◌+◌, ◌*◌, ◌<◌, ◌≤◌}
use native.Mathlib.Omega.{arith}
use lib.Dec.{eqb, ltb}
use lib.ListN.{length, get_or, length-append}
use lib.Seq.{sets}
use borrow.Author.Tests.{eqb-true, eqb-false, eq-eqb, ne_eqb, lt-ltb, le-ltb}
use Rattle.ground.specs.Choice.{pick}
use Rattle.ground.proofs.Bools.{bool_cases, never_both}
use Rattle.netlist.specs.Netlist.{Run, const, piece, bits_in, run_bits_of, run_width}
use Rattle.netlist.specs.Runs.{Bit, falling, known_bits, cut, joins}
use Rattle.netlist.specs.Tables.{run_row}
use Rattle.laying.specs.Holding.{Holds}
use Rattle.laying.specs.Growing.{Open, last_is, last_row, last_is_from}
use Rattle.laying.specs.declared.Laid.{Laid}
use Rattle.laying.proofs.Melding.{Ending, empty, last, ending, fuse, cut_joined, cut_apart, cut_first, cut_falling, cut_known, last_narrow}
use Rattle.laying.proofs.Keeping.{hold_more, hold_last, last_word}

-- whether the last run, where the operand has one, joins with the run q
pub record Seen (xs : List Run) (q : Run) (b : Bool) : Type 0 where
  pub none : xs ≡ [] → b ≡ false
  pub some : (front : List Run) (r : Run) → xs ≡ front ++ (r ∷ []) → b ≡ joins r q

module _ {rs : List Run} {done : List Bit} {first : ℕ} {runs trits : List ℕ} {so : Laid} (o : Open rs done first runs trits so) where
  -- the operand has no run yet
  not_yet : cut done ≡ [] → ltb first so.runs ≡ false
  not_yet e =
      let n : so.runs ≡ length (rs ++ []) = o.holds.count ∙ ap (λ (l : List Run). length (rs ++ l)) e in
      let l : length (rs ++ []) ≡ length rs = ap length (append-nil rs) in
      let b = o.begun in
      le-ltb first so.runs (omega arith)

  module _ (front : List Run) (r : Run) (e : cut done ≡ front ++ (r ∷ [])) where
    held_last : Holds ((rs ++ front) ++ (r ∷ [])) runs trits so
    held_last = subst (λ (l : List Run). Holds l runs trits so) (ap (λ (l : List Run). rs ++ l) e ∙ sym (append_assoc rs front (r ∷ []))) o.holds

    begun_last : ltb first so.runs ≡ true
    begun_last =
        let n : so.runs ≡ length ((rs ++ front) ++ (r ∷ [])) = held_last.count in
        let l = length-append (rs ++ front) (r ∷ []) in
        let m = length-append rs front in
        let b = o.begun in
        lt-ltb first so.runs (omega arith)

    -- its three words
    word : (i : ℕ) → i < 3 → get_or runs (last_row so.runs + i) 0 ≡ get_or (run_row (length (run_bits_of (rs ++ front))) r) i 0
    word i h = last_word (rs ++ front) r i h held_last

    head_word : get_or runs (last_row so.runs) 0 ≡ get_or (run_row (length (run_bits_of (rs ++ front))) r) 0 0
    head_word = let z : last_row so.runs + 0 ≡ last_row so.runs = omega arith in ap (λ (k : ℕ). get_or runs k 0) (sym z) ∙ word 0 (omega arith)

  -- WHAT THE CODE SEES in the last row is whether the runs join
  pub seen_constant : (ts : List ℕ) → Seen (cut done) (const ts) (last_is runs first so.runs 0)
  seen_constant ts = record { none = λ e. rw (not_yet e); some = λ front r e. rw (begun_last front r e) (go front r (head_word front r e)) }
    where
      go : (front : List Run) (r : Run) → get_or runs (last_row so.runs) 0 ≡ get_or (run_row (length (run_bits_of (rs ++ front))) r) 0 0
          → eqb (get_or runs (last_row so.runs) 0) 0 ≡ joins r (const ts)
      go front (const us) e = eq-eqb _ _ e
      go front (piece row o w) e = ne_eqb (get_or runs (last_row so.runs) 0) 0 (λ z. omega arith)

  pub seen_piece : (cell from w : ℕ) → Seen (cut done) (piece cell from w) (last_is_from runs first so.runs (cell + 1) (from + w))
  seen_piece cell from w = record {
    none = λ e. rw (not_yet e);
    some = λ front r e. rw (begun_last front r e) (go front r (head_word front r e) (word front r e 1 (omega arith)));
  }
    where
      go : (front : List Run) (r : Run) → get_or runs (last_row so.runs) 0 ≡ get_or (run_row (length (run_bits_of (rs ++ front))) r) 0 0
          → get_or runs (last_row so.runs + 1) 0 ≡ get_or (run_row (length (run_bits_of (rs ++ front))) r) 1 0
          → pick (eqb (get_or runs (last_row so.runs) 0) (cell + 1)) (eqb (get_or runs (last_row so.runs + 1) 0) (from + w)) false ≡ joins r (piece cell from w)
      go front (const us) e f = let z : eqb (get_or runs (last_row so.runs) 0) (cell + 1) ≡ false = ne_eqb (get_or runs (last_row so.runs) 0) (cell + 1) (λ z. omega arith) in rw z
      go front (piece row o' w') e f = bool_cases (eqb row cell)
          (λ y. let i = eqb-true row cell y in
          let g : eqb (get_or runs (last_row so.runs) 0) (cell + 1) ≡ true = eq-eqb (get_or runs (last_row so.runs) 0) (cell + 1) (omega arith) in
          rw (y, g, f))
          (λ n. let i = eqb-false row cell n in
          let g : eqb (get_or runs (last_row so.runs) 0) (cell + 1) ≡ false = ne_eqb (get_or runs (last_row so.runs) 0) (cell + 1) (λ z. i (omega arith)) in
          rw (n, g))

  -- A RUN OF ITS OWN
  module _ (new : List Bit) (q : Run) (one : cut new ≡ q ∷ []) (seen : Seen (cut done) q false) where
    apart : rs ++ cut (done ++ new) ≡ (rs ++ cut done) ++ (q ∷ [])
    apart = ap (λ (l : List Run). rs ++ l) (go (ending (cut done))) ∙ sym (append_assoc rs (cut done) (q ∷ []))
      where
        go : Ending (cut done) → cut (done ++ new) ≡ cut done ++ (q ∷ [])
        go (empty e) = cut_first done new q one e
        go (last front r e) = cut_apart done new q one front r e (sym (seen.some front r e))

    pub open_full : so.runs ≡ 4096 → 4096 < length (rs ++ cut (done ++ new))
    open_full h = let n = o.holds.count in rw (apart, length-append) (omega arith)

    pub open_more : {runs' trits' : List ℕ} {so' : Laid} → so.runs < 4096 → so.trits + length (bits_in q) ≤ 262656
        → runs' ≡ sets runs (3 * so.runs) (run_row so.trits q) → trits' ≡ sets trits so.trits (bits_in q)
        → so'.runs ≡ so.runs + 1 → so'.trits ≡ so.trits + length (bits_in q)
        → Open rs (done ++ new) first runs' trits' so'
    open_more few room e f c t = record { begun = o.begun; holds = rw apart (hold_more q o.holds few room e f c t) }

  -- A LONGER LAST RUN
  module _ (new : List Bit) (q : Run) (one : cut new ≡ q ∷ []) (front : List Run) (r : Run) (e : cut done ≡ front ++ (r ∷ [])) (j : joins r q ≡ true) where
    together : rs ++ cut (done ++ new) ≡ (rs ++ front) ++ (fuse r q ∷ [])
    together = ap (λ (l : List Run). rs ++ l) (cut_joined done new q one front r e j) ∙ sym (append_assoc rs front (fuse r q ∷ []))

    open_last : {runs' trits' : List ℕ} {so' : Laid} (xs : List ℕ) → bits_in (fuse r q) ≡ bits_in r ++ xs → so.trits + length xs ≤ 262656
        → runs' ≡ sets runs (last_row so.runs) (run_row (length (run_bits_of (rs ++ front))) (fuse r q)) → trits' ≡ sets trits so.trits xs
        → so'.runs ≡ so.runs → so'.trits ≡ so.trits + length xs
        → Open rs (done ++ new) first runs' trits' so'
    open_last xs b room f g c t = record { begun = o.begun; holds = rw together (hold_last (rs ++ front) r (fuse r q) xs (held_last front r e) b room f g c t) }

  -- a piece that the last one continues into
  pub piece_joined : (cell from w : ℕ) {runs' : List ℕ} → 0 < w → Seen (cut done) (piece cell from w) true
      → runs' ≡ sets runs (last_row so.runs) ((cell + 1) ∷ from ∷ (get_or runs (last_row so.runs + 2) 0 + w) ∷ [])
      → so.trits ≤ 262656
      → Open rs (done ++ falling cell from w) first runs' trits so
  piece_joined cell from w {runs'} wide seen f room = go (ending (cut done))
    where
      on : (front : List Run) (r : Run) → cut done ≡ front ++ (r ∷ []) → true ≡ joins r (piece cell from w) → Open rs (done ++ falling cell from w) first runs' trits so
      on front (const us) e j = never_both (sym j) refl
      on front (piece row' o' w') e j =
          let k : get_or runs (last_row so.runs + 2) 0 ≡ w' = word front (piece row' o' w') e 2 (omega arith) in
          let s : get_or runs (last_row so.runs + 2) 0 + w ≡ w + w' = omega arith in
          open_last (falling cell from w) (piece cell from w) (cut_falling cell from w wide) front (piece row' o' w') e (sym j) []
          refl (omega arith) (f ∙ ap (λ (m : ℕ). sets runs (last_row so.runs) ((cell + 1) ∷ from ∷ m ∷ [])) s) refl refl (omega arith)

      go : Ending (cut done) → Open rs (done ++ falling cell from w) first runs' trits so
      go (empty e) = never_both refl (seen.none e)
      go (last front r e) = on front r e (seen.some front r e)

  -- a constant behind a constant
  pub constant_joined : (ts : List ℕ) {runs' trits' : List ℕ} {so' : Laid} → 0 < length ts → Seen (cut done) (const ts) true
      → runs' ≡ sets runs (last_row so.runs) (0 ∷ get_or runs (last_row so.runs + 1) 0 ∷ (get_or runs (last_row so.runs + 2) 0 + length ts) ∷ [])
      → trits' ≡ sets trits so.trits ts → so.trits + length ts ≤ 262656
      → so'.runs ≡ so.runs → so'.trits ≡ so.trits + length ts
      → Open rs (done ++ known_bits ts) first runs' trits' so'
  constant_joined ts {runs'} {trits'} {so'} wide seen f g room c t = go (ending (cut done))
    where
      on : (front : List Run) (r : Run) → cut done ≡ front ++ (r ∷ []) → true ≡ joins r (const ts) → Open rs (done ++ known_bits ts) first runs' trits' so'
      on front (piece row' o' w') e j = never_both (sym j) refl
      on front (const us) e j =
          let b : get_or runs (last_row so.runs + 1) 0 ≡ length (run_bits_of (rs ++ front)) = word front (const us) e 1 (omega arith) in
          let k : get_or runs (last_row so.runs + 2) 0 ≡ length us = word front (const us) e 2 (omega arith) in
          let s : get_or runs (last_row so.runs + 2) 0 + length ts ≡ length (us ++ ts) = rw length-append (omega arith) in
          open_last (known_bits ts) (const ts) (cut_known ts wide) front (const us) e (sym j) ts
          refl room (f ∙ ap₂ (λ a m. sets runs (last_row so.runs) (0 ∷ a ∷ m ∷ [])) b s) g c t

      go : Ending (cut done) → Open rs (done ++ known_bits ts) first runs' trits' so'
      go (empty e) = never_both refl (seen.none e)
      go (last front r e) = on front r e (seen.some front r e)

  -- THE WIDTH OF THE LAST RUN
  pub last_short : first < so.runs → get_or runs (last_row so.runs + 2) 0 ≤ length done
  last_short h = go (ending (cut done))
    where
      width : (front : List Run) (r : Run) → get_or (run_row (length (run_bits_of (rs ++ front))) r) 2 0 ≡ run_width r
      width front (const us) = refl
      width front (piece row o w) = refl

      go : Ending (cut done) → get_or runs (last_row so.runs + 2) 0 ≤ length done
      go (empty e) = never_both (lt-ltb first so.runs h) (not_yet e)
      go (last front r e) = let w = word front r e 2 (omega arith) ∙ width front r in let n = last_narrow done front r e in omega arith
