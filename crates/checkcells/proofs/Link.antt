-- The walk over cell rows comes to its end exactly where they are laid out as the cells that they show, which are sound.
use Rattle.std.specs.Prelude.{Option, Some, None}
use mathlib.Core.Path.{◌≡◌, refl, sym, ap, ◌∙◌}
use mathlib.Core.Bool.{Bool, true}
use mathlib.Core.List.{List, [], ◌∷◌, ◌++◌, append_assoc}
use Prim.Native.Nat.{ℕ, zero, suc, ◌+◌, ◌*◌, ◌≤◌}
use native.Mathlib.Omega.{arith}
use native.Mathlib.Nat.{add-zero}
use lib.ListN.{length, drop, length-append, length-drop}
use Rattle.ground.specs.Lists.{every, joined, total}
use Rattle.ground.specs.Regions.{blank, fits, part}
use Rattle.ground.proofs.Bools.{bool_cases, every_first, every_more}
use Rattle.ground.proofs.Rest.{rest_rest}
use Rattle.netlist.specs.Netlist.{Run, Cell, cell_runs, runs_of, run_bits_of}
use Rattle.netlist.specs.Rules.{cell_sound, output_bits, short_string, widths_of}
use Rattle.netlist.specs.Tables.{Tables, run_rows, cell_row, cell_rows}
use Rattle.netlist.specs.View.{word, pool_in, cell_in, cells_in}
use Rattle.netlist.proofs.Lengths.{run_bits_append}
use Rattle.checkmeta.proofs.Fits.{fits_word, fits_first, part_rest}
use Rattle.checkcells.specs.Runs.{widths_in}
use Rattle.checkcells.specs.Walk.{cell_good, cells_walk}
use Rattle.checkcells.proofs.Laws.{Placed}
use Rattle.checkcells.proofs.CellLink.{Pools, Shown, placed_shown, good_told, sound_good, rows_append, bits_append, length_runs_in}

abbrev pub cells_from : Tables → ℕ → ℕ → List Cell
cells_from T i n = cells_in T (pool_in T) n (drop (i * 9) T.cells)

abbrev pub names_of : List Cell → List ℕ
names_of cs = joined (λ c. c.name) cs

abbrev pub short_cell : Cell → Bool
short_cell c = short_string c.name

-- the widths in the rows are those of the cells
pub widths_are : (T : Tables) (pool : List Run) (n : ℕ) (t : List ℕ) → widths_in n t ≡ widths_of (cells_in T pool n t)
unfolding widths_in cells_in
widths_are T pool zero t = refl
widths_are T pool (suc n) t = ap (λ (l : List ℕ). word t 1 ∷ l) (widths_are T pool n (drop 9 t))

next_row : (i : ℕ) (rows : List ℕ) → drop 9 (drop (i * 9) rows) ≡ drop ((i + 1) * 9) rows
next_row i rows = let e : i * 9 + 9 ≡ (i + 1) * 9 = omega arith in rest_rest rows (i * 9) 9 ∙ ap (λ (k : ℕ). drop k rows) e

-- WHAT A WALK THAT COMES TO ITS END TELLS
pub record Laid (T : Tables) (ws : List ℕ) (metas i s r b d o n x y z v w : ℕ) : Type 0 where
  pub rows : fits (cell_rows s r (cells_from T i n)) (drop (i * 9) T.cells) ≡ true
  pub strings : drop s T.strings ≡ names_of (cells_from T i n) ++ drop x T.strings
  pub runs : drop (r * 3) T.runs ≡ run_rows b (runs_of (cells_from T i n)) ++ drop (y * 3) T.runs
  pub bits : drop b T.run_bits ≡ run_bits_of (runs_of (cells_from T i n)) ++ drop z T.run_bits
  pub many : y ≡ r + length (runs_of (cells_from T i n))
  pub wide : v ≡ d + total (λ (c : Cell). c.width) (cells_from T i n)
  pub outs : w ≡ o + total output_bits (cells_from T i n)
  pub sound : every (cell_sound ws metas) (cells_from T i n) ≡ true
  pub short : every short_cell (cells_from T i n) ≡ true
  pub s_room : x ≤ 16384
  pub r_room : y ≤ 4096

module _ (T : Tables) (P : Pools T) (s r : ℕ) (row rest : List ℕ) where
  row_sizes : Shown T r row → (length (cell_in T (pool_in T) row).a ≡ word row 6) × (length (cell_in T (pool_in T) row).b ≡ word row 7) × (length (cell_in T (pool_in T) row).c ≡ word row 8)
  row_sizes v = (ap length v.a_is ∙ length_runs_in T (word row 6) _, ap length v.b_is ∙ length_runs_in T (word row 7) _, ap length v.c_is ∙ length_runs_in T (word row 8) _)

  row_fits : 9 ≤ length row → Placed s r row → fits (cell_row s r (cell_in T (pool_in T) row) ++ rest) row ≡ fits rest (drop 9 row)
  row_fits h o =
      let v = placed_shown T P s r row o in
      let z = row_sizes v in
      fits_word row 0 _ _ (omega arith) refl
      ∙ fits_word row 1 _ _ (omega arith) refl
      ∙ fits_word row 2 _ _ (omega arith) (sym o.name)
      ∙ fits_word row 3 _ _ (omega arith) v.name
      ∙ fits_word row 4 _ _ (omega arith) refl
      ∙ fits_word row 5 _ _ (omega arith) (sym o.first)
      ∙ fits_word row 6 _ _ (omega arith) z.0
      ∙ fits_word row 7 _ _ (omega arith) z.1
      ∙ fits_word row 8 _ _ (omega arith) z.2

  record Words : Type 0 where
    start : s ≡ word row 2
    name : length (cell_in T (pool_in T) row).name ≡ word row 3
    first : r ≡ word row 5
    a_long : length (cell_in T (pool_in T) row).a ≡ word row 6
    b_long : length (cell_in T (pool_in T) row).b ≡ word row 7
    c_long : length (cell_in T (pool_in T) row).c ≡ word row 8
    next : fits rest (drop 9 row) ≡ true

  row_words : fits (cell_row s r (cell_in T (pool_in T) row) ++ rest) row ≡ true → Words
  row_words h =
      let w₀ = fits_first row 0 _ _ h in
      let w₁ = fits_first row 1 _ _ w₀.1 in
      let w₂ = fits_first row 2 _ _ w₁.1 in
      let w₃ = fits_first row 3 _ _ w₂.1 in
      let w₄ = fits_first row 4 _ _ w₃.1 in
      let w₅ = fits_first row 5 _ _ w₄.1 in
      let w₆ = fits_first row 6 _ _ w₅.1 in
      let w₇ = fits_first row 7 _ _ w₆.1 in
      let w₈ = fits_first row 8 _ _ w₇.1 in
      record { start = w₂.0; name = w₃.0; first = w₅.0; a_long = w₆.0; b_long = w₇.0; c_long = w₈.0; next = w₈.1 }

-- the runs of a cell before those of others
runs_long : (c : Cell) → length (cell_runs c) ≡ length c.a + (length c.b + length c.c)
runs_long c = rw (length-append, length-append)

module _ (T : Tables) (P : Pools T) (ws : List ℕ) (metas : ℕ) where
  laid_more : (i s r b d o n x y z v w out e : ℕ) → (i + suc n) * 9 ≤ length T.cells → cell_good ws T.run_bits T.runs metas s r b (drop (i * 9) T.cells) ≡ Some (out, e)
      → Laid T ws metas (i + 1) (s + word (drop (i * 9) T.cells) 3) (r + (word (drop (i * 9) T.cells) 6 + (word (drop (i * 9) T.cells) 7 + word (drop (i * 9) T.cells) 8))) e (d + word (drop (i * 9) T.cells) 1) (o + out) n x y z v w
      → Laid T ws metas i s r b d o (suc n) x y z v w
  unfolding cells_in cell_rows joined total
  laid_more i s r b d o n x y z v w out e h g l =
      let R = drop (i * 9) T.cells in
      let C = cell_in T (pool_in T) R in
      let cs = cells_in T (pool_in T) n (drop 9 R) in
      let t = good_told T P ws metas s r b R out e g in
      let p = t.placed in
      let k = placed_shown T P s r R p in
      let q = row_sizes T P s r R [] k in
      let j = next_row i T.cells in
      let long : 9 ≤ length R = rw length-drop (omega arith) in
      let N = word R 6 + (word R 7 + word R 8) in
      let m : length (cell_runs C) ≡ N = rw (runs_long C, q.0, q.1, q.2) in
      let rows₁ : fits (cell_rows (s + word R 3) (r + N) cs) (drop 9 R) ≡ true = rw (← j) at l.rows in
      let rows₂ : fits (cell_rows (s + length C.name) (r + length (cell_runs C)) cs) (drop 9 R) ≡ true = rw (k.name, m) rows₁ in
      let s₁ : drop (s + word R 3) T.strings ≡ names_of cs ++ drop x T.strings = rw (← j) at l.strings in
      let r₁ : drop ((r + N) * 3) T.runs ≡ run_rows e (runs_of cs) ++ drop (y * 3) T.runs = rw (← j) at l.runs in
      let b₁ : drop e T.run_bits ≡ run_bits_of (runs_of cs) ++ drop z T.run_bits = rw (← j) at l.bits in
      let la = length-append (cell_runs C) (runs_of cs) in
      record {
        rows = row_fits T P s r R _ long p ∙ rows₂;
        strings = rw p.name (part_rest s (word R 3) T.strings ∙ ap (λ (u : List ℕ). part s (word R 3) T.strings ++ u) s₁ ∙ simp append_assoc);
        runs = rw (rows_append b (cell_runs C) (runs_of cs), ← t.end) (t.three ∙ ap (λ (u : List ℕ). run_rows b (cell_runs C) ++ u) r₁ ∙ sym (append_assoc (run_rows b (cell_runs C)) _ _));
        bits = rw (bits_append (cell_runs C) (runs_of cs)) (t.bits ∙ ap (λ (u : List ℕ). run_bits_of (cell_runs C) ++ u) b₁ ∙ sym (append_assoc (run_bits_of (cell_runs C)) _ _));
        many = let u : y ≡ r + N + length (runs_of cs) = rw (← j) at l.many in omega (arith, u, la, m);
        wide = let u : v ≡ d + word R 1 + total (λ (c : Cell). c.width) cs = rw (← j) at l.wide in omega (arith, u);
        outs = let u : w ≡ o + out + total output_bits cs = rw (← j) at l.outs in let f : out ≡ output_bits C = t.outs in rw (← f) (omega (arith, u));
        sound = every_more (cell_sound ws metas) C cs t.sound (rw (← j) at l.sound);
        short = every_more short_cell C cs t.short (rw (← j) at l.short);
        s_room = l.s_room;
        r_room = l.r_room;
      }

  laid_none : (i s r b d o x y z v w : ℕ) → s ≤ 16384 → r ≤ 4096 → blank (drop (i * 9) T.cells) ≡ true → s ≡ x → r ≡ y → b ≡ z → d ≡ v → o ≡ w → Laid T ws metas i s r b d o 0 x y z v w
  unfolding cells_in cell_rows joined total fits every run_rows
  laid_none i s r b d o x y z v w hs hr h e₁ e₂ e₃ e₄ e₅ = record {
    rows = h;
    strings = rw e₁;
    runs = rw e₂;
    bits = rw e₃;
    many = rw (add-zero r) (sym e₂);
    wide = rw (add-zero d) (sym e₄);
    outs = rw (add-zero o) (sym e₅);
    sound = refl;
    short = refl;
    s_room = rw (← e₁) hs;
    r_room = rw (← e₂) hr;
  }

  -- A WALK THAT COMES TO ITS END
  pub walked : (n i s r b d o x y z v w : ℕ) → s ≤ 16384 → r ≤ 4096 → (i + n) * 9 ≤ length T.cells
      → cells_walk ws T.run_bits T.runs metas T.cells i s r b d o n ≡ Some (x, y, z, v, w) → Laid T ws metas i s r b d o n x y z v w
  unfolding cells_walk
  walked zero i s r b d o x y z v w p q h k = bool_cases (blank (drop (i * 9) T.cells))
      (λ e. let f : Some (s, r, b, d, o) ≡ Some (x, y, z, v, w) = rw e at k in let t : ◌≡◌ {A = ℕ × ℕ × ℕ × ℕ × ℕ} (s, r, b, d, o) (x, y, z, v, w) = cc (f) in laid_none i s r b d o x y z v w p q e (ap (λ (u : ℕ × ℕ × ℕ × ℕ × ℕ). u.0) t) (ap (λ (u : ℕ × ℕ × ℕ × ℕ × ℕ). u.1) t) (ap (λ (u : ℕ × ℕ × ℕ × ℕ × ℕ). u.2) t) (ap (λ (u : ℕ × ℕ × ℕ × ℕ × ℕ). u.3) t) (ap (λ (u : ℕ × ℕ × ℕ × ℕ × ℕ). u.4) t))
      (λ e. let f : ◌≡◌ {A = Option (ℕ × ℕ × ℕ × ℕ × ℕ)} None (Some (x, y, z, v, w)) = rw e at k in let u : ◌≡◌ {A = ℕ} 0 1 = cc (f) in absurd (omega arith))
  walked (suc n) i s r b d o x y z v w p q h k =
      turn (λ out e. walked n (i + 1) (s + word (drop (i * 9) T.cells) 3) (r + (word (drop (i * 9) T.cells) 6 + (word (drop (i * 9) T.cells) 7 + word (drop (i * 9) T.cells) 8))) e (d + word (drop (i * 9) T.cells) 1) (o + out) x y z v w)
      (cell_good ws T.run_bits T.runs metas s r b (drop (i * 9) T.cells)) refl
    where
      turn : ((out e : ℕ) → s + word (drop (i * 9) T.cells) 3 ≤ 16384 → r + (word (drop (i * 9) T.cells) 6 + (word (drop (i * 9) T.cells) 7 + word (drop (i * 9) T.cells) 8)) ≤ 4096 → (i + 1 + n) * 9 ≤ length T.cells
          → cells_walk ws T.run_bits T.runs metas T.cells (i + 1) (s + word (drop (i * 9) T.cells) 3) (r + (word (drop (i * 9) T.cells) 6 + (word (drop (i * 9) T.cells) 7 + word (drop (i * 9) T.cells) 8))) e (d + word (drop (i * 9) T.cells) 1) (o + out) n ≡ Some (x, y, z, v, w)
          → Laid T ws metas (i + 1) (s + word (drop (i * 9) T.cells) 3) (r + (word (drop (i * 9) T.cells) 6 + (word (drop (i * 9) T.cells) 7 + word (drop (i * 9) T.cells) 8))) e (d + word (drop (i * 9) T.cells) 1) (o + out) n x y z v w)
          → (c : Option (ℕ × ℕ)) → cell_good ws T.run_bits T.runs metas s r b (drop (i * 9) T.cells) ≡ c → Laid T ws metas i s r b d o (suc n) x y z v w
      turn ih None g = let f : ◌≡◌ {A = Option (ℕ × ℕ × ℕ × ℕ × ℕ)} None (Some (x, y, z, v, w)) = rw (g, cells_walk) at k in let u : ◌≡◌ {A = ℕ} 0 1 = cc (f) in absurd (omega arith)
      turn ih (Some (out, e)) g =
          let t = (good_told T P ws metas s r b (drop (i * 9) T.cells) out e g).placed in
          laid_more i s r b d o n x y z v w out e h g (ih out e t.strings t.runs (omega arith) (rw (g, cells_walk) at k))

  -- AND WHERE THE ROWS ARE LAID and sound it comes to its end, past all that they have
  pub walks : (n i s r b d o : ℕ) (rest : List ℕ) → (i + n) * 9 ≤ length T.cells
      → fits (cell_rows s r (cells_from T i n)) (drop (i * 9) T.cells) ≡ true
      → drop (r * 3) T.runs ≡ run_rows b (runs_of (cells_from T i n)) ++ rest
      → every (cell_sound ws metas) (cells_from T i n) ≡ true → every short_cell (cells_from T i n) ≡ true
      → s + length (names_of (cells_from T i n)) ≤ 16384 → r + length (runs_of (cells_from T i n)) ≤ 4096 → b + length (run_bits_of (runs_of (cells_from T i n))) ≤ 262656
      → cells_walk ws T.run_bits T.runs metas T.cells i s r b d o n
      ≡ Some (s + length (names_of (cells_from T i n)), r + length (runs_of (cells_from T i n)), b + length (run_bits_of (runs_of (cells_from T i n))), d + total (λ (c : Cell). c.width) (cells_from T i n), o + total output_bits (cells_from T i n))
  unfolding cells_in cell_rows joined total cells_walk fits
  walks zero i s r b d o rest h f m g k p q u = rw (f, add-zero s, add-zero r, add-zero b, add-zero d, add-zero o)
  walks (suc n) i s r b d o rest h f m g k p q u =
      let R = drop (i * 9) T.cells in
      let C = cell_in T (pool_in T) R in
      let cs = cells_in T (pool_in T) n (drop 9 R) in
      let j = next_row i T.cells in
      let w = row_words T P s r R (cell_rows (s + length C.name) (r + length (cell_runs C)) cs) f in
      let N = word R 6 + (word R 7 + word R 8) in
      let l : length (cell_runs C) ≡ N = rw (runs_long C, w.a_long, w.b_long, w.c_long) in
      let ls = length-append C.name (names_of cs) in
      let lr = length-append (cell_runs C) (runs_of cs) in
      let lb = run_bits_append (cell_runs C) (runs_of cs) in
      let a : Placed s r R = record { name = sym w.start; strings = omega (arith, ls, w.name, p); first = sym w.first; runs = omega (arith, lr, l, q) } in
      let gs = every_first (cell_sound ws metas) C cs g in
      let ks = every_first short_cell C cs k in
      let e = b + length (run_bits_of (cell_runs C)) in
      let m' : drop (r * 3) T.runs ≡ run_rows b (cell_runs C) ++ (run_rows e (runs_of cs) ++ rest) = m ∙ rw (rows_append b (cell_runs C) (runs_of cs)) (append_assoc (run_rows b (cell_runs C)) _ _) in
      let t = sound_good T P ws metas s r b R a (run_rows e (runs_of cs) ++ rest) m' (omega (arith, lb, u)) gs.0 ks.0 in
      let f' : fits (cell_rows (s + word R 3) (r + N) cs) (drop 9 R) ≡ true = rw (w.name, l) at w.next in
      let p' : s + word R 3 + length (names_of cs) ≡ s + length (C.name ++ names_of cs) = omega (arith, ls, w.name) in
      let q' : r + N + length (runs_of cs) ≡ r + length (cell_runs C ++ runs_of cs) = omega (arith, lr, l) in
      let u' : e + length (run_bits_of (runs_of cs)) ≡ b + length (run_bits_of (cell_runs C ++ runs_of cs)) = omega (arith, lb) in
      let d' : d + word R 1 + total (λ (c : Cell). c.width) cs ≡ d + (word R 1 + total (λ (c : Cell). c.width) cs) = omega arith in
      let o' : o + output_bits C + total output_bits cs ≡ o + (output_bits C + total output_bits cs) = omega arith in
      let ih = walks n (i + 1) (s + word R 3) (r + N) e (d + word R 1) (o + output_bits C) rest (omega arith)
      (rw j at f') (rw j at t.1) (rw j at gs.1) (rw j at ks.1) (rw (← j) (omega (arith, p, p'))) (rw (← j) (omega (arith, q, q'))) (rw (← j) (omega (arith, u, u'))) in
      rw (t.0, cells_walk) (rw (← j, p', q', u', d', o') at ih)
