-- The walk over I/O rows comes to its end exactly where they are laid out as the I/O that they show, which is sound; and the names in
-- the rows are those of the netlist.
use Rattle.std.specs.Prelude.{Some, None}
use mathlib.Core.Path.{◌≡◌, refl, sym, ap, ◌∙◌}
use mathlib.Core.Bool.{Bool, true, not}
use mathlib.Core.List.{List, ◌∷◌, ◌++◌, append_assoc}
use Prim.Native.Nat.{ℕ, zero, suc, ◌+◌, ◌*◌, ◌≤◌}
use native.Mathlib.Omega.{arith}
use native.Mathlib.Nat.{add-zero}
use lib.Dec.{eqb, leb}
use lib.ListN.{length, drop, length-append, length-drop}
use borrow.Author.Tests.{eq-eqb, ne_eqb, leb-true, le-leb}
use Rattle.ground.specs.Lists.{every, joined}
use Rattle.ground.specs.Regions.{blank, fits, part}
use Rattle.ground.proofs.Bools.{bool_cases, and_true, true_and, fact, facts, every_first, every_more, some_back}
use Rattle.ground.proofs.Rest.{rest_rest}
use Rattle.ground.proofs.Regions.{part_length}
use Rattle.kinds.specs.Kinds.{wide}
use Rattle.netlist.specs.Netlist.{Run, Io}
use Rattle.netlist.specs.Rules.{is_byte, is_empty, io_sound, short_string, io_names, names_as}
use Rattle.netlist.specs.Tables.{Tables, io_rows}
use Rattle.netlist.specs.View.{word, io_in, ios_in, cells_in}
use Rattle.pools.specs.Lying.{lies}
use Rattle.checkmeta.proofs.Fits.{fits_word, fits_first, every_part, part_rest, none}
use Rattle.checking.specs.Names.{io_name, cell_name, io_names_in, cell_names_in}
use Rattle.checking.specs.Walk.{name_wide, io_good, ios_walk}
use Rattle.checking.proofs.Laws.{io_placed}

-- NAMES
pub io_names_lem : (T : Tables) (n : ℕ) (t : List ℕ) → io_names_in T.strings n t ≡ io_names (ios_in T n t)
unfolding io_names_in ios_in
io_names_lem T zero t = refl
io_names_lem T (suc n) t = ap (λ (l : List (List ℕ)). io_name T.strings t ∷ l) (io_names_lem T n (drop 3 t))

pub cell_names : (T : Tables) (pool : List Run) (kind n : ℕ) (t : List ℕ) → cell_names_in T.strings kind n t ≡ names_as kind (cells_in T pool n t)
unfolding cell_names_in cells_in names_as
cell_names T pool kind zero t = refl
cell_names T pool kind (suc n) t = bool_cases (eqb (word t 0) kind)
    (λ e. rw (e, cell_names_in, names_as) (ap (λ (l : List (List ℕ)). cell_name T.strings t ∷ l) (cell_names T pool kind n (drop 9 t))))
    (λ e. rw (e, cell_names_in, names_as) (cell_names T pool kind n (drop 9 t)))

-- ROWS
abbrev pub ios_from : Tables → ℕ → ℕ → List Io
ios_from T i n = ios_in T n (drop (i * 3) T.ios)

abbrev pub names_of : List Io → List ℕ
names_of is = joined (λ i. i.name) is

abbrev pub short_io : Io → Bool
short_io i = short_string i.name

next_row : (i : ℕ) (rows : List ℕ) → drop 3 (drop (i * 3) rows) ≡ drop ((i + 1) * 3) rows
next_row i rows = let e : i * 3 + 3 ≡ (i + 1) * 3 = omega arith in rest_rest rows (i * 3) 3 ∙ ap (λ (k : ℕ). drop k rows) e

pub record Laid (T : Tables) (i s n x : ℕ) : Type 0 where
  pub rows : fits (io_rows s (ios_from T i n)) (drop (i * 3) T.ios) ≡ true
  pub strings : drop s T.strings ≡ names_of (ios_from T i n) ++ drop x T.strings
  pub sound : every io_sound (ios_from T i n) ≡ true
  pub short : every short_io (ios_from T i n) ≡ true
  pub s_room : x ≤ 16384

module _ (T : Tables) (ls : length T.strings ≡ 16384) (bytes : every is_byte T.strings ≡ true) where
  size : (s : ℕ) (row : List ℕ) → word row 0 ≡ s → s + word row 1 ≤ 16384 → length (io_in T row).name ≡ word row 1
  size s row p q = part_length (word row 0) (word row 1) T.strings (omega (arith, p, q, ls))

  good_sound : (s : ℕ) (row : List ℕ) → io_good s row ≡ true → (io_sound (io_in T row) ≡ true) × (short_io (io_in T row) ≡ true)
  good_sound s row g =
      let o = io_placed s row g in
      let z = size s row o.0 o.1 in
      let p = (and_true (lies s 16384 (word row 0) (word row 1)) _ g).1 in
      let q = and_true (name_wide (word row 1)) (wide (word row 2)) p in
      let r = and_true (leb 1 (word row 1)) (leb (word row 1) 255) q.0 in
      let k = leb-true 1 (word row 1) r.0 in
      let e : not (is_empty (io_in T row).name) ≡ true = rw (z, ne_eqb (word row 1) 0 (λ e. omega arith)) in
      let f : leb (length (io_in T row).name) 255 ≡ true = rw z r.1 in
      (facts _ _ e (facts _ _ (every_part is_byte _ _ T.strings bytes) (facts _ _ q.1 none)), f)

  sound_good : (s : ℕ) (row : List ℕ) → word row 0 ≡ s → s + word row 1 ≤ 16384 → io_sound (io_in T row) ≡ true → short_io (io_in T row) ≡ true → io_good s row ≡ true
  sound_good s row p q g k =
      let z = size s row p q in
      let e : not (is_empty (io_in T row).name) ≡ true = fact _ g 0 in
      let f : leb 1 (word row 1) ≡ true = some_back (word row 1) (rw z at e) in
      let h : leb (word row 1) 255 ≡ true = rw z at k in
      let w : wide (word row 2) ≡ true = fact _ g 2 in
      true_and _ _ (true_and _ _ (eq-eqb (word row 0) s p) (le-leb _ _ q)) (true_and _ _ (true_and _ _ f h) w)

  laid_more : (i s n x : ℕ) → (i + suc n) * 3 ≤ length T.ios → io_good s (drop (i * 3) T.ios) ≡ true → Laid T (i + 1) (s + word (drop (i * 3) T.ios) 1) n x → Laid T i s (suc n) x
  unfolding ios_in io_rows joined
  laid_more i s n x h g l =
      let R = drop (i * 3) T.ios in
      let is = ios_in T n (drop 3 R) in
      let o = io_placed s R g in
      let z = size s R o.0 o.1 in
      let v = good_sound s R g in
      let j = next_row i T.ios in
      let long : 3 ≤ length R = rw length-drop (omega arith) in
      let rows₁ : fits (io_rows (s + word R 1) is) (drop 3 R) ≡ true = rw (← j) at l.rows in
      let rows₂ : fits (io_rows (s + length (io_in T R).name) is) (drop 3 R) ≡ true = rw z rows₁ in
      let s₁ : drop (s + word R 1) T.strings ≡ names_of is ++ drop x T.strings = rw (← j) at l.strings in
      record {
        rows = fits_word R 0 _ _ (omega arith) (sym o.0) ∙ fits_word R 1 _ _ (omega arith) z ∙ fits_word R 2 _ _ (omega arith) refl ∙ rows₂;
        strings = rw o.0 (part_rest s (word R 1) T.strings ∙ ap (λ (u : List ℕ). part s (word R 1) T.strings ++ u) s₁ ∙ simp append_assoc);
        sound = every_more io_sound (io_in T R) is v.0 (rw (← j) at l.sound);
        short = every_more short_io (io_in T R) is v.1 (rw (← j) at l.short);
        s_room = l.s_room;
      }

  laid_none : (i s x : ℕ) → s ≤ 16384 → blank (drop (i * 3) T.ios) ≡ true → s ≡ x → Laid T i s 0 x
  unfolding ios_in io_rows joined fits every
  laid_none i s x p h e = record { rows = h; strings = rw e; sound = refl; short = refl; s_room = rw (← e) p }

  pub walked : (n i s x : ℕ) → s ≤ 16384 → (i + n) * 3 ≤ length T.ios → ios_walk T.ios i s n ≡ Some x → Laid T i s n x
  unfolding ios_walk
  walked zero i s x p h w = bool_cases (blank (drop (i * 3) T.ios))
      (λ e. let d : Some s ≡ Some x = rw e at w in laid_none i s x p e (cc (d)))
      (λ e. let d : None ≡ Some x = rw e at w in let k : ◌≡◌ {A = ℕ} 0 1 = cc (d) in absurd (omega arith))
  walked (suc n) i s x p h w =
      let R = drop (i * 3) T.ios in
      bool_cases (io_good s R)
      (λ g. laid_more i s n x h g (walked n (i + 1) (s + word R 1) x (io_placed s R g).1 (omega arith) (rw (g, ios_walk) at w)))
      (λ g. let d : None ≡ Some x = rw (g, ios_walk) at w in let k : ◌≡◌ {A = ℕ} 0 1 = cc (d) in absurd (omega arith))

  pub walks : (n i s : ℕ) → (i + n) * 3 ≤ length T.ios → fits (io_rows s (ios_from T i n)) (drop (i * 3) T.ios) ≡ true
      → every io_sound (ios_from T i n) ≡ true → every short_io (ios_from T i n) ≡ true → s + length (names_of (ios_from T i n)) ≤ 16384
      → ios_walk T.ios i s n ≡ Some (s + length (names_of (ios_from T i n)))
  unfolding ios_in io_rows joined ios_walk fits
  walks zero i s h f g k p = rw (f, add-zero s)
  walks (suc n) i s h f g k p =
      let R = drop (i * 3) T.ios in
      let X = io_in T R in
      let is = ios_in T n (drop 3 R) in
      let j = next_row i T.ios in
      let rest = io_rows (s + length X.name) is in
      let w₀ = fits_first R 0 s (length X.name ∷ X.width ∷ rest) f in
      let w₁ = fits_first R 1 (length X.name) (X.width ∷ rest) w₀.1 in
      let w₂ = fits_first R 2 X.width rest w₁.1 in
      let z : length X.name ≡ word R 1 = w₁.0 in
      let gs = every_first io_sound X is g in
      let ks = every_first short_io X is k in
      let l = length-append X.name (names_of is) in
      let t = sound_good s R (sym w₀.0) (omega (arith, l, z, p)) gs.0 ks.0 in
      let f' : fits (io_rows (s + word R 1) is) (drop 3 R) ≡ true = rw z at w₂.1 in
      let p' : s + word R 1 + length (names_of is) ≡ s + length (X.name ++ names_of is) = omega (arith, l, z) in
      let ih = walks n (i + 1) (s + word R 1) (omega arith) (rw j at f') (rw j at gs.1) (rw j at ks.1) (rw (← j) (omega (arith, p, p'))) in
      rw (t, ios_walk) (rw (← j, p') at ih)
