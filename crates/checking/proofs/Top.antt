-- The check part by part decides whether tables are good.
use Rattle.std.specs.Prelude.{Ok, Err, Option, Some, None}
use mathlib.Core.Path.{◌≡◌, refl, sym, ap, ap₂, ◌∙◌, subst}
use mathlib.Core.Bool.{true, false, ◌&&◌, ◌||◌}
use mathlib.Core.List.{List, [], ◌∷◌, ◌++◌, append_assoc}
use Prim.Native.Nat.{ℕ, zero, suc, ◌+◌, ◌-◌, ◌*◌, ◌<◌, ◌≤◌}
use native.Mathlib.Omega.{arith}
use native.Mathlib.Nat.{zero-add}
use lib.Dec.{eqb, leb, ltb}
use lib.ListN.{length, drop, take, get_or, length-append, length-drop, length-take}
use borrow.Author.Tests.{leb-true, le-leb, eqb-true, ltb-false}
use Rattle.ground.specs.Lists.{every, joined, total}
use Rattle.ground.specs.Regions.{blank, fits, part}
use Rattle.ground.proofs.Bools.{bool_cases, never_both, and_true, true_and, or_false, fact, facts}
use Rattle.ground.proofs.Regions.{fits_on}
use Rattle.netlist.specs.Netlist.{Run, Meta, Io, Cell, meta_strings, members_of, attr_bits_of, runs_of, run_bits_of}
use Rattle.netlist.specs.Rules.{is_byte, is_number, distinct, io_names, names_as, metas_sound, io_sound, cell_sound, widths_of, output_bits, roomy, valid}
use Rattle.netlist.specs.Tables.{Tables, meta_rows, io_rows, cell_rows, run_rows, tables_in}
use Rattle.netlist.specs.View.{metas_in, io_in, ios_in, cells_in, pool_in, view}
use Rattle.netlist.specs.Good.{laid, good, short, check_of, io_from, lookup_of}
use Rattle.ground.specs.Refusals.{at, refusal}
use Rattle.ground.specs.Text.{same}
use Rattle.netlist.proofs.Laying.{valid_roomy, valid_metas, valid_cells, Long}
use Rattle.netlist.proofs.Lengths.{length_run_rows}
use Rattle.checkmeta.specs.Fields.{kinds_in}
use Rattle.checkmeta.specs.Walk.{metas_walk}
use Rattle.checkmeta.proofs.Fits.{none, same_test, every_take, every_part}
use Rattle.pools.proofs.Laws.{every_below}
use Rattle.checkmeta.proofs.Link as meta
use Rattle.checkcells.specs.Runs.{widths_in}
use Rattle.checkcells.specs.Walk.{cells_walk}
use Rattle.checkcells.proofs.CellLink as cellpool
use Rattle.checkcells.proofs.Link as cell
use Rattle.checking.specs.Names.{io_names_in, cell_names_in, IosNamed}
use Rattle.checking.specs.Walk.{ios_walk}
use Rattle.checking.specs.Parts.{metas_end, metas_part, ios_end, ios_part, cells_end, cells_part, and_then, blank_from, parts_good, metas_upto, ios_upto, cells_upto, regions, strings_alone}
use Rattle.checking.proofs.IoLink as io
use Rattle.checking.proofs.Laws.{ios_named, next_row}

-- REGIONS: words at the front and nothing behind
fits_blank : (xs t r : List ℕ) → t ≡ xs ++ r → blank r ≡ true → fits xs t ≡ true
unfolding fits
fits_blank xs t r e h = rw e (go xs)
  where
    go : (xs : List ℕ) → fits xs (xs ++ r) ≡ true
    go [] = h
    go (x ∷ xs) = fits_on x x xs (xs ++ r) refl ∙ go xs

fits_split : (xs t : List ℕ) → fits xs t ≡ true → (t ≡ xs ++ drop (length xs) t) × (blank (drop (length xs) t) ≡ true)
unfolding fits
fits_split [] t h = (refl, h)
fits_split (x ∷ xs) [] h = never_both h refl
fits_split (x ∷ xs) (y ∷ t) h = bool_cases (eqb x y)
    (λ e. let p = fits_split xs t (rw (e, fits) at h) in (rw (eqb-true x y e) (ap (λ (l : List ℕ). y ∷ l) p.0), p.1))
    (λ e. never_both (rw (e, fits) at h) refl)

fits_length : (xs t : List ℕ) → fits xs t ≡ true → length xs ≤ length t
fits_length xs t h = let e = ap length (fits_split xs t h).0 in let k = length-append xs (drop (length xs) t) in omega (arith, e, k)

-- a pool that begins with words and goes on at a place
place_is : (xs t : List ℕ) (a b : ℕ) → drop a t ≡ xs ++ drop b t → a ≤ length t → b ≤ length t → b ≡ a + length xs
place_is xs t a b e h k =
    let d = ap length e in
    let p = length-append xs (drop b t) in
    let q : length (drop a t) ≡ length t - a = length-drop a t in
    let r : length (drop b t) ≡ length t - b = length-drop b t in
    omega (arith, d, p, q, r)

-- WHAT THE PARTS TELL
absurd_at : {P : Type 0} {s : ℕ} → None ≡ Some s → P
absurd_at d = let n : ◌≡◌ {A = ℕ} 0 1 = cc (d) in absurd (omega arith)

record MetasAt (rows members bits : List ℕ) (n s : ℕ) : Type 0 where
  most : n ≤ 512
  m : ℕ
  b : ℕ
  walk : metas_walk members bits rows 0 0 0 0 n ≡ Some (s, m, b)
  m_blank : blank (drop m members) ≡ true
  b_blank : blank (drop b bits) ≡ true

metas_at : (rows members bits : List ℕ) (n s : ℕ) → metas_part rows members bits n ≡ Some s → MetasAt rows members bits n s
unfolding metas_part
metas_at rows members bits n s h = bool_cases (leb n 512)
    (λ l. go (leb-true n 512 l) (metas_walk members bits rows 0 0 0 0 n) refl (rw l at h))
    (λ l. absurd_at (rw l at h))
  where
    go : n ≤ 512 → (w : Option (ℕ × ℕ × ℕ)) → metas_walk members bits rows 0 0 0 0 n ≡ w → metas_end members bits w ≡ Some s → MetasAt rows members bits n s
    go l None e k = absurd_at k
    go l (Some (x, m, b)) e k = bool_cases (blank (drop m members) && blank (drop b bits))
        (λ p. let d : Some x ≡ Some s = rw p at k in let f : x ≡ s = cc (d) in let q = and_true (blank (drop m members)) (blank (drop b bits)) p in
        record { most = l; m = m; b = b; walk = e ∙ ap (λ (u : ℕ). Some (u, m, b)) f; m_blank = q.0; b_blank = q.1 })
        (λ p. absurd_at (rw p at k))

record IosAt (rows strings : List ℕ) (n s t : ℕ) : Type 0 where
  most : n ≤ 64
  walk : ios_walk rows 0 s n ≡ Some t
  unique : distinct (io_names_in strings n rows) ≡ true

ios_at : (rows strings : List ℕ) (n s t : ℕ) → ios_part rows strings n s ≡ Some t → IosAt rows strings n s t
unfolding ios_part
ios_at rows strings n s t h = bool_cases (leb n 64)
    (λ l. go (leb-true n 64 l) (ios_walk rows 0 s n) refl (rw l at h))
    (λ l. absurd_at (rw l at h))
  where
    go : n ≤ 64 → (w : Option ℕ) → ios_walk rows 0 s n ≡ w → ios_end (distinct (io_names_in strings n rows)) w ≡ Some t → IosAt rows strings n s t
    go l None e k = absurd_at k
    go l (Some x) e k = bool_cases (distinct (io_names_in strings n rows))
        (λ p. record { most = l; walk = e ∙ (rw p at k); unique = p })
        (λ p. absurd_at (rw p at k))

record CellsAt (rows runs bits strings : List ℕ) (n metas s x : ℕ) : Type 0 where
  most : n ≤ 512
  r : ℕ
  b : ℕ
  d : ℕ
  o : ℕ
  walk : cells_walk (widths_in n rows) bits runs metas rows 0 s 0 0 0 0 n ≡ Some (x, r, b, d, o)
  d_most : d ≤ 4096
  o_most : o ≤ 4096
  r_blank : blank (drop (r * 3) runs) ≡ true
  b_blank : blank (drop b bits) ≡ true
  inputs : distinct (cell_names_in strings 1 n rows) ≡ true
  outputs : distinct (cell_names_in strings 2 n rows) ≡ true

cells_at : (rows runs bits strings : List ℕ) (n metas s x : ℕ) → cells_part rows runs bits strings n metas s ≡ Some x → CellsAt rows runs bits strings n metas s x
unfolding cells_part
cells_at rows runs bits strings n metas s x h = bool_cases (leb n 512)
    (λ l. go (leb-true n 512 l) (cells_walk (widths_in n rows) bits runs metas rows 0 s 0 0 0 0 n) refl (rw l at h))
    (λ l. absurd_at (rw l at h))
  where
    go : n ≤ 512 → (w : Option (ℕ × ℕ × ℕ × ℕ × ℕ)) → cells_walk (widths_in n rows) bits runs metas rows 0 s 0 0 0 0 n ≡ w
        → cells_end runs bits (distinct (cell_names_in strings 1 n rows) && distinct (cell_names_in strings 2 n rows)) w ≡ Some x → CellsAt rows runs bits strings n metas s x
    go l None e k = absurd_at k
    go l (Some (y, r, b, d, o)) e k = bool_cases ((leb d 4096 && leb o 4096) && ((blank (drop (r * 3) runs) && blank (drop b bits)) && (distinct (cell_names_in strings 1 n rows) && distinct (cell_names_in strings 2 n rows))))
        (λ p. let a : Some y ≡ Some x = rw p at k in let f : y ≡ x = cc (a) in
        let q = and_true (leb d 4096 && leb o 4096) _ p in
        let q₁ = and_true (leb d 4096) (leb o 4096) q.0 in
        let q₂ = and_true (blank (drop (r * 3) runs) && blank (drop b bits)) _ q.1 in
        let q₃ = and_true (blank (drop (r * 3) runs)) (blank (drop b bits)) q₂.0 in
        let q₄ = and_true (distinct (cell_names_in strings 1 n rows)) (distinct (cell_names_in strings 2 n rows)) q₂.1 in
        record {
          most = l;
          r = r;
          b = b;
          d = d;
          o = o;
          walk = e ∙ ap (λ (u : ℕ). Some (u, r, b, d, o)) f;
          d_most = leb-true d 4096 q₁.0;
          o_most = leb-true o 4096 q₁.1;
          r_blank = q₃.0;
          b_blank = q₃.1;
          inputs = q₄.0;
          outputs = q₄.1;
        })
        (λ p. absurd_at (rw p at k))

-- tables in lent slices: of their lengths, of bytes and words
pub record Lent (T : Tables) : Type 0 where
  pub long : Long T
  pub bytes : every is_byte T.strings ≡ true
  pub words : every is_number T.metas ≡ true

module _ (T : Tables) where
  length_metas : (n : ℕ) (t : List ℕ) → length (metas_in T n t) ≡ n
  unfolding metas_in
  length_metas zero t = refl
  length_metas (suc n) t = ap suc (length_metas n (drop 16 t))

  length_ios : (n : ℕ) (t : List ℕ) → length (ios_in T n t) ≡ n
  unfolding ios_in
  length_ios zero t = refl
  length_ios (suc n) t = ap suc (length_ios n (drop 3 t))

  length_cells : (pool : List Run) (n : ℕ) (t : List ℕ) → length (cells_in T pool n t) ≡ n
  unfolding cells_in
  length_cells pool zero t = refl
  length_cells pool (suc n) t = ap suc (length_cells pool n (drop 9 t))

  meta_pools : Lent T → meta.Pools T
  meta_pools l = record { strings = l.long.strings; members = l.long.members; bits = l.long.attr_bits; bytes = l.bytes; words = l.words }

  cell_pools : Lent T → cellpool.Pools T
  cell_pools l = record { strings = l.long.strings; runs = l.long.runs; bits = l.long.run_bits; bytes = l.bytes }

-- WHERE EVERY PART IS RIGHT the tables are good
module _ (T : Tables) (l : Lent T) (s t x : ℕ) (a : MetasAt T.metas T.members T.attr_bits T.meta_count s) (i : IosAt T.ios T.strings T.io_count s t)
    (c : CellsAt T.cells T.runs T.run_bits T.strings T.cell_count T.meta_count t x) (z : blank (drop x T.strings) ≡ true) where
  abbrev ms : List Meta
  ms = metas_in T T.meta_count T.metas

  abbrev is : List Io
  is = ios_in T T.io_count T.ios

  abbrev cs : List Cell
  cs = cells_in T (pool_in T) T.cell_count T.cells

  abbrev names : List ℕ
  names = meta_strings ms ++ (joined (λ (i : Io). i.name) is ++ joined (λ (c : Cell). c.name) cs)

  L₁ : meta.Laid T 0 0 0 0 T.meta_count s a.m a.b
  L₁ = meta.walked T (meta_pools T l) T.meta_count 0 0 0 0 s a.m a.b (omega arith) (omega arith) (omega arith) (omega (arith, a.most, l.long.metas)) a.walk

  L₂ : io.Laid T 0 s T.io_count t
  L₂ = io.walked T l.long.strings l.bytes T.io_count 0 s t L₁.s_room (omega (arith, i.most, l.long.ios)) i.walk

  L₃ : cell.Laid T (widths_in T.cell_count T.cells) T.meta_count 0 t 0 0 0 0 T.cell_count x c.r c.b c.d c.o
  L₃ = cell.walked T (cell_pools T l) (widths_in T.cell_count T.cells) T.meta_count T.cell_count 0 t 0 0 0 0 x c.r c.b c.d c.o L₂.s_room (omega arith) (omega (arith, c.most, l.long.cells)) c.walk

  s_is : s ≡ length (meta_strings ms)
  s_is = place_is (meta_strings ms) T.strings 0 s L₁.strings (omega arith) (omega (arith, L₁.s_room, l.long.strings)) ∙ zero-add _

  t_is : t ≡ length (meta_strings ms) + length (joined (λ (i : Io). i.name) is)
  t_is = place_is (joined (λ (i : Io). i.name) is) T.strings s t L₂.strings (omega (arith, L₁.s_room, l.long.strings)) (omega (arith, L₂.s_room, l.long.strings)) ∙ rw s_is

  strings_are : T.strings ≡ names ++ drop x T.strings
  strings_are = L₁.strings ∙ ap (λ (u : List ℕ). meta_strings ms ++ u) (L₂.strings ∙ ap (λ (u : List ℕ). joined (λ (i : Io). i.name) is ++ u) L₃.strings) ∙ simp append_assoc

  short_of : {A : Type 0} (xs p r : List A) → p ≡ xs ++ r → length xs ≤ length p
  short_of xs p r e = let d = ap length e in let k = length-append xs r in omega (arith, d, k)

  is_laid : laid (view T) T ≡ true
  unfolding laid view
  is_laid =
      let f₂ : fits (io_rows (length (meta_strings ms)) is) T.ios ≡ true = rw s_is at L₂.rows in
      let f₃ : fits (cell_rows (length (meta_strings ms) + length (joined (λ (i : Io). i.name) is)) 0 cs) T.cells ≡ true = rw t_is at L₃.rows in
      facts _ _ L₁.rows (facts _ _ (fits_blank (members_of ms) T.members (drop a.m T.members) L₁.members a.m_blank) (facts _ _ f₂ (facts _ _ f₃
      (facts _ _ (fits_blank (run_rows 0 (runs_of cs)) T.runs (drop (c.r * 3) T.runs) L₃.runs c.r_blank)
      (facts _ _ (fits_blank names T.strings (drop x T.strings) strings_are z)
      (facts _ _ (fits_blank (attr_bits_of ms) T.attr_bits (drop a.b T.attr_bits) L₁.bits a.b_blank)
      (facts _ _ (fits_blank (run_bits_of (runs_of cs)) T.run_bits (drop c.b T.run_bits) L₃.bits c.b_blank) none)))))))

  is_roomy : roomy (view T) ≡ true
  unfolding roomy view
  is_roomy =
      let n₁ = length_cells T (pool_in T) T.cell_count T.cells in
      let n₂ = length_metas T T.meta_count T.metas in
      let n₃ = length_ios T T.io_count T.ios in
      let d : c.d ≡ 0 + total (λ (c : Cell). c.width) cs = L₃.wide in
      let o : c.o ≡ 0 + total output_bits cs = L₃.outs in
      let r : c.r ≡ 0 + length (runs_of cs) = L₃.many in
      let m = short_of (members_of ms) T.members (drop a.m T.members) L₁.members in
      let k = short_of names T.strings (drop x T.strings) strings_are in
      facts _ _ (le-leb (length cs) 512 (omega (arith, n₁, c.most)))
      (facts _ _ (le-leb (total (λ (c : Cell). c.width) cs) 4096 (omega (arith, d, c.d_most)))
      (facts _ _ (le-leb (total output_bits cs) 4096 (omega (arith, o, c.o_most)))
      (facts _ _ (le-leb (length (runs_of cs)) 4096 (omega (arith, r, L₃.r_room)))
      (facts _ _ (le-leb (length ms) 512 (omega (arith, n₂, a.most)))
      (facts _ _ (le-leb (length (members_of ms)) 1024 (omega (arith, m, l.long.members)))
      (facts _ _ (le-leb (length is) 64 (omega (arith, n₃, i.most)))
      (facts _ _ L₁.short (facts _ _ L₂.short (facts _ _ L₃.short
      (facts _ _ (le-leb (length names) 16384 (omega (arith, k, l.long.strings))) none))))))))))

  is_valid : valid (view T) ≡ true
  unfolding valid view kinds_in
  is_valid =
      let w : widths_in T.cell_count T.cells ≡ widths_of cs = cell.widths_are T (pool_in T) T.cell_count T.cells in
      let n : T.meta_count ≡ length ms = sym (length_metas T T.meta_count T.metas) in
      let e₃ : distinct (io_names is) ≡ true = rw (io.io_names_lem T T.io_count T.ios) at i.unique in
      let e₄ : every (cell_sound (widths_of cs) (length ms)) cs ≡ true = subst (λ (u : ℕ). every (cell_sound (widths_of cs) u) cs ≡ true) n (subst (λ (u : List ℕ). every (cell_sound u T.meta_count) cs ≡ true) w L₃.sound) in
      let e₅ : distinct (names_as 1 cs) ≡ true = rw (io.cell_names T (pool_in T) 1 T.cell_count T.cells) at c.inputs in
      let e₆ : distinct (names_as 2 cs) ≡ true = rw (io.cell_names T (pool_in T) 2 T.cell_count T.cells) at c.outputs in
      facts _ _ is_roomy (facts _ _ L₁.sound (facts _ _ L₂.sound (facts _ _ e₃ (facts _ _ e₄ (facts _ _ e₅ (facts _ _ e₆ none))))))

  is_good : good T ≡ true
  unfolding good
  is_good = true_and _ _ is_laid is_valid

pub parts_good_lem : (T : Tables) → Lent T → parts_good T ≡ true → good T ≡ true
unfolding parts_good
parts_good_lem T l h = go (metas_part T.metas T.members T.attr_bits T.meta_count) refl
  where
    go₃ : (s t : ℕ) → metas_part T.metas T.members T.attr_bits T.meta_count ≡ Some s → ios_part T.ios T.strings T.io_count s ≡ Some t
        → (u : Option ℕ) → cells_part T.cells T.runs T.run_bits T.strings T.cell_count T.meta_count t ≡ u → good T ≡ true
    go₃ s t p q None r = never_both (rw (p, q, r) at h) refl
    go₃ s t p q (Some x) r = is_good T l s t x (metas_at _ _ _ _ s p) (ios_at _ _ _ s t q) (cells_at _ _ _ _ _ _ t x r) (rw (p, q, r) at h)

    go₂ : (s : ℕ) → metas_part T.metas T.members T.attr_bits T.meta_count ≡ Some s → (u : Option ℕ) → ios_part T.ios T.strings T.io_count s ≡ u → good T ≡ true
    go₂ s p None q = never_both (rw (p, q) at h) refl
    go₂ s p (Some t) q = go₃ s t p q (cells_part T.cells T.runs T.run_bits T.strings T.cell_count T.meta_count t) refl

    go : (u : Option ℕ) → metas_part T.metas T.members T.attr_bits T.meta_count ≡ u → good T ≡ true
    go None p = never_both (rw p at h) refl
    go (Some s) p = go₂ s p (ios_part T.ios T.strings T.io_count s) refl

-- AND IN GOOD TABLES every part is right
module _ (T : Tables) (l : Lent T) (g : good T ≡ true) where
  abbrev gms : List Meta
  gms = metas_in T T.meta_count T.metas

  abbrev gis : List Io
  gis = ios_in T T.io_count T.ios

  abbrev gcs : List Cell
  gcs = cells_in T (pool_in T) T.cell_count T.cells

  abbrev ios_names : List ℕ
  ios_names = joined (λ (i : Io). i.name) gis

  abbrev cell_names : List ℕ
  cell_names = joined (λ (c : Cell). c.name) gcs

  abbrev from : ℕ
  from = length (meta_strings gms)

  abbrev until : ℕ
  until = from + length ios_names

  was_laid : laid (view T) T ≡ true
  unfolding good
  was_laid = (and_true (laid (view T) T) (valid (view T)) g).0

  was_valid : valid (view T) ≡ true
  unfolding good
  was_valid = (and_true (laid (view T) T) (valid (view T)) g).1

  -- what is laid
  record Regions : Type 0 where
    metas : fits (meta_rows 0 0 0 gms) T.metas ≡ true
    members : fits (members_of gms) T.members ≡ true
    ios : fits (io_rows from gis) T.ios ≡ true
    cells : fits (cell_rows until 0 gcs) T.cells ≡ true
    runs : fits (run_rows 0 (runs_of gcs)) T.runs ≡ true
    strings : fits (meta_strings gms ++ (ios_names ++ cell_names)) T.strings ≡ true
    attr_bits : fits (attr_bits_of gms) T.attr_bits ≡ true
    run_bits : fits (run_bits_of (runs_of gcs)) T.run_bits ≡ true

  all_laid : Regions
  unfolding laid view
  all_laid = record { metas = fact _ was_laid 0; members = fact _ was_laid 1; ios = fact _ was_laid 2; cells = fact _ was_laid 3; runs = fact _ was_laid 4; strings = fact _ was_laid 5; attr_bits = fact _ was_laid 6; run_bits = fact _ was_laid 7 }

  -- what is valid
  record Rules : Type 0 where
    cells_most : T.cell_count ≤ 512
    wide : total (λ (c : Cell). c.width) gcs ≤ 4096
    outs : total output_bits gcs ≤ 4096
    runs : length (runs_of gcs) ≤ 4096
    metas_most : T.meta_count ≤ 512
    members : length (members_of gms) ≤ 1024
    ios_most : T.io_count ≤ 64
    metas_short : every (λ (m : Meta). leb (length m.name) 255 && leb (length m.text) 255) gms ≡ true
    ios_short : every (λ (i : Io). leb (length i.name) 255) gis ≡ true
    cells_short : every (λ (c : Cell). leb (length c.name) 255) gcs ≡ true
    strings : length (meta_strings gms) + (length ios_names + length cell_names) ≤ 16384
    metas_sound_lem : metas_sound (kinds_in 0 T.metas) gms ≡ true
    ios_sound : every io_sound gis ≡ true
    ios_unique : distinct (io_names_in T.strings T.io_count T.ios) ≡ true
    cells_sound : every (cell_sound (widths_in T.cell_count T.cells) T.meta_count) gcs ≡ true
    inputs : distinct (cell_names_in T.strings 1 T.cell_count T.cells) ≡ true
    outputs : distinct (cell_names_in T.strings 2 T.cell_count T.cells) ≡ true

  rules : Rules
  unfolding valid view kinds_in
  rules =
      let w = valid_roomy (view T) was_valid in
      let n₁ = length_cells T (pool_in T) T.cell_count T.cells in
      let n₂ = length_metas T T.meta_count T.metas in
      let n₃ = length_ios T T.io_count T.ios in
      let a₁ : length gcs ≤ 512 = w.cells in
      let a₂ : length gms ≤ 512 = w.metas in
      let a₃ : length gis ≤ 64 = w.ios in
      let k : length (meta_strings gms ++ (ios_names ++ cell_names)) ≤ 16384 = w.strings in
      let p = length-append (meta_strings gms) (ios_names ++ cell_names) in
      let q = length-append ios_names cell_names in
      let e₃ : distinct (io_names gis) ≡ true = fact _ was_valid 3 in
      let e₄ : every (cell_sound (widths_of gcs) (length gms)) gcs ≡ true = valid_cells (view T) was_valid in
      let e₅ : distinct (names_as 1 gcs) ≡ true = fact _ was_valid 5 in
      let e₆ : distinct (names_as 2 gcs) ≡ true = fact _ was_valid 6 in
      let v : widths_of gcs ≡ widths_in T.cell_count T.cells = sym (cell.widths_are T (pool_in T) T.cell_count T.cells) in
      record {
        cells_most = omega (arith, n₁, a₁);
        wide = w.bits;
        outs = w.outputs;
        runs = w.runs;
        metas_most = omega (arith, n₂, a₂);
        members = w.members;
        ios_most = omega (arith, n₃, a₃);
        metas_short = w.meta_strings;
        ios_short = w.io_strings;
        cells_short = w.cell_strings;
        strings = omega (arith, k, p, q);
        metas_sound_lem = valid_metas (view T) was_valid;
        ios_sound = fact _ was_valid 2;
        ios_unique = rw (io.io_names_lem T T.io_count T.ios) e₃;
        cells_sound = subst (λ (u : ℕ). every (cell_sound (widths_in T.cell_count T.cells) u) gcs ≡ true) n₂ (subst (λ (u : List ℕ). every (cell_sound u (length gms)) gcs ≡ true) v e₄);
        inputs = rw (io.cell_names T (pool_in T) 1 T.cell_count T.cells) e₅;
        outputs = rw (io.cell_names T (pool_in T) 2 T.cell_count T.cells) e₆;
      }

  behind : (xs t : List ℕ) → fits xs t ≡ true → blank (drop (0 + length xs) t) ≡ true
  behind xs t f = rw (zero-add (length xs)) (fits_split xs t f).1

  metas_right : metas_part T.metas T.members T.attr_bits T.meta_count ≡ Some from
  unfolding metas_part
  metas_right =
      let r = all_laid in
      let v = rules in
      let A = length (attr_bits_of gms) in
      let f : length (attr_bits_of gms) ≤ length T.attr_bits = fits_length (attr_bits_of gms) T.attr_bits r.attr_bits in
      let w = meta.walks T (meta_pools T l) T.meta_count 0 0 0 0 (omega (arith, v.metas_most, l.long.metas)) r.metas v.metas_sound_lem v.metas_short (omega (arith, v.strings)) (omega (arith, v.members)) (omega (arith, f, l.long.attr_bits)) in
      rw (le-leb T.meta_count 512 v.metas_most, w, behind (members_of gms) T.members r.members, behind (attr_bits_of gms) T.attr_bits r.attr_bits) (ap Some (zero-add from))

  pub ios_right : ios_walk T.ios 0 from T.io_count ≡ Some until
  ios_right =
      let r = all_laid in
      let v = rules in
      io.walks T l.long.strings l.bytes T.io_count 0 from (omega (arith, v.ios_most, l.long.ios)) r.ios v.ios_sound v.ios_short (omega (arith, v.strings))

  ios_part_right : ios_part T.ios T.strings T.io_count from ≡ Some until
  unfolding ios_part
  ios_part_right = let v = rules in rw (le-leb T.io_count 64 v.ios_most, ios_right, v.ios_unique)

  cells_right : cells_part T.cells T.runs T.run_bits T.strings T.cell_count T.meta_count until ≡ Some (until + length cell_names)
  unfolding cells_part
  cells_right =
      let r = all_laid in
      let v = rules in
      let f : length (run_bits_of (runs_of gcs)) ≤ length T.run_bits = fits_length (run_bits_of (runs_of gcs)) T.run_bits r.run_bits in
      let d = fits_split (run_rows 0 (runs_of gcs)) T.runs r.runs in
      let n : length (run_rows 0 (runs_of gcs)) ≡ (0 + length (runs_of gcs)) * 3 = length_run_rows 0 (runs_of gcs) ∙ rw (zero-add (length (runs_of gcs))) in
      let b₁ : blank (drop ((0 + length (runs_of gcs)) * 3) T.runs) ≡ true = rw (← n) d.1 in
      let b₂ : blank (drop (0 + length (run_bits_of (runs_of gcs))) T.run_bits) ≡ true = behind (run_bits_of (runs_of gcs)) T.run_bits r.run_bits in
      let w = cell.walks T (cell_pools T l) (widths_in T.cell_count T.cells) T.meta_count T.cell_count 0 until 0 0 0 0 (drop (length (run_rows 0 (runs_of gcs))) T.runs)
      (omega (arith, v.cells_most, l.long.cells)) r.cells d.0 v.cells_sound v.cells_short (omega (arith, v.strings)) (omega (arith, v.runs)) (omega (arith, f, l.long.run_bits)) in
      rw (le-leb T.cell_count 512 v.cells_most, w, le-leb (0 + total (λ (c : Cell). c.width) gcs) 4096 (omega (arith, v.wide)), le-leb (0 + total output_bits gcs) 4096 (omega (arith, v.outs)), b₁, b₂, v.inputs, v.outputs)

  all_right : parts_good T ≡ true
  unfolding parts_good
  all_right =
      let r = all_laid in
      let p = length-append (meta_strings gms) (ios_names ++ cell_names) in
      let q = length-append ios_names cell_names in
      let n : until + length cell_names ≡ length (meta_strings gms ++ (ios_names ++ cell_names)) = omega (arith, p, q) in
      rw (metas_right, ios_part_right, cells_right, n) (fits_split (meta_strings gms ++ (ios_names ++ cell_names)) T.strings r.strings).1

-- THE CHECK DECIDES
pub decides : (T : Tables) → Lent T → parts_good T ≡ good T
decides T l = same_test (parts_good T) (good T) (parts_good_lem T l) (λ g. all_right T l g)

-- in good tables the names of I/O rows are there
pub good_named : (T : Tables) (l : Lent T) → good T ≡ true → IosNamed T.strings T.io_count T.ios
good_named T l g = let v = rules T l g in ios_named T.strings T.io_count T.ios (from T l g) (until T l g) l.long.strings (omega (arith, v.ios_most, l.long.ios)) (ios_right T l g)

-- I/O rows need the strings alone
abbrev io_with : List ℕ → List ℕ → Io
io_with strings t = record { name = part (get_or t 0 0) (get_or t 1 0) strings; width = get_or t 2 0 }

pub ios_alone : (T U : Tables) → T.strings ≡ U.strings → (n : ℕ) (t : List ℕ) → ios_in T n t ≡ ios_in U n t
unfolding ios_in
ios_alone T U e zero t = refl
ios_alone T U e (suc n) t = ap₂ (λ (x : Io) (l : List Io). x ∷ l) (ap (λ (strings : List ℕ). io_with strings t) e) (ios_alone T U e n (drop 3 t))

-- THE LOOKUP, one row further
module _ (T : Tables) (n i : ℕ) (rows name : List ℕ) (h : i < n) where
  ios_cons : ios_in T (n - i) (drop (i * 3) rows) ≡ io_in T (drop (i * 3) rows) ∷ (ios_in T (n - (i + 1)) (drop ((i + 1) * 3) rows))
  unfolding ios_in
  ios_cons = let m : n - i ≡ suc (n - (i + 1)) = omega arith in rw (m, ← next_row 3 i rows (omega arith))

  pub found_here : true ≡ same (part (get_or (drop (i * 3) rows) 0 0) (get_or (drop (i * 3) rows) 1 0) T.strings) name → Ok (i, get_or (drop (i * 3) rows) 2 0) ≡ io_from (ios_in T (n - i) (drop (i * 3) rows)) i name
  unfolding io_from
  found_here e = sym (rw (ios_cons, ← e, io_from))

  pub found_later : false ≡ same (part (get_or (drop (i * 3) rows) 0 0) (get_or (drop (i * 3) rows) 1 0) T.strings) name → io_from (ios_in T (n - (i + 1)) (drop ((i + 1) * 3) rows)) (i + 1) name ≡ io_from (ios_in T (n - i) (drop (i * 3) rows)) i name
  unfolding io_from
  found_later e = sym (rw (ios_cons, ← e, io_from))

pub found_none : (T : Tables) (n i : ℕ) (rows name : List ℕ) → n ≤ i → Err (refusal 18 (at 0)) ≡ io_from (ios_in T (n - i) rows) i name
unfolding io_from ios_in
found_none T n i rows name h = let m : n - i ≡ 0 = omega arith in rw m

-- LENT SLICES that are long enough hold tables of their lengths
pub record Enough (rows strings bits : List ℕ) : Type 0 where
  pub rows_long : 26307 ≤ length rows
  pub strings_long : 16384 ≤ length strings
  pub bits_long : 393728 ≤ length bits

pub lent_in : (rows strings bits : List ℕ) → Enough rows strings bits → every is_byte strings ≡ true → every is_number rows ≡ true → Lent (tables_in rows strings bits)
unfolding tables_in part
lent_in rows strings bits e b w =
    let r = e.rows_long in
    let s = e.strings_long in
    let t = e.bits_long in
    record {
      long = record {
        metas = simp (length-take, length-drop) (omega arith);
        members = simp (length-take, length-drop) (omega arith);
        ios = simp (length-take, length-drop) (omega arith);
        cells = simp (length-take, length-drop) (omega arith);
        runs = simp (length-take, length-drop) (omega arith);
        strings = simp (length-take, length-drop) (omega arith);
        attr_bits = simp (length-take, length-drop) (omega arith);
        run_bits = simp (length-take, length-drop) (omega arith);
      };
      bytes = every_take is_byte 16384 strings b;
      words = every_part is_number 3 8192 rows w;
    }

long_enough : (n m : ℕ) → ltb n m ≡ false → m ≤ n
long_enough n m h = ltb-false n m h

-- what the check's good answer tells
pub checked_good : (rows strings bits : List ℕ) → check_of rows strings bits ≡ Ok tt → Enough rows strings bits × (good (tables_in rows strings bits) ≡ true)
unfolding check_of short
checked_good rows strings bits h = bool_cases (ltb (length rows) 26307 || (ltb (length strings) 16384 || ltb (length bits) 393728))
    (λ e. let z : ◌≡◌ {A = ℕ} 0 1 = cc (rw e at h) in absurd (omega arith))
    (λ e. let p = or_false (ltb (length rows) 26307) _ e in
    let q = or_false (ltb (length strings) 16384) (ltb (length bits) 393728) p.1 in
    bool_cases (good (tables_in rows strings bits))
    (λ g. (record { rows_long = long_enough _ _ p.0; strings_long = long_enough _ _ q.0; bits_long = long_enough _ _ q.1 }, g))
    (λ g. let z : ◌≡◌ {A = ℕ} 0 1 = cc (rw (e, g) at h) in absurd (omega arith)))

-- THE SLICES ARE CUT into their regions
abbrev pub cuts : List ℕ → List ℕ → List ℕ → ℕ → ℕ → ℕ → Tables
cuts rows strings bits m i c = regions m i c (take 8192 (drop 3 rows)) (take 1024 (drop 8195 rows)) (take 192 (drop 9219 rows)) (take 4608 (drop 9411 rows)) (take 12288 (drop 14019 rows)) (take 16384 (drop 0 strings)) (take 131072 (drop 0 bits)) (take 262656 (drop 131072 bits))

pub metas_cut : (rows bits metas members attrs : List ℕ) (n : ℕ) (r : Option ℕ) → metas ≡ part 3 8192 rows → members ≡ part 8195 1024 rows → attrs ≡ part 0 131072 bits → n ≡ get_or rows 0 0 → r ≡ metas_part metas members attrs n → r ≡ metas_upto rows bits
unfolding metas_upto
metas_cut rows bits metas members attrs n r e f g h p = p ∙ rw (e, f, g, h)

pub ios_cut : (rows strings ios : List ℕ) (n s : ℕ) (r : Option ℕ) → ios ≡ part 9219 192 rows → n ≡ get_or rows 1 0 → r ≡ ios_part ios strings n s → r ≡ ios_upto rows strings s
unfolding ios_upto
ios_cut rows strings ios n s r e h p = p ∙ rw (e, h)

pub cells_cut : (rows strings bits cells runs trits : List ℕ) (n m s : ℕ) (r : Option ℕ) → cells ≡ part 9411 4608 rows → runs ≡ part 14019 12288 rows → trits ≡ part 131072 262656 bits → n ≡ get_or rows 2 0 → m ≡ get_or rows 0 0
    → r ≡ cells_part cells runs trits strings n m s → r ≡ cells_upto rows strings bits s
unfolding cells_upto
cells_cut rows strings bits cells runs trits n m s r e f g h k p = p ∙ rw (e, f, g, h, k)

-- the parts of the slices decide, as the code finds it
module _ (rows strings bits text : List ℕ) (h : (26307 ≤ length rows) × (16384 ≤ length strings) × (393728 ≤ length bits)) (b : (i : ℕ) → get_or strings i 0 < 256) (w : (i : ℕ) → get_or rows i 0 < 4294967296) (e : text ≡ part 0 16384 strings) where
  decided : blank_from text (and_then (metas_upto rows bits) (λ s. and_then (ios_upto rows text s) (λ t. cells_upto rows text bits t))) ≡ good (tables_in rows strings bits)
  unfolding parts_good metas_upto ios_upto cells_upto tables_in part
  decided =
      rw e
      (decides (tables_in rows strings bits)
      (lent_in rows strings bits (record { rows_long = h.0; strings_long = h.1; bits_long = h.2 }) (every_below 256 strings b) (every_below 4294967296 rows w)))

  pub metas_wrong : metas_upto rows bits ≡ None → false ≡ good (tables_in rows strings bits)
  metas_wrong p = (rw p at decided)

  pub ios_wrong : (s : ℕ) → metas_upto rows bits ≡ Some s → ios_upto rows text s ≡ None → false ≡ good (tables_in rows strings bits)
  ios_wrong s p q = (rw (p, q) at decided)

  pub cells_wrong : (s t : ℕ) → metas_upto rows bits ≡ Some s → ios_upto rows text s ≡ Some t → cells_upto rows text bits t ≡ None → false ≡ good (tables_in rows strings bits)
  cells_wrong s t p q r = (rw (p, q, r) at decided)

  pub to_the_end : (s t x : ℕ) → metas_upto rows bits ≡ Some s → ios_upto rows text s ≡ Some t → cells_upto rows text bits t ≡ Some x → blank (drop x text) ≡ good (tables_in rows strings bits)
  to_the_end s t x p q r = (rw (p, q, r) at decided)

-- THE LOOKUP in tables that the check calls good
module _ (rows strings bits : List ℕ) (h : check_of rows strings bits ≡ Ok tt) (b : (i : ℕ) → get_or strings i 0 < 256) (w : (i : ℕ) → get_or rows i 0 < 4294967296)
    (ios text : List ℕ) (n : ℕ) (e : ios ≡ part 9219 192 rows) (f : text ≡ part 0 16384 strings) (q : n ≡ get_or rows 1 0) where
  pub found_named : IosNamed text n ios
  unfolding tables_in part
  found_named =
      let k = checked_good rows strings bits h in
      rw (e, f, q) (good_named (tables_in rows strings bits) (lent_in rows strings bits k.0 (every_below 256 strings b) (every_below 4294967296 rows w)) k.1)

  pub found_is : (name : List ℕ) → io_from (ios_in (strings_alone text) n ios) 0 name ≡ lookup_of rows strings bits name
  unfolding lookup_of view tables_in part
  found_is name = rw (h, e, f, q) (ap (λ (l : List Io). io_from l 0 name) (ios_alone (strings_alone (take 16384 strings)) (tables_in rows strings bits) refl (get_or rows 1 0) (take 192 (drop 9219 rows))))
