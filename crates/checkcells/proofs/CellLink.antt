-- A cell row is good exactly where its name and its runs are laid out as the cell that it shows, which is sound.
use Rattle.std.specs.Prelude.{Option, Some, None}
use mathlib.Core.Path.{◌≡◌, refl, sym, ap, ◌∙◌}
use mathlib.Core.Bool.{Bool, true, false, not, ◌&&◌, ◌||◌}
use mathlib.Core.List.{List, [], ◌∷◌, ◌++◌, append_assoc}
use Prim.Native.Nat.{ℕ, zero, suc, ◌+◌, ◌-◌, ◌*◌, ◌≤◌}
use native.Mathlib.Omega.{arith}
use native.Mathlib.Nat.{add-zero, zero-add}
use native.Mathlib.Decide.{ℕ_discrete}
use lib.Dec.{eqb, leb}
use lib.ListN.{length, drop, take, length-append}
use lib.Seq.{drop-drop}
use borrow.Author.Tests.{eq-eqb, ne_eqb, eqb-true, leb-true, le-leb}
use Rattle.ground.specs.Choice.{pick}
use Rattle.ground.specs.Lists.{every, joined}
use Rattle.ground.specs.Regions.{part}
use Rattle.ground.proofs.Bools.{bool_cases, never_both, and_true, true_and, fact, facts}
use Rattle.ground.proofs.Regions.{part_length}
use Rattle.kinds.specs.Kinds.{kind_at, is_kind}
use Rattle.netlist.specs.Netlist.{Run, Cell, operand_width, bits_in, run_bits_of, cell_runs}
use Rattle.netlist.specs.Rules.{is_byte, is_empty, operand_sound, runless, cell_width, cell_sound, output_bits, short_string}
use Rattle.netlist.specs.Tables.{Tables, run_row, run_rows}
use Rattle.netlist.specs.View.{word, run_in, runs_in, pool_in, cell_in}
use Rattle.netlist.proofs.Lengths.{run_bits_append}
use Rattle.checkmeta.proofs.Fits.{every_part, none}
use Rattle.ground.proofs.Pairs.{some_first, some_second}
use Rattle.checkcells.specs.Runs.{operand_walk}
use Rattle.checkcells.specs.Walk.{cell_named, cell_head, cell_placed, operands_walk, judged, out_width, cell_good}
use Rattle.checkcells.proofs.Laws.{Placed, placed_is, good_placed}
use Rattle.checkcells.proofs.RunLink.{Operands, operand_walked, operand_walks}

-- PARTS OF THE RUNS
pub length_runs_in : (T : Tables) (n : ℕ) (t : List ℕ) → length (runs_in T n t) ≡ n
unfolding runs_in
length_runs_in T zero t = refl
length_runs_in T (suc n) t = ap suc (length_runs_in T n (drop 3 t))

drop_runs : (T : Tables) (i n : ℕ) (t : List ℕ) → drop i (runs_in T (i + n) t) ≡ runs_in T n (drop (i * 3) t)
unfolding runs_in
drop_runs T zero n t = rw (zero-add n)
drop_runs T (suc i) n t =
    let e : suc i + n ≡ suc (i + n) = omega arith in
    let f : suc i * 3 ≡ 3 + i * 3 = omega arith in
    ap (λ (k : ℕ). drop (suc i) (runs_in T k t)) e ∙ drop_runs T i n (drop 3 t) ∙ rw f (ap (λ l. runs_in T n l) (drop-drop (i * 3) 3 t))

take_runs : (T : Tables) (k n : ℕ) (t : List ℕ) → take k (runs_in T (k + n) t) ≡ runs_in T k t
unfolding runs_in
take_runs T zero n t = refl
take_runs T (suc k) n t =
    let e : suc k + n ≡ suc (k + n) = omega arith in
    ap (λ (m : ℕ). take (suc k) (runs_in T m t)) e ∙ ap (λ l. run_in T t ∷ l) (take_runs T k n (drop 3 t))

pub part_runs : (T : Tables) (i k n : ℕ) (t : List ℕ) → i + k ≤ n → part i k (runs_in T n t) ≡ runs_in T k (drop (i * 3) t)
unfolding part
part_runs T i k n t h =
    let e : n ≡ i + (k + (n - (i + k))) = omega arith in
    ap (λ (m : ℕ). take k (drop i (runs_in T m t))) e ∙ ap (λ l. take k l) (drop_runs T i (k + (n - (i + k))) t) ∙ take_runs T k (n - (i + k)) (drop (i * 3) t)

-- RUNS AFTER RUNS
pub rows_append : (b : ℕ) (rs qs : List Run) → run_rows b (rs ++ qs) ≡ run_rows b rs ++ run_rows (b + length (run_bits_of rs)) qs
unfolding run_rows joined
rows_append b [] qs = rw (add-zero b)
rows_append b (r ∷ rs) qs =
    let e : b + length (bits_in r) + length (run_bits_of rs) ≡ b + length (bits_in r ++ run_bits_of rs) = omega (arith, length-append (bits_in r) (run_bits_of rs)) in
    rw (rows_append (b + length (bits_in r)) rs qs, e) (sym (append_assoc (run_row b r) _ _))

pub bits_append : (rs qs : List Run) → run_bits_of (rs ++ qs) ≡ run_bits_of rs ++ run_bits_of qs
unfolding joined
bits_append [] qs = refl
bits_append (r ∷ rs) qs = rw (bits_append rs qs) (sym (append_assoc (bits_in r) (run_bits_of rs) (run_bits_of qs)))

-- THREE OPERANDS, one after the other
abbrev pub runs_at : Tables → ℕ → ℕ → List Run
runs_at T r n = runs_in T n (drop (r * 3) T.runs)

abbrev pub three_runs : Tables → ℕ → ℕ → ℕ → ℕ → List Run
three_runs T r a b c = runs_at T r a ++ (runs_at T (r + a) b ++ runs_at T (r + a + b) c)

pub record Three (T : Tables) (ws : List ℕ) (r e a b c x y z h : ℕ) : Type 0 where
  pub rows : drop (r * 3) T.runs ≡ run_rows e (three_runs T r a b c) ++ drop ((r + (a + (b + c))) * 3) T.runs
  pub bits : drop e T.run_bits ≡ run_bits_of (three_runs T r a b c) ++ drop h T.run_bits
  pub end : h ≡ e + length (run_bits_of (three_runs T r a b c))
  pub x_wide : x ≡ operand_width (runs_at T r a)
  pub y_wide : y ≡ operand_width (runs_at T (r + a) b)
  pub z_wide : z ≡ operand_width (runs_at T (r + a + b) c)
  pub a_sound : operand_sound ws (runs_at T r a) ≡ true
  pub b_sound : operand_sound ws (runs_at T (r + a) b) ≡ true
  pub c_sound : operand_sound ws (runs_at T (r + a + b) c) ≡ true

module _ (T : Tables) (l : length T.run_bits ≡ 262656) (ws : List ℕ) (r e a b c : ℕ) where
  three_of : (x y z f g h : ℕ) → Operands T ws r e 0 a x f → Operands T ws (r + a) f 0 b y g → Operands T ws (r + a + b) g 0 c z h → Three T ws r e a b c x y z h
  three_of x y z f g h p q s =
      let A = runs_at T r a in
      let B = runs_at T (r + a) b in
      let C = runs_at T (r + a + b) c in
      let k : (r + a + b + c) * 3 ≡ (r + (a + (b + c))) * 3 = omega arith in
      let d : length (run_bits_of (A ++ (B ++ C))) ≡ length (run_bits_of A) + (length (run_bits_of B) + length (run_bits_of C)) = rw (run_bits_append A (B ++ C), run_bits_append B C) in
      let rows : drop (r * 3) T.runs ≡ run_rows e A ++ (run_rows f B ++ (run_rows g C ++ drop ((r + a + b + c) * 3) T.runs)) =
      p.rows ∙ ap (λ (t : List ℕ). run_rows e A ++ t) (q.rows ∙ ap (λ (t : List ℕ). run_rows f B ++ t) s.rows) in
      let bits : drop e T.run_bits ≡ run_bits_of A ++ (run_bits_of B ++ (run_bits_of C ++ drop h T.run_bits)) =
      p.bits ∙ ap (λ (t : List ℕ). run_bits_of A ++ t) (q.bits ∙ ap (λ (t : List ℕ). run_bits_of B ++ t) s.bits) in
      record {
        rows = rw (rows_append e A (B ++ C), rows_append (e + length (run_bits_of A)) B C, ← p.end, ← q.end, ← k) (rows ∙ simp append_assoc);
        bits = rw (bits_append A (B ++ C), bits_append B C) (bits ∙ simp append_assoc);
        end = omega (arith, d, p.end, q.end, s.end);
        x_wide = p.wide ∙ zero-add _;
        y_wide = q.wide ∙ zero-add _;
        z_wide = s.wide ∙ zero-add _;
        a_sound = p.sound;
        b_sound = q.sound;
        c_sound = s.sound;
      }

  pub three_walked : (x y z h : ℕ) → (r + (a + (b + c))) * 3 ≤ length T.runs → operands_walk ws T.run_bits T.runs r e a b c ≡ Some (x, y, z, h) → Three T ws r e a b c x y z h
  unfolding operands_walk
  three_walked x y z h k w = go (operand_walk ws T.run_bits T.runs r e 0 a) refl
    where
      wrong : {P : Type 0} → ◌≡◌ {A = Option (ℕ × ℕ × ℕ × ℕ)} None (Some (x, y, z, h)) → P
      wrong d = let n : ◌≡◌ {A = ℕ} 0 1 = cc (d) in absurd (omega arith)

      go₃ : (x₁ f y₁ g : ℕ) → operand_walk ws T.run_bits T.runs r e 0 a ≡ Some (x₁, f) → operand_walk ws T.run_bits T.runs (r + a) f 0 b ≡ Some (y₁, g)
          → (o : Option (ℕ × ℕ)) → operand_walk ws T.run_bits T.runs (r + a + b) g 0 c ≡ o → Three T ws r e a b c x y z h
      go₃ x₁ f y₁ g p q None s = wrong (rw (p, q, s) at w)
      go₃ x₁ f y₁ g p q (Some (z₁, h₁)) s =
          let d : ◌≡◌ {A = Option (ℕ × ℕ × ℕ × ℕ)} (Some (x₁, y₁, z₁, h₁)) (Some (x, y, z, h)) = rw (p, q, s) at w in
          let t : ◌≡◌ {A = ℕ × ℕ × ℕ × ℕ} (x₁, y₁, z₁, h₁) (x, y, z, h) = cc (d) in
          let dx : x₁ ≡ x = ap (λ (v : ℕ × ℕ × ℕ × ℕ). v.0) t in
          let dy : y₁ ≡ y = ap (λ (v : ℕ × ℕ × ℕ × ℕ). v.1) t in
          let dz : z₁ ≡ z = ap (λ (v : ℕ × ℕ × ℕ × ℕ). v.2) t in
          let dh : h₁ ≡ h = ap (λ (v : ℕ × ℕ × ℕ × ℕ). v.3) t in
          rw (← dx, ← dy, ← dz, ← dh) (three_of x₁ y₁ z₁ f g h₁ (operand_walked T l ws a r e 0 x₁ f (omega arith) p) (operand_walked T l ws b (r + a) f 0 y₁ g (omega arith) q) (operand_walked T l ws c (r + a + b) g 0 z₁ h₁ (omega arith) s))

      go₂ : (x₁ f : ℕ) → operand_walk ws T.run_bits T.runs r e 0 a ≡ Some (x₁, f) → (o : Option (ℕ × ℕ)) → operand_walk ws T.run_bits T.runs (r + a) f 0 b ≡ o → Three T ws r e a b c x y z h
      go₂ x₁ f p None q = wrong (rw (p, q) at w)
      go₂ x₁ f p (Some (y₁, g)) q = go₃ x₁ f y₁ g p q (operand_walk ws T.run_bits T.runs (r + a + b) g 0 c) refl

      go : (o : Option (ℕ × ℕ)) → operand_walk ws T.run_bits T.runs r e 0 a ≡ o → Three T ws r e a b c x y z h
      go None p = wrong (rw p at w)
      go (Some (x₁, f)) p = go₂ x₁ f p (operand_walk ws T.run_bits T.runs (r + a) f 0 b) refl

  pub three_walks : (rest : List ℕ) → drop (r * 3) T.runs ≡ run_rows e (three_runs T r a b c) ++ rest → e + length (run_bits_of (three_runs T r a b c)) ≤ 262656
      → operand_sound ws (runs_at T r a) ≡ true → operand_sound ws (runs_at T (r + a) b) ≡ true → operand_sound ws (runs_at T (r + a + b) c) ≡ true
      → (operands_walk ws T.run_bits T.runs r e a b c ≡ Some (operand_width (runs_at T r a), operand_width (runs_at T (r + a) b), operand_width (runs_at T (r + a + b) c), e + length (run_bits_of (three_runs T r a b c))))
      × (drop ((r + (a + (b + c))) * 3) T.runs ≡ rest)
  unfolding operands_walk
  three_walks rest w m p q s =
      let A = runs_at T r a in
      let B = runs_at T (r + a) b in
      let C = runs_at T (r + a + b) c in
      let k : (r + a + b + c) * 3 ≡ (r + (a + (b + c))) * 3 = omega arith in
      let d : length (run_bits_of (A ++ (B ++ C))) ≡ length (run_bits_of A) + (length (run_bits_of B) + length (run_bits_of C)) = rw (run_bits_append A (B ++ C), run_bits_append B C) in
      let f = e + length (run_bits_of A) in
      let g = f + length (run_bits_of B) in
      let n : g + length (run_bits_of C) ≡ e + length (run_bits_of (A ++ (B ++ C))) = omega (arith, d) in
      let w' : drop (r * 3) T.runs ≡ run_rows e A ++ (run_rows f B ++ (run_rows g C ++ rest)) = w ∙ rw (rows_append e A (B ++ C), rows_append f B C) (simp append_assoc) in
      let o₁ = operand_walks T l ws a r e 0 _ w' (omega (arith, d)) p in
      let o₂ = operand_walks T l ws b (r + a) f 0 _ o₁.1 (omega (arith, d)) q in
      let o₃ = operand_walks T l ws c (r + a + b) g 0 _ o₂.1 (omega (arith, d)) s in
      (rw (o₁.0, o₂.0, o₃.0, zero-add (operand_width A), zero-add (operand_width B), zero-add (operand_width C), n), rw k at o₃.1)

-- THE CELL OF A ROW that is placed
pub record Shown (T : Tables) (r : ℕ) (row : List ℕ) : Type 0 where
  pub name : length (cell_in T (pool_in T) row).name ≡ word row 3
  pub a_is : (cell_in T (pool_in T) row).a ≡ runs_at T r (word row 6)
  pub b_is : (cell_in T (pool_in T) row).b ≡ runs_at T (r + word row 6) (word row 7)
  pub c_is : (cell_in T (pool_in T) row).c ≡ runs_at T (r + word row 6 + word row 7) (word row 8)

-- tables whose pools have their lengths, and hold bytes
pub record Pools (T : Tables) : Type 0 where
  pub strings : length T.strings ≡ 16384
  pub runs : length T.runs ≡ 12288
  pub bits : length T.run_bits ≡ 262656
  pub bytes : every is_byte T.strings ≡ true

name_facts : (h : Bool) (n : ℕ) → pick h (leb 1 n && leb n 255) (eqb n 0) ≡ true → (pick h (not (eqb n 0)) (eqb n 0) ≡ true) × (leb n 255 ≡ true)
name_facts true n p = let q = and_true (leb 1 n) (leb n 255) p in let k = leb-true 1 n q.0 in (rw (ne_eqb n 0 (λ e. omega arith)), q.1)
name_facts false n p = let k = eqb-true n 0 p in (p, le-leb n 255 (omega arith))

facts_name : (h : Bool) (n : ℕ) → pick h (not (eqb n 0)) (eqb n 0) ≡ true → leb n 255 ≡ true → pick h (leb 1 n && leb n 255) (eqb n 0) ≡ true
facts_name true n p q = true_and (leb 1 n) (leb n 255) (go (ℕ_discrete n 0)) q
  where
    go : Dec (n ≡ 0) → leb 1 n ≡ true
    go (yes e) = never_both (rw (eq-eqb n 0 e) at p) refl
    go (no e) = le-leb 1 n (omega arith)
facts_name false n p q = p

module _ (T : Tables) (P : Pools T) where
  pub placed_shown : (s r : ℕ) (row : List ℕ) → Placed s r row → Shown T r row
  placed_shown s r row o =
      let h = o.runs in
      record {
        name = part_length (word row 2) (word row 3) T.strings (omega (arith, o.name, o.strings, P.strings));
        a_is = rw o.first (part_runs T r (word row 6) 4096 T.runs (omega arith));
        b_is = rw o.first (part_runs T (r + word row 6) (word row 7) 4096 T.runs (omega arith));
        c_is = rw o.first (part_runs T (r + word row 6 + word row 7) (word row 8) 4096 T.runs (omega arith));
      }

  module _ (ws : List ℕ) (metas s r b : ℕ) (row : List ℕ) where
    abbrev pub cell : Cell
    cell = cell_in T (pool_in T) row

    -- what a good row tells
    pub record Told (out e : ℕ) : Type 0 where
      pub placed : Placed s r row
      pub three : drop (r * 3) T.runs ≡ run_rows b (cell_runs cell) ++ drop ((r + (word row 6 + (word row 7 + word row 8))) * 3) T.runs
      pub bits : drop b T.run_bits ≡ run_bits_of (cell_runs cell) ++ drop e T.run_bits
      pub end : e ≡ b + length (run_bits_of (cell_runs cell))
      pub outs : out ≡ output_bits cell
      pub sound : cell_sound ws metas cell ≡ true
      pub short : short_string cell.name ≡ true

    told_of : (x y z e : ℕ) → is_kind (word row 0) ≡ true → cell_placed s r row && cell_head metas (word row 0) row ≡ true
        → Three T ws r b (word row 6) (word row 7) (word row 8) x y z e → (kind_at (word row 0)).widths (word row 1) x y z ≡ true → Told (out_width (word row 0) x) e
    told_of x y z e k h t w =
        let p = and_true (cell_placed s r row) (cell_head metas (word row 0) row) h in
        let o = placed_is s r row p.0 in
        let v = placed_shown s r row o in
        let q = and_true (cell_named (word row 0) (word row 3) && leb (word row 4) metas) _ p.1 in
        let q₁ = and_true (cell_named (word row 0) (word row 3)) (leb (word row 4) metas) q.0 in
        let q₂ = and_true (leb 1 (kind_at (word row 0)).operands || eqb (word row 6) 0) _ q.1 in
        let q₃ = and_true (leb 2 (kind_at (word row 0)).operands || eqb (word row 7) 0) _ q₂.1 in
        let n = name_facts (kind_at (word row 0)).named (word row 3) q₁.0 in
        let la : length cell.a ≡ word row 6 = ap length v.a_is ∙ length_runs_in T (word row 6) _ in
        let lb : length cell.b ≡ word row 7 = ap length v.b_is ∙ length_runs_in T (word row 7) _ in
        let lc : length cell.c ≡ word row 8 = ap length v.c_is ∙ length_runs_in T (word row 8) _ in
        let f₁ : pick (kind_at (word row 0)).named (not (is_empty cell.name)) (is_empty cell.name) ≡ true = rw v.name n.0 in
        let f₄ : leb 1 (kind_at (word row 0)).operands || runless cell.a ≡ true = rw la q₂.0 in
        let f₅ : leb 2 (kind_at (word row 0)).operands || runless cell.b ≡ true = rw lb q₃.0 in
        let f₆ : leb 3 (kind_at (word row 0)).operands || runless cell.c ≡ true = rw lc q₃.1 in
        let f₇ : cell_width (word row 0) (word row 1) (operand_width cell.a) (operand_width cell.b) (operand_width cell.c) ≡ true = rw (v.a_is, v.b_is, v.c_is, ← t.x_wide, ← t.y_wide, ← t.z_wide) w in
        let f₈ : operand_sound ws cell.a ≡ true = rw v.a_is t.a_sound in
        let f₉ : operand_sound ws cell.b ≡ true = rw v.b_is t.b_sound in
        let fa : operand_sound ws cell.c ≡ true = rw v.c_is t.c_sound in
        record {
          placed = o;
          three = rw (v.a_is, v.b_is, v.c_is) t.rows;
          bits = rw (v.a_is, v.b_is, v.c_is) t.bits;
          end = rw (v.a_is, v.b_is, v.c_is) t.end;
          outs = rw (v.a_is, t.x_wide);
          sound = facts _ _ k (facts _ _ f₁ (facts _ _ (every_part is_byte _ _ T.strings P.bytes) (facts _ _ q₁.1 (facts _ _ f₄ (facts _ _ f₅ (facts _ _ f₆ (facts _ _ f₇ (facts _ _ f₈ (facts _ _ f₉ (facts _ _ fa none))))))))));
          short = rw v.name n.1;
        }

    pub good_told : (out e : ℕ) → cell_good ws T.run_bits T.runs metas s r b row ≡ Some (out, e) → Told out e
    unfolding cell_good
    good_told out e g =
        let u = good_placed ws T.run_bits T.runs metas s r b row out e g in
        let j : judged (word row 0) (word row 1) (operands_walk ws T.run_bits T.runs r b (word row 6) (word row 7) (word row 8)) ≡ Some (out, e) = rw (u.0, u.1) at g in
        let o = placed_is s r row (and_true (cell_placed s r row) _ u.1).0 in
        go u o (operands_walk ws T.run_bits T.runs r b (word row 6) (word row 7) (word row 8)) refl j
      where
        wrong : {A : Type 0} → ◌≡◌ {A = Option (ℕ × ℕ)} None (Some (out, e)) → A
        wrong d = let n : ◌≡◌ {A = ℕ} 0 1 = cc (d) in absurd (omega arith)

        go : (is_kind (word row 0) ≡ true) × (cell_placed s r row && cell_head metas (word row 0) row ≡ true) → Placed s r row
            → (w : Option (ℕ × ℕ × ℕ × ℕ)) → operands_walk ws T.run_bits T.runs r b (word row 6) (word row 7) (word row 8) ≡ w → judged (word row 0) (word row 1) w ≡ Some (out, e) → Told out e
        go u o None q j = wrong j
        go u o (Some (x, y, z, h)) q j = bool_cases ((kind_at (word row 0)).widths (word row 1) x y z)
            (λ k. let d : ◌≡◌ {A = Option (ℕ × ℕ)} (Some (out_width (word row 0) x, h)) (Some (out, e)) = rw k at j in
            let d₁ : out_width (word row 0) x ≡ out = some_first d in
            let d₂ : h ≡ e = some_second d in
            rw (← d₁, ← d₂) (told_of x y z h u.0 u.1 (three_walked T P.bits ws r b (word row 6) (word row 7) (word row 8) x y z h (omega (arith, o.runs, P.runs)) q) k))
            (λ k. wrong (rw k at j))

    -- and back: a row that is placed, whose runs are laid, and whose cell is sound
    pub sound_good : Placed s r row → (rest : List ℕ) → drop (r * 3) T.runs ≡ run_rows b (cell_runs cell) ++ rest → b + length (run_bits_of (cell_runs cell)) ≤ 262656
        → cell_sound ws metas cell ≡ true → short_string cell.name ≡ true
        → (cell_good ws T.run_bits T.runs metas s r b row ≡ Some (output_bits cell, b + length (run_bits_of (cell_runs cell))))
        × (drop ((r + (word row 6 + (word row 7 + word row 8))) * 3) T.runs ≡ rest)
    unfolding cell_good
    sound_good o rest w m s₁ s₂ =
        let v = placed_shown s r row o in
        let la : length cell.a ≡ word row 6 = ap length v.a_is ∙ length_runs_in T (word row 6) _ in
        let lb : length cell.b ≡ word row 7 = ap length v.b_is ∙ length_runs_in T (word row 7) _ in
        let lc : length cell.c ≡ word row 8 = ap length v.c_is ∙ length_runs_in T (word row 8) _ in
        let k : is_kind (word row 0) ≡ true = fact _ s₁ 0 in
        let n₀ : pick (kind_at (word row 0)).named (not (is_empty cell.name)) (is_empty cell.name) ≡ true = fact _ s₁ 1 in
        let n : cell_named (word row 0) (word row 3) ≡ true = facts_name (kind_at (word row 0)).named (word row 3) (rw v.name at n₀) (rw v.name at s₂) in
        let m₀ : leb (word row 4) metas ≡ true = fact _ s₁ 3 in
        let a₀ : leb 1 (kind_at (word row 0)).operands || runless cell.a ≡ true = fact _ s₁ 4 in
        let b₀ : leb 2 (kind_at (word row 0)).operands || runless cell.b ≡ true = fact _ s₁ 5 in
        let c₀ : leb 3 (kind_at (word row 0)).operands || runless cell.c ≡ true = fact _ s₁ 6 in
        let w₀ : cell_width (word row 0) (word row 1) (operand_width cell.a) (operand_width cell.b) (operand_width cell.c) ≡ true = fact _ s₁ 7 in
        let a₁ : operand_sound ws cell.a ≡ true = fact _ s₁ 8 in
        let b₁ : operand_sound ws cell.b ≡ true = fact _ s₁ 9 in
        let c₁ : operand_sound ws cell.c ≡ true = fact _ s₁ 10 in
        let t = three_walks T P.bits ws r b (word row 6) (word row 7) (word row 8) rest (rw (v.a_is, v.b_is, v.c_is) at w) (rw (v.a_is, v.b_is, v.c_is) at m) (rw v.a_is at a₁) (rw v.b_is at b₁) (rw v.c_is at c₁) in
        let w₁ = rw (v.a_is, v.b_is, v.c_is) at w₀ in
        let p : cell_placed s r row ≡ true = true_and _ _ (true_and _ _ (eq-eqb (word row 2) s o.name) (le-leb _ _ o.strings)) (true_and _ _ (eq-eqb (word row 5) r o.first) (le-leb _ _ o.runs)) in
        let h : cell_head metas (word row 0) row ≡ true = true_and _ _ (true_and _ _ n m₀) (true_and _ _ (rw la at a₀) (true_and _ _ (rw lb at b₀) (rw lc at c₀))) in
        let g : cell_placed s r row && cell_head metas (word row 0) row ≡ true = true_and _ _ p h in
        (rw (k, g, t.0, v.a_is, v.b_is, v.c_is, w₁), t.1)
