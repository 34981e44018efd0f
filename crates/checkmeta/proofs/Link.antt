-- The walk over metadata rows comes to its end exactly where they are laid out as the metadata that they show, which is sound.
use Rattle.std.specs.Prelude.{Option, Some, None}
use mathlib.Core.Path.{◌≡◌, refl, sym, ap, ◌∙◌}
use mathlib.Core.Bool.{true, ◌&&◌}
use mathlib.Core.List.{List, [], ◌∷◌, ◌++◌, append_assoc}
use Prim.Native.Nat.{ℕ, zero, suc, ◌+◌, ◌*◌, ◌≤◌}
use native.Mathlib.Omega.{arith}
use native.Mathlib.Nat.{add-zero}
use lib.ListN.{length, drop, length-append, length-drop}
use borrow.Author.Tests.{eq-eqb, le-leb}
use Rattle.ground.specs.Lists.{every, joined}
use Rattle.ground.specs.Regions.{blank, fits, part}
use Rattle.ground.proofs.Bools.{bool_cases, never_both, and_true, true_and, every_first, every_more}
use Rattle.ground.proofs.Rest.{rest_rest}
use Rattle.ground.proofs.Regions.{part_length}
use Rattle.netlist.specs.Netlist.{Meta, meta_strings, members_of, attr_bits_of}
use Rattle.netlist.specs.Rules.{refers, is_member, is_byte, is_trit, is_number, meta_sound, metas_sound}
use Rattle.netlist.specs.Tables.{Tables, meta_row, meta_rows}
use Rattle.netlist.specs.View.{word, meta_in, metas_in}
use Rattle.checkmeta.specs.Fields.{name_sound, text_sound, members_sound, bits_sound, kinds_in}
use Rattle.checkmeta.specs.Walk.{sizes_sound, values_sound, placed, meta_good, metas_walk}
use Rattle.checkmeta.proofs.ByField.{Fields, Held, short_meta, fields_sound, sound_fields}
use Rattle.checkmeta.proofs.Fits.{fits_word, fits_first, every_drop, every_part, part_rest, every_word}
use Rattle.checkmeta.proofs.Laws.{Placed, good_placed, kinds_more}

-- a row's words tell the sizes of what it shows
pub record Sized (T : Tables) (row : List ℕ) : Type 0 where
  pub name : length (meta_in T row).name ≡ word row 2
  pub text : length (meta_in T row).text ≡ word row 4
  pub members : length (meta_in T row).members ≡ word row 6
  pub bits : length (meta_in T row).bits ≡ word row 8

-- tables whose pools have their lengths, and hold bytes
pub record Pools (T : Tables) : Type 0 where
  pub strings : length T.strings ≡ 16384
  pub members : length T.members ≡ 1024
  pub bits : length T.attr_bits ≡ 131072
  pub bytes : every is_byte T.strings ≡ true
  pub words : every is_number T.metas ≡ true

module _ (T : Tables) (P : Pools T) (kinds : List ℕ) (s m b : ℕ) (row : List ℕ) where
  placed_sized : Placed s m b row → Sized T row
  placed_sized o = record {
    name = part_length (word row 1) (word row 2) T.strings (omega (arith, o.name, o.strings, P.strings));
    text = part_length (word row 3) (word row 4) T.strings (omega (arith, o.text, o.strings, P.strings));
    members = part_length (word row 5) (word row 6) T.members (omega (arith, o.member, o.members, P.members));
    bits = part_length (word row 7) (word row 8) T.attr_bits (omega (arith, o.bit, o.bits, P.bits));
  }

  -- what a good row shows keeps the rules
  good_fields : meta_good T.members T.attr_bits kinds s m b row ≡ true → Fields kinds (meta_in T row)
  unfolding meta_good
  good_fields g =
      let o = good_placed T.members T.attr_bits kinds s m b row g in
      let z = placed_sized o in
      let p = (and_true (placed s m b row) _ g).1 in
      let q = and_true (sizes_sound row && values_sound kinds row) _ p in
      let u = and_true (sizes_sound row) (values_sound kinds row) q.0 in
      let x = and_true _ _ u.0 in
      let x₁ = and_true _ _ x.0 in
      let x₂ = and_true _ _ x.1 in
      let x₃ = and_true _ _ x₂.1 in
      let v = and_true _ _ u.1 in
      let v₁ = and_true _ _ v.0 in
      let v₂ = and_true _ _ v.1 in
      let w = and_true _ _ q.1 in
      record {
        kind = x₁.0;
        name = rw z.name x₁.1;
        text = rw z.text x₂.0;
        members = rw z.members x₃.0;
        bits = rw z.bits x₃.1;
        inside = v₁.0;
        source = v₁.1;
        number = v₂.0;
        range = v₂.1;
        refer = rw o.member w.0;
        trits = rw o.bit w.1;
      }

  -- and a row that is placed and shows what keeps them is good
  fields_good : Placed s m b row → Fields kinds (meta_in T row) → meta_good T.members T.attr_bits kinds s m b row ≡ true
  unfolding meta_good
  fields_good o f =
      let z = placed_sized o in
      let n : name_sound (word row 0) (word row 2) ≡ true = rw z.name at f.name in
      let t : text_sound (word row 0) (word row 4) ≡ true = rw z.text at f.text in
      let y : members_sound (word row 0) (word row 6) ≡ true = rw z.members at f.members in
      let w : bits_sound (word row 0) (word row 8) ≡ true = rw z.bits at f.bits in
      let r : every (refers is_member kinds) (part m (word row 6) T.members) ≡ true = rw o.member at f.refer in
      let i : every is_trit (part b (word row 8) T.attr_bits) ≡ true = rw o.bit at f.trits in
      let l : placed s m b row ≡ true = true_and _ _
      (true_and _ _ (true_and _ _ (eq-eqb (word row 1) s o.name) (le-leb _ _ o.strings)) (eq-eqb _ _ o.text))
      (true_and _ _ (true_and _ _ (eq-eqb (word row 5) m o.member) (le-leb _ _ o.members)) (true_and _ _ (eq-eqb (word row 7) b o.bit) (le-leb _ _ o.bits))) in
      let a : sizes_sound row ≡ true = true_and _ _ (true_and _ _ f.kind n) (true_and _ _ t (true_and _ _ y w)) in
      let d : values_sound kinds row ≡ true = true_and _ _ (true_and _ _ f.inside f.source) (true_and _ _ f.number f.range) in
      true_and _ _ l (true_and _ _ (true_and _ _ a d) (true_and _ _ r i))

-- THE ROW'S WORDS against those that its metadata has
module _ (T : Tables) (P : Pools T) (s m b : ℕ) (row rest : List ℕ) where
  row_fits : 16 ≤ length row → Placed s m b row → fits (meta_row s m b (meta_in T row) ++ rest) row ≡ fits rest (drop 16 row)
  row_fits h o =
      let z = placed_sized T P [] s m b row o in
      let text : s + length (meta_in T row).name ≡ word row 3 = rw z.name (sym o.text) in
      fits_word row 0 _ _ (omega arith) refl
      ∙ fits_word row 1 _ _ (omega arith) (sym o.name)
      ∙ fits_word row 2 _ _ (omega arith) z.name
      ∙ fits_word row 3 _ _ (omega arith) text
      ∙ fits_word row 4 _ _ (omega arith) z.text
      ∙ fits_word row 5 _ _ (omega arith) (sym o.member)
      ∙ fits_word row 6 _ _ (omega arith) z.members
      ∙ fits_word row 7 _ _ (omega arith) (sym o.bit)
      ∙ fits_word row 8 _ _ (omega arith) z.bits
      ∙ fits_word row 9 _ _ (omega arith) refl
      ∙ fits_word row 10 _ _ (omega arith) refl
      ∙ fits_word row 11 _ _ (omega arith) refl
      ∙ fits_word row 12 _ _ (omega arith) refl
      ∙ fits_word row 13 _ _ (omega arith) refl
      ∙ fits_word row 14 _ _ (omega arith) refl
      ∙ fits_word row 15 _ _ (omega arith) refl

  -- the words of a row that fits
  record Words : Type 0 where
    sized : Sized T row
    name : s ≡ word row 1
    text : s + word row 2 ≡ word row 3
    member : m ≡ word row 5
    bit : b ≡ word row 7
    next : fits rest (drop 16 row) ≡ true

  row_words : fits (meta_row s m b (meta_in T row) ++ rest) row ≡ true → Words
  row_words h =
      let w₀ = fits_first row 0 _ _ h in
      let w₁ = fits_first row 1 _ _ w₀.1 in
      let w₂ = fits_first row 2 _ _ w₁.1 in
      let w₃ = fits_first row 3 _ _ w₂.1 in
      let w₄ = fits_first row 4 _ _ w₃.1 in
      let w₅ = fits_first row 5 _ _ w₄.1 in
      let w₆ = fits_first row 6 _ _ w₅.1 in
      let w₇ = fits_first row 7 _ _ w₆.1 in
      let w₈ = fits_first row 8 _ _ w₇.1 in
      let w₉ = fits_first row 9 _ _ w₈.1 in
      let wa = fits_first row 10 _ _ w₉.1 in
      let wb = fits_first row 11 _ _ wa.1 in
      let wc = fits_first row 12 _ _ wb.1 in
      let wd = fits_first row 13 _ _ wc.1 in
      let we = fits_first row 14 _ _ wd.1 in
      let wf = fits_first row 15 _ _ we.1 in
      record {
        sized = record { name = w₂.0; text = w₄.0; members = w₆.0; bits = w₈.0 };
        name = w₁.0;
        text = (rw w₂.0 at w₃.0);
        member = w₅.0;
        bit = w₇.0;
        next = wf.1;
      }

-- WHAT A WALK THAT COMES TO ITS END TELLS: of n rows from the row i on, with pools that begin at s, m, b and end at x, y, z
pub record Laid (T : Tables) (i s m b n x y z : ℕ) : Type 0 where
  pub rows : fits (meta_rows s m b (metas_in T n (drop (i * 16) T.metas))) (drop (i * 16) T.metas) ≡ true
  pub strings : drop s T.strings ≡ meta_strings (metas_in T n (drop (i * 16) T.metas)) ++ drop x T.strings
  pub members : drop m T.members ≡ members_of (metas_in T n (drop (i * 16) T.metas)) ++ drop y T.members
  pub bits : drop b T.attr_bits ≡ attr_bits_of (metas_in T n (drop (i * 16) T.metas)) ++ drop z T.attr_bits
  pub sound : metas_sound (kinds_in i T.metas) (metas_in T n (drop (i * 16) T.metas)) ≡ true
  pub short : every short_meta (metas_in T n (drop (i * 16) T.metas)) ≡ true
  pub s_room : x ≤ 16384
  pub m_room : y ≤ 1024
  pub b_room : z ≤ 131072

-- the rows behind a row
pub next_row : (i : ℕ) (rows : List ℕ) → drop 16 (drop (i * 16) rows) ≡ drop ((i + 1) * 16) rows
next_row i rows = let e : i * 16 + 16 ≡ (i + 1) * 16 = omega arith in rest_rest rows (i * 16) 16 ∙ ap (λ (k : ℕ). drop k rows) e

next_kinds : (i : ℕ) (rows : List ℕ) → kinds_in (i + 1) rows ≡ kinds_in i rows ++ (word (drop (i * 16) rows) 0 ∷ [])
next_kinds i rows = let e : i + 1 ≡ suc i = omega arith in ap (λ (k : ℕ). kinds_in k rows) e ∙ kinds_more i rows

metas_first : (kinds : List ℕ) (x : Meta) (ms : List Meta) → metas_sound kinds (x ∷ ms) ≡ true → (meta_sound kinds x ≡ true) × (metas_sound (kinds ++ (x.kind ∷ [])) ms ≡ true)
unfolding metas_sound
metas_first kinds x ms h = bool_cases (meta_sound kinds x) (λ e. (e, rw (e, metas_sound) at h)) (λ e. never_both (rw (e, metas_sound) at h) refl)

metas_more : (kinds : List ℕ) (x : Meta) (ms : List Meta) → meta_sound kinds x ≡ true → metas_sound (kinds ++ (x.kind ∷ [])) ms ≡ true → metas_sound kinds (x ∷ ms) ≡ true
unfolding metas_sound
metas_more kinds x ms e h = rw (e, metas_sound) h

module _ (T : Tables) (P : Pools T) where
  row_held : (k : ℕ) → Held (meta_in T (drop k T.metas))
  row_held k =
      let w : (j : ℕ) → is_number (word (drop k T.metas) j) ≡ true = every_word is_number refl (drop k T.metas) (every_drop is_number k T.metas P.words) in
      record {
        name = every_part is_byte _ _ T.strings P.bytes;
        text = every_part is_byte _ _ T.strings P.bytes;
        number = w 11;
        line = w 12;
        column = w 13;
        end_line = w 14;
        end_column = w 15;
      }

  module _ (i s m b n x y z : ℕ) where
    -- a row before rows that are laid
    laid_more : (i + suc n) * 16 ≤ length T.metas → meta_good T.members T.attr_bits (kinds_in i T.metas) s m b (drop (i * 16) T.metas) ≡ true
        → Laid T (i + 1) (s + (word (drop (i * 16) T.metas) 2 + word (drop (i * 16) T.metas) 4)) (m + word (drop (i * 16) T.metas) 6) (b + word (drop (i * 16) T.metas) 8) n x y z
        → Laid T i s m b (suc n) x y z
    unfolding metas_in meta_rows joined
    laid_more h g l =
        let R = drop (i * 16) T.metas in
        let ms = metas_in T n (drop 16 R) in
        let o = good_placed T.members T.attr_bits (kinds_in i T.metas) s m b R g in
        let v = placed_sized T P (kinds_in i T.metas) s m b R o in
        let f = fields_sound (kinds_in i T.metas) (meta_in T R) (row_held (i * 16)) (good_fields T P (kinds_in i T.metas) s m b R g) in
        let e = next_row i T.metas in
        let long : 16 ≤ length R = rw length-drop (omega arith) in
        let u : length ((meta_in T R).name ++ (meta_in T R).text) ≡ word R 2 + word R 4 = rw (length-append, v.name, v.text) in
        let S = T.strings in
        let j : s + word R 2 + word R 4 ≡ s + (word R 2 + word R 4) = omega arith in
        let s₁ : drop s S ≡ part s (word R 2) S ++ drop (s + word R 2) S = part_rest s (word R 2) S in
        let s₂ : drop (s + word R 2) S ≡ part (s + word R 2) (word R 4) S ++ drop (s + (word R 2 + word R 4)) S = rw j at (part_rest (s + word R 2) (word R 4) S) in
        let s₃ : drop (s + (word R 2 + word R 4)) S ≡ meta_strings ms ++ drop x S = rw (← e) at l.strings in
        let m₁ : drop (m + word R 6) T.members ≡ members_of ms ++ drop y T.members = rw (← e) at l.members in
        let b₁ : drop (b + word R 8) T.attr_bits ≡ attr_bits_of ms ++ drop z T.attr_bits = rw (← e) at l.bits in
        let rows₁ : fits (meta_rows (s + (word R 2 + word R 4)) (m + word R 6) (b + word R 8) ms) (drop 16 R) ≡ true = rw (← e) at l.rows in
        let X = meta_in T R in
        let rows₂ : fits (meta_rows (s + length (X.name ++ X.text)) (m + length X.members) (b + length X.bits) ms) (drop 16 R) ≡ true = rw (u, v.members, v.bits) rows₁ in
        record {
          rows = row_fits T P s m b R _ long o ∙ rows₂;
          strings = rw (o.name, o.text) (s₁ ∙ ap (λ (q : List ℕ). part s (word R 2) S ++ q) (s₂ ∙ ap (λ (q : List ℕ). part (s + word R 2) (word R 4) S ++ q) s₃) ∙ simp append_assoc);
          members = rw o.member (part_rest m (word R 6) T.members ∙ ap (λ (q : List ℕ). part m (word R 6) T.members ++ q) m₁ ∙ simp append_assoc);
          bits = rw o.bit (part_rest b (word R 8) T.attr_bits ∙ ap (λ (q : List ℕ). part b (word R 8) T.attr_bits ++ q) b₁ ∙ simp append_assoc);
          sound = metas_more (kinds_in i T.metas) (meta_in T R) ms f.0 (rw (← e, next_kinds i T.metas) at l.sound);
          short = every_more short_meta (meta_in T R) ms f.1 (rw (← e) at l.short);
          s_room = l.s_room;
          m_room = l.m_room;
          b_room = l.b_room;
        }

    laid_none : s ≤ 16384 → m ≤ 1024 → b ≤ 131072 → blank (drop (i * 16) T.metas) ≡ true → s ≡ x → m ≡ y → b ≡ z → Laid T i s m b 0 x y z
    unfolding metas_in meta_rows joined fits metas_sound every
    laid_none p q r h e f g = record {
      rows = h;
      strings = rw e;
      members = rw f;
      bits = rw g;
      sound = refl;
      short = refl;
      s_room = rw (← e) p;
      m_room = rw (← f) q;
      b_room = rw (← g) r;
    }

  -- A WALK THAT COMES TO ITS END
  pub walked : (n i s m b x y z : ℕ) → s ≤ 16384 → m ≤ 1024 → b ≤ 131072 → (i + n) * 16 ≤ length T.metas
      → metas_walk T.members T.attr_bits T.metas i s m b n ≡ Some (x, y, z) → Laid T i s m b n x y z
  unfolding metas_walk
  walked zero i s m b x y z p q r h w = bool_cases (blank (drop (i * 16) T.metas))
      (λ e. let d : ◌≡◌ {A = Option (ℕ × ℕ × ℕ)} (Some (s, m, b)) (Some (x, y, z)) = rw e at w in let t : ◌≡◌ {A = ℕ × ℕ × ℕ} (s, m, b) (x, y, z) = cc (d) in laid_none i s m b 0 x y z p q r e (ap (λ (v : ℕ × ℕ × ℕ). v.0) t) (ap (λ (v : ℕ × ℕ × ℕ). v.1) t) (ap (λ (v : ℕ × ℕ × ℕ). v.2) t))
      (λ e. let d : None ≡ Some (x, y, z) = rw e at w in let k : ◌≡◌ {A = ℕ} 0 1 = cc (d) in absurd (omega arith))
  walked (suc n) i s m b x y z p q r h w =
      let R = drop (i * 16) T.metas in
      bool_cases (meta_good T.members T.attr_bits (kinds_in i T.metas) s m b R)
      (λ g. let o = good_placed T.members T.attr_bits (kinds_in i T.metas) s m b R g in
      laid_more i s m b n x y z h g (walked n (i + 1) (s + (word R 2 + word R 4)) (m + word R 6) (b + word R 8) x y z o.strings o.members o.bits (omega arith) (rw (g, metas_walk) at w)))
      (λ g. let d : None ≡ Some (x, y, z) = rw (g, metas_walk) at w in let k : ◌≡◌ {A = ℕ} 0 1 = cc (d) in absurd (omega arith))

  -- AND WHERE THE ROWS ARE LAID and sound it comes to its end, past all that they have
  pub walks : (n i s m b : ℕ) → (i + n) * 16 ≤ length T.metas
      → fits (meta_rows s m b (metas_in T n (drop (i * 16) T.metas))) (drop (i * 16) T.metas) ≡ true
      → metas_sound (kinds_in i T.metas) (metas_in T n (drop (i * 16) T.metas)) ≡ true
      → every short_meta (metas_in T n (drop (i * 16) T.metas)) ≡ true
      → s + length (meta_strings (metas_in T n (drop (i * 16) T.metas))) ≤ 16384
      → m + length (members_of (metas_in T n (drop (i * 16) T.metas))) ≤ 1024
      → b + length (attr_bits_of (metas_in T n (drop (i * 16) T.metas))) ≤ 131072
      → metas_walk T.members T.attr_bits T.metas i s m b n
      ≡ Some (s + length (meta_strings (metas_in T n (drop (i * 16) T.metas))), m + length (members_of (metas_in T n (drop (i * 16) T.metas))), b + length (attr_bits_of (metas_in T n (drop (i * 16) T.metas))))
  unfolding metas_in meta_rows joined metas_walk fits
  walks zero i s m b h f g k p q r = rw (f, add-zero s, add-zero m, add-zero b)
  walks (suc n) i s m b h f g k p q r =
      let R = drop (i * 16) T.metas in
      let X = meta_in T R in
      let ms = metas_in T n (drop 16 R) in
      let e = next_row i T.metas in
      let w = row_words T P s m b R (meta_rows (s + length (X.name ++ X.text)) (m + length X.members) (b + length X.bits) ms) f in
      let v = w.sized in
      let a = metas_first (kinds_in i T.metas) X ms g in
      let d = every_first short_meta X ms k in
      let u : length (X.name ++ X.text) ≡ word R 2 + word R 4 = rw (length-append, v.name, v.text) in
      let lp = length-append (X.name ++ X.text) (meta_strings ms) in
      let lq = length-append X.members (members_of ms) in
      let lr = length-append X.bits (attr_bits_of ms) in
      let o : Placed s m b R = record {
        name = sym w.name;
        text = sym w.text;
        strings = omega (arith, u, lp, p);
        member = sym w.member;
        members = omega (arith, v.members, lq, q);
        bit = sym w.bit;
        bits = omega (arith, v.bits, lr, r);
      } in
      let t = fields_good T P (kinds_in i T.metas) s m b R o (sound_fields (kinds_in i T.metas) X a.0 d.0) in
      let f' : fits (meta_rows (s + (word R 2 + word R 4)) (m + word R 6) (b + word R 8) ms) (drop 16 R) ≡ true = rw (u, v.members, v.bits) at w.next in
      let p' : s + (word R 2 + word R 4) + length (meta_strings ms) ≡ s + length ((X.name ++ X.text) ++ meta_strings ms) = omega (arith, u, lp) in
      let q' : m + word R 6 + length (members_of ms) ≡ m + length (X.members ++ members_of ms) = omega (arith, v.members, lq) in
      let r' : b + word R 8 + length (attr_bits_of ms) ≡ b + length (X.bits ++ attr_bits_of ms) = omega (arith, v.bits, lr) in
      let ih = walks n (i + 1) (s + (word R 2 + word R 4)) (m + word R 6) (b + word R 8) (omega arith)
      (rw e at f') (rw (← next_kinds i T.metas, e) at a.1) (rw e at d.1) (rw (← e) (omega (arith, p, p'))) (rw (← e) (omega (arith, q, q'))) (rw (← e) (omega (arith, r, r'))) in
      rw (t, metas_walk) (rw (← e, p', q', r') at ih)
