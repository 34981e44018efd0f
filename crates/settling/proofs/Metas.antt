-- The rows of metadata, settled one after the other.
use mathlib.Core.Path.{◌≡◌, refl, sym, ap, ap₂, ◌∙◌}
use mathlib.Core.List.{List, [], ◌∷◌, ◌++◌}
use Prim.Native.Nat.{ℕ, ◌+◌, ◌-◌, ◌*◌, ◌<◌, ◌≤◌}
use native.Mathlib.Nat.{zero-add}
use native.Mathlib.Omega.{arith}
use lib.ListN.{length, take, drop, get_or, length-append}
use lib.Seq.{sets, length-sets}
use Rattle.ground.specs.Lists.{joined}
use Rattle.ground.specs.Regions.{pad, zeros}
use Rattle.ground.proofs.Writes.{sets_append}
use Rattle.ground.proofs.Regions.{length_pad}
use Rattle.ground.proofs.Counts.{length_mapped}
use Rattle.netlist.specs.Netlist.{meta_strings, members_of, attr_bits_of}
use Rattle.netlist.specs.Tables.{meta_row, meta_rows}
use Rattle.netlist.proofs.Lengths.{length_meta_rows}
use Rattle.saying.specs.Notes.{MetaNote, meta_note, metas_said, spelled, Spells, SpellMetas, none, more}
use Rattle.settling.specs.Settling.{MetaHere, meta_started, meta_laid, meta_next, MetasNoted, MetasSettled}
use Rattle.settling.specs.declared.Starts.{Starts}
use Rattle.settling.proofs.Left.{Left, left_row, left_inside, left_some, left_more, left_end}

-- what is left to settle gives what the whole gives
pub record MetasLeft (text : List ℕ) (ns : List MetaNote) (strings₀ : List ℕ) (n i : ℕ) (metas strings : List ℕ) (so : Starts) : Type 0 where
  pub rest : List MetaNote
  pub rows : Left 16 meta_note (λ xs. meta_rows so.strings so.members so.trits (metas_said xs)) n i metas (pad 8192 (meta_rows 0 0 0 (metas_said ns))) rest
  pub laid : sets strings so.strings (meta_strings (metas_said rest)) ≡ sets strings₀ 0 (meta_strings (metas_said ns))
  pub bytes : so.strings + length (meta_strings (metas_said rest)) ≡ length (meta_strings (metas_said ns))
  pub members : so.members + length (members_of (metas_said rest)) ≡ length (members_of (metas_said ns))
  pub trits : so.trits + length (attr_bits_of (metas_said rest)) ≡ length (attr_bits_of (metas_said ns))
  pub spelled : SpellMetas text rest

note_long : (x : MetaNote) → length (meta_note x) ≡ 16
unfolding meta_note
note_long x = refl

length_notes : (ns : List MetaNote) → length (joined meta_note ns) ≡ length ns * 16
unfolding joined
length_notes [] = refl
length_notes (x ∷ ns) = length-append (meta_note x) (joined meta_note ns) ∙ omega (arith, note_long x, length_notes ns)

pub metas_start : (text : List ℕ) (ns : List MetaNote) (n : ℕ) (metas strings : List ℕ) (so : Starts) → so.strings ≡ 0 → so.members ≡ 0 → so.trits ≡ 0 → MetasNoted text ns n metas
    → MetasLeft text ns strings n 0 metas strings so
unfolding pad
metas_start text ns n metas strings so p q r d =
    let e : length (joined meta_note ns) ≡ length (meta_rows 0 0 0 (metas_said ns)) =
    length_notes ns ∙ ap (λ (k : ℕ). k * 16) (sym (length_mapped (λ (x : MetaNote). x.meta) ns)) ∙ sym (length_meta_rows 0 0 0 (metas_said ns)) in
    record {
      rest = ns;
      rows = record {
        front = [];
        behind = zeros (8192 - length (joined meta_note ns));
        at = refl;
        left = zero-add (length ns) ∙ d.count;
        rows = d.rows;
        goal = rw (p, q, r, e);
      };
      laid = rw p;
      bytes = rw p (zero-add _);
      members = rw q (zero-add _);
      trits = rw r (zero-add _);
      spelled = d.spelled;
    }

-- a row of the rest: what stands there, and what is left behind it
module _ (text strings : List ℕ) (so : Starts) (long : length strings ≡ 16384) where
  here : (x : MetaNote) (xs : List MetaNote) → so.strings + length (meta_strings (metas_said (x ∷ xs))) ≤ 16384 → so.members + length (members_of (metas_said (x ∷ xs))) ≤ 1024
      → so.trits + length (attr_bits_of (metas_said (x ∷ xs))) ≤ 131072 → Spells text x.name_at x.meta.name → Spells text x.text_at x.meta.text
      → MetaHere text (meta_note x) strings so
  unfolding meta_note joined
  here x xs a b c p q =
      let m = x.meta in
      let l : length (meta_strings (metas_said (x ∷ xs))) ≡ length m.name + length m.text + length (meta_strings (metas_said xs)) =
      length-append (m.name ++ m.text) (meta_strings (metas_said xs)) ∙ omega (arith, length-append m.name m.text) in
      record {
        long = refl;
        name = ap length p.is;
        second = ap length q.is;
        room = omega (arith, l);
        pool = omega (arith, long);
        members = omega (arith, length-append m.members (members_of (metas_said xs)));
        trits = omega (arith, length-append m.bits (attr_bits_of (metas_said xs)));
      }

-- the limits that every rest keeps
pub record MetaLimits (ns : List MetaNote) : Type 0 where
  pub strings : length (meta_strings (metas_said ns)) ≤ 16384
  pub members : length (members_of (metas_said ns)) ≤ 1024
  pub trits : length (attr_bits_of (metas_said ns)) ≤ 131072

module _ (text : List ℕ) (ns : List MetaNote) (strings₀ : List ℕ) (n i : ℕ) (metas strings : List ℕ) (so : Starts) (lim : MetaLimits ns) (long : length strings ≡ 16384) (some : i < n) where
  row_here : (rest : List MetaNote) → Left 16 meta_note (λ xs. meta_rows so.strings so.members so.trits (metas_said xs)) n i metas (pad 8192 (meta_rows 0 0 0 (metas_said ns))) rest
      → so.strings + length (meta_strings (metas_said rest)) ≡ length (meta_strings (metas_said ns)) → so.members + length (members_of (metas_said rest)) ≡ length (members_of (metas_said ns))
      → so.trits + length (attr_bits_of (metas_said rest)) ≡ length (attr_bits_of (metas_said ns)) → SpellMetas text rest
      → MetaHere text (take 16 (drop (i * 16) metas)) strings so
  row_here [] l a b c s = let e = l.left in absurd (omega arith)
  row_here (x ∷ xs) l a b c (more p q s) =
      rw (left_row 16 meta_note _ n i metas _ x xs l (note_long x))
      (here text strings so long x xs (omega (arith, lim.strings)) (omega (arith, lim.members)) (omega (arith, lim.trits)) p q)

  pub metas_here : MetasLeft text ns strings₀ n i metas strings so → MetaHere text (take 16 (drop (i * 16) metas)) strings so
  metas_here l = row_here l.rest l.rows l.bytes l.members l.trits l.spelled

-- the row with its starts is the row that is to stand there, and its strings lie behind those before them
started_row : (x : MetaNote) (so : Starts) → meta_started (meta_note x) so ≡ meta_row so.strings so.members so.trits x.meta
unfolding meta_note
started_row x so = refl

laid_row : (text strings : List ℕ) (x : MetaNote) (so : Starts) → Spells text x.name_at x.meta.name → Spells text x.text_at x.meta.text
    → meta_laid text (meta_note x) strings so ≡ sets strings so.strings (x.meta.name ++ x.meta.text)
unfolding meta_note
laid_row text strings x so p q =
    ap₂ (λ (a b : List ℕ). sets (sets strings so.strings a) (so.strings + length x.meta.name) b) (sym p.is) (sym q.is)
    ∙ sym (sets_append strings so.strings x.meta.name x.meta.text)

module _ (text : List ℕ) (ns : List MetaNote) (strings₀ : List ℕ) (n i : ℕ) (metas strings : List ℕ) (so : Starts) (some : i < n) where
  row_more : (rest : List MetaNote) → Left 16 meta_note (λ xs. meta_rows so.strings so.members so.trits (metas_said xs)) n i metas (pad 8192 (meta_rows 0 0 0 (metas_said ns))) rest
      → sets strings so.strings (meta_strings (metas_said rest)) ≡ sets strings₀ 0 (meta_strings (metas_said ns))
      → so.strings + length (meta_strings (metas_said rest)) ≡ length (meta_strings (metas_said ns)) → so.members + length (members_of (metas_said rest)) ≡ length (members_of (metas_said ns))
      → so.trits + length (attr_bits_of (metas_said rest)) ≡ length (attr_bits_of (metas_said ns)) → SpellMetas text rest → (row : List ℕ) → take 16 (drop (i * 16) metas) ≡ row
      → MetasLeft text ns strings₀ n (i + 1) (take (i * 16) metas ++ (meta_started row so ++ drop 16 (drop (i * 16) metas))) (meta_laid text row strings so) (meta_next row so)
  unfolding meta_note meta_rows joined
  row_more [] l s a b c sp row is = let e = l.left in absurd (omega arith)
  row_more (x ∷ xs) l s a b c (more p q sp) row is =
      let m = x.meta in
      let e : row ≡ meta_note x = sym is ∙ left_row 16 meta_note _ n i metas _ x xs l (note_long x) in
      let k : so.strings + length m.name + length m.text ≡ so.strings + length (m.name ++ m.text) = omega (arith, length-append m.name m.text) in
      rw e record {
        rest = xs;
        rows = left_more 16 meta_note _ n i metas _ x xs l
            (λ ys. meta_rows (so.strings + length m.name + length m.text) (so.members + length m.members) (so.trits + length m.bits) (metas_said ys))
            (meta_started (meta_note x) so) (note_long x) refl (rw k);
        laid = rw (laid_row text strings x so p q, k) (sym (sets_append strings so.strings (m.name ++ m.text) (meta_strings (metas_said xs))) ∙ s);
        bytes = omega (arith, k, length-append (m.name ++ m.text) (meta_strings (metas_said xs)));
        members = omega (arith, length-append m.members (members_of (metas_said xs)));
        trits = omega (arith, length-append m.bits (attr_bits_of (metas_said xs)));
        spelled = sp;
      }

  pub metas_more : MetasLeft text ns strings₀ n i metas strings so → (w : ℕ) → w ≡ 16
      → let row = take w (drop (i * 16) metas) in
      MetasLeft text ns strings₀ n (i + 1) (take (i * 16) metas ++ (meta_started row so ++ drop w (drop (i * 16) metas))) (meta_laid text row strings so) (meta_next row so)
  metas_more l w e = rw e (row_more l.rest l.rows l.laid l.bytes l.members l.trits l.spelled _ refl)

pub metas_end : (text : List ℕ) (ns : List MetaNote) (strings₀ : List ℕ) (n i : ℕ) (metas strings : List ℕ) (so : Starts) → n ≤ i → MetasLeft text ns strings₀ n i metas strings so
    → MetasSettled ns strings₀ metas strings so.strings
unfolding meta_rows joined
metas_end text ns strings₀ n i metas strings so h l =
    ended l.rest l.rows l.laid l.bytes
  where
    ended : (rest : List MetaNote) → Left 16 meta_note (λ xs. meta_rows so.strings so.members so.trits (metas_said xs)) n i metas (pad 8192 (meta_rows 0 0 0 (metas_said ns))) rest
        → sets strings so.strings (meta_strings (metas_said rest)) ≡ sets strings₀ 0 (meta_strings (metas_said ns))
        → so.strings + length (meta_strings (metas_said rest)) ≡ length (meta_strings (metas_said ns)) → MetasSettled ns strings₀ metas strings so.strings
    ended [] l s a = record { rows = left_end 16 meta_note _ n i metas _ [] l h refl; laid = s; next = omega arith }
    ended (x ∷ xs) l s a = let e = l.left in absurd (omega arith)

-- so it goes for whatever notes stand there
abbrev pub Lefts : List ℕ → ℕ → List ℕ → List ℕ → ℕ → List ℕ → List ℕ → Starts → Type 0
Lefts text n metas₀ strings₀ i metas strings so = (ns : List MetaNote) → MetasNoted text ns n metas₀ → MetasLeft text ns strings₀ n i metas strings so

module _ (text : List ℕ) (ns : List MetaNote) (n : ℕ) (metas : List ℕ) (d : MetasNoted text ns n metas) where
  pub limits : MetaLimits ns
  limits = record { strings = d.strings; members = d.members; trits = d.trits }

  pub noted_long : length metas ≡ 8192
  noted_long = ap length d.rows ∙ length_pad 8192 (joined meta_note ns) (omega (arith, length_notes ns, d.count, d.few))
