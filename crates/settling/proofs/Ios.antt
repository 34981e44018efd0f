-- The I/O rows, settled one after the other.
use mathlib.Core.Path.{◌≡◌, refl, sym, ap, ◌∙◌}
use mathlib.Core.List.{List, [], ◌∷◌, ◌++◌}
use Prim.Native.Nat.{ℕ, ◌+◌, ◌-◌, ◌*◌, ◌<◌, ◌≤◌}
use native.Mathlib.Nat.{zero-add}
use native.Mathlib.Omega.{arith}
use lib.ListN.{length, take, drop, get_or, length-append}
use lib.Seq.{sets}
use Rattle.ground.specs.Lists.{joined}
use Rattle.ground.specs.Regions.{pad, zeros}
use Rattle.ground.proofs.Writes.{sets_append}
use Rattle.ground.proofs.Regions.{length_pad}
use Rattle.ground.proofs.Counts.{length_mapped}
use Rattle.netlist.specs.Tables.{io_row, io_rows}
use Rattle.netlist.proofs.Lengths.{length_io_rows}
use Rattle.saying.specs.Notes.{IoNote, io_note, ios_said, spelled, Spells, SpellIos, none, more}
use Rattle.settling.specs.Settling.{IoHere, io_started, io_laid, io_next, io_strings, IosNoted, IosSettled}
use Rattle.settling.proofs.Left.{Left, left_row, left_more, left_end}

-- the rows that are left to settle
abbrev IoRowsLeft : List IoNote → ℕ → ℕ → ℕ → List ℕ → ℕ → List IoNote → Type 0
IoRowsLeft ns first n i ios s rest = Left 3 io_note (λ xs. io_rows s (ios_said xs)) n i ios (pad 192 (io_rows first (ios_said ns))) rest

-- what is left to settle gives what the whole gives
pub record IosLeft (text : List ℕ) (ns : List IoNote) (first : ℕ) (strings₀ : List ℕ) (n i : ℕ) (ios strings : List ℕ) (s : ℕ) : Type 0 where
  pub rest : List IoNote
  pub rows : IoRowsLeft ns first n i ios s rest
  pub laid : sets strings s (io_strings (ios_said rest)) ≡ sets strings₀ first (io_strings (ios_said ns))
  pub bytes : s + length (io_strings (ios_said rest)) ≡ first + length (io_strings (ios_said ns))
  pub spelled : SpellIos text rest

note_long : (x : IoNote) → length (io_note x) ≡ 3
unfolding io_note
note_long x = refl

length_notes : (ns : List IoNote) → length (joined io_note ns) ≡ length ns * 3
unfolding joined
length_notes [] = refl
length_notes (x ∷ ns) = length-append (io_note x) (joined io_note ns) ∙ omega (arith, note_long x, length_notes ns)

pub ios_start : (text : List ℕ) (ns : List IoNote) (first n : ℕ) (ios strings : List ℕ) → IosNoted text ns n first ios → IosLeft text ns first strings n 0 ios strings first
unfolding pad
ios_start text ns first n ios strings d =
    let e : length (joined io_note ns) ≡ length (io_rows first (ios_said ns)) =
    length_notes ns ∙ ap (λ (k : ℕ). k * 3) (sym (length_mapped (λ (x : IoNote). x.io) ns)) ∙ sym (length_io_rows first (ios_said ns)) in
    record {
      rest = ns;
      rows = record {
        front = [];
        behind = zeros (192 - length (joined io_note ns));
        at = refl;
        left = zero-add (length ns) ∙ d.count;
        rows = d.rows;
        goal = rw e;
      };
      laid = refl;
      bytes = refl;
      spelled = d.spelled;
    }

module _ (text : List ℕ) (ns : List IoNote) (first : ℕ) (strings₀ : List ℕ) (n i : ℕ) (ios strings : List ℕ) (s : ℕ) (some : i < n) where
  row_here : (rest : List IoNote) → IoRowsLeft ns first n i ios s rest → s + length (io_strings (ios_said rest)) ≤ 16384 → length strings ≡ 16384 → SpellIos text rest
      → IoHere text (take 3 (drop (i * 3) ios)) strings s
  unfolding io_note joined
  row_here [] l a long sp = let e = l.left in absurd (omega arith)
  row_here (x ∷ xs) l a long (more p sp) =
      rw (left_row 3 io_note _ n i ios _ x xs l (note_long x))
      record {
        long = refl;
        name = ap length p.is;
        room = omega (arith, length-append x.io.name (io_strings (ios_said xs)));
        pool = omega arith;
      }

  pub ios_here : first + length (io_strings (ios_said ns)) ≤ 16384 → length strings ≡ 16384 → IosLeft text ns first strings₀ n i ios strings s → IoHere text (take 3 (drop (i * 3) ios)) strings s
  ios_here lim long l = row_here l.rest l.rows (omega (arith, l.bytes)) long l.spelled

  row_more : (rest : List IoNote) → IoRowsLeft ns first n i ios s rest → sets strings s (io_strings (ios_said rest)) ≡ sets strings₀ first (io_strings (ios_said ns))
      → s + length (io_strings (ios_said rest)) ≡ first + length (io_strings (ios_said ns)) → SpellIos text rest → (row : List ℕ) → take 3 (drop (i * 3) ios) ≡ row
      → IosLeft text ns first strings₀ n (i + 1) (take (i * 3) ios ++ (io_started row s ++ drop 3 (drop (i * 3) ios))) (io_laid text row strings s) (io_next row s)
  unfolding io_note io_rows joined
  row_more [] l g a sp row is = let e = l.left in absurd (omega arith)
  row_more (x ∷ xs) l g a (more p sp) row is =
      let e : row ≡ io_note x = sym is ∙ left_row 3 io_note _ n i ios _ x xs l (note_long x) in
      rw e record {
        rest = xs;
        rows = left_more 3 io_note _ n i ios _ x xs l (λ ys. io_rows (s + length x.io.name) (ios_said ys)) (io_started (io_note x) s) (note_long x) refl refl;
        laid = ap (λ (t : List ℕ). sets (sets strings s t) (s + length x.io.name) (io_strings (ios_said xs))) (sym p.is)
            ∙ sym (sets_append strings s x.io.name (io_strings (ios_said xs))) ∙ g;
        bytes = omega (arith, length-append x.io.name (io_strings (ios_said xs)));
        spelled = sp;
      }

  pub ios_more : IosLeft text ns first strings₀ n i ios strings s → (w : ℕ) → w ≡ 3
      → let row = take w (drop (i * 3) ios) in
      IosLeft text ns first strings₀ n (i + 1) (take (i * 3) ios ++ (io_started row s ++ drop w (drop (i * 3) ios))) (io_laid text row strings s) (io_next row s)
  ios_more l w e = rw e (row_more l.rest l.rows l.laid l.bytes l.spelled _ refl)

pub ios_end : (text : List ℕ) (ns : List IoNote) (first : ℕ) (strings₀ : List ℕ) (n i : ℕ) (ios strings : List ℕ) (s : ℕ) → n ≤ i → IosLeft text ns first strings₀ n i ios strings s
    → IosSettled ns first strings₀ ios strings s
unfolding io_rows joined
ios_end text ns first strings₀ n i ios strings s h l = ended l.rest l.rows l.laid l.bytes
  where
    ended : (rest : List IoNote) → IoRowsLeft ns first n i ios s rest → sets strings s (io_strings (ios_said rest)) ≡ sets strings₀ first (io_strings (ios_said ns))
        → s + length (io_strings (ios_said rest)) ≡ first + length (io_strings (ios_said ns)) → IosSettled ns first strings₀ ios strings s
    ended [] l g a = record { rows = left_end 3 io_note _ n i ios _ [] l h refl; laid = g; next = omega arith }
    ended (x ∷ xs) l g a = let e = l.left in absurd (omega arith)

-- so it goes for whatever notes stand there
abbrev pub Lefts : List ℕ → ℕ → ℕ → List ℕ → List ℕ → ℕ → List ℕ → List ℕ → ℕ → Type 0
Lefts text n first ios₀ strings₀ i ios strings s = (ns : List IoNote) → IosNoted text ns n first ios₀ → IosLeft text ns first strings₀ n i ios strings s

pub noted_long : (text : List ℕ) (ns : List IoNote) (n first : ℕ) (ios : List ℕ) → IosNoted text ns n first ios → length ios ≡ 192
noted_long text ns n first ios d = ap length d.rows ∙ length_pad 192 (joined io_note ns) (omega (arith, length_notes ns, d.count, d.few))
