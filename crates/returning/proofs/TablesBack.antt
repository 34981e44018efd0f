-- THE ROUND TRIP of tables: good tables, printed and read, are the same tables again, whole; two good tables with one text are the same.
use Rattle.std.specs.Prelude.{Ok}
use Prim.Native.Nat.{ℕ, zero, suc, ◌+◌, ◌≤◌}
use native.Mathlib.Omega.{arith}
use native.Mathlib.Nat.{zero-add, suc-add}
use mathlib.Core.Path.{◌≡◌, refl, sym, ap, ◌∙◌}
use mathlib.Core.Bool.{true, false}
use mathlib.Core.List.{List, [], ◌∷◌, ◌++◌}
use lib.Dec.{ltb}
use lib.ListN.{length, take, drop, get_or, take-append-drop, length-take}
use lib.Seq.{take-append_seam, take-nil, drop-drop}
use borrow.Author.Tests.{le-ltb}
use Rattle.ground.specs.Regions.{zeros, over, part}
use Rattle.ground.proofs.Bools.{bool_cases, and_true}
use Rattle.ground.proofs.Regions.{part_length}
use Rattle.netlist.specs.Netlist.{Netlist}
use Rattle.netlist.specs.Rules.{valid}
use Rattle.netlist.specs.Tables.{Tables, layout, rows_of, bits_of, rows_length, strings_length, bits_length, tables_in}
use Rattle.netlist.specs.Good.{laid, good, short, check_of, netlist_in}
use Rattle.netlist.proofs.Laying.{Long, laid_is}
use Rattle.checking.proofs.Top.{Enough, checked_good}
use Rattle.declaring.specs.Reading.{reading}
use Rattle.reading.specs.Outcome.{Outcome, left, read_of, made, work_length}
use Rattle.lines.specs.Lines.{canonical}
use Rattle.printing.specs.Outcome.{print_of, written}
use Rattle.accepting.proofs.Good.{laid_good, laid_shown}
use Rattle.returning.proofs.RoundTrip.{returns, one_text}

-- taken in one go or in two
takes_join : (a b : ℕ) (p : List ℕ) → take a p ++ take b (drop a p) ≡ take (a + b) p
takes_join zero b p = rw zero-add
takes_join (suc a) b [] = rw (suc-add, take-nil)
takes_join (suc a) b (x ∷ p) = rw suc-add (ap (λ (r : List ℕ). x ∷ r) (takes_join a b p))

-- REGIONS that lie one behind the other are one region
parts_join : (s a b : ℕ) (p : List ℕ) → part s a p ++ part (s + a) b p ≡ part s (a + b) p
unfolding part
parts_join s a b p = rw (← drop-drop a s p) (takes_join a b (drop s p))

five_join : (s a b c d e : ℕ) (p : List ℕ) → part s a p ++ (part (s + a) b p ++ (part (s + a + b) c p ++ (part (s + a + b + c) d p ++ part (s + a + b + c + d) e p))) ≡ part s (a + (b + (c + (d + e)))) p
five_join s a b c d e p =
    rw (parts_join (s + a + b + c) d e p, parts_join (s + a + b) c (d + e) p, parts_join (s + a) b (c + (d + e)) p) (parts_join s a (b + (c + (d + e))) p)

three_first : (p : List ℕ) → 3 ≤ length p → take 3 p ≡ get_or p 0 0 ∷ get_or p 1 0 ∷ get_or p 2 0 ∷ []
three_first [] l = absurd (omega arith)
three_first (x ∷ []) l = absurd (omega arith)
three_first (x ∷ y ∷ []) l = absurd (omega arith)
three_first (x ∷ y ∷ z ∷ p) l = refl

-- three words and then n more
rows_front : (n : ℕ) (p rest : List ℕ) → 3 ≤ length p → rest ≡ part 3 n p → get_or p 0 0 ∷ get_or p 1 0 ∷ get_or p 2 0 ∷ rest ≡ take (3 + n) p
unfolding part
rows_front n p rest l e = ap (λ (r : List ℕ). r ++ rest) (sym (three_first p l)) ∙ ap (λ (r : List ℕ). take 3 p ++ r) e ∙ takes_join 3 n p

-- the three counts, and the five regions behind them
rows_join : (rows : List ℕ) → 26307 ≤ length rows
    → get_or rows 0 0 ∷ get_or rows 1 0 ∷ get_or rows 2 0 ∷ (part 3 8192 rows ++ (part 8195 1024 rows ++ (part 9219 192 rows ++ (part 9411 4608 rows ++ part 14019 12288 rows)))) ≡ take 26307 rows
rows_join rows l = rows_front 26304 rows _ (omega arith) (five_join 3 8192 1024 192 4608 12288 rows)

-- WHERE ALL SLICES ARE LONG ENOUGH, reading leaves what the text says
read_left : (text rows strings bits work : List ℕ) → short rows strings bits ≡ false → work_length ≤ length work → read_of text rows strings bits work ≡ left rows strings bits work (reading text)
unfolding read_of
read_left text rows strings bits work s w = rw (s, le-ltb (length work) work_length w)

made_same : (n m k : ℕ) (x y z x' y' z' p q r w : List ℕ) → x ≡ x' → y ≡ y' → z ≡ z'
    → made (Ok tt) (over n x p) (over m y q) (over k z r) w ≡ made (Ok tt) (over n x' p) (over m y' q) (over k z' r) w
made_same n m k x y z x' y' z' p q r w e f h = rw (e, f, h)

made_whole : (x y z x' y' z' w : List ℕ) → x ≡ x' → y ≡ y' → z ≡ z' → made (Ok tt) x y z w ≡ made (Ok tt) x' y' z' w
made_whole x y z x' y' z' w e f h = rw (e, f, h)

not_short : {rows strings bits : List ℕ} → Enough rows strings bits → short rows strings bits ≡ false
unfolding short
not_short {rows} {strings} {bits} e =
    rw (le-ltb (length rows) 26307 e.rows_long, le-ltb (length strings) 16384 e.strings_long, le-ltb (length bits) 393728 e.bits_long)

-- a layout, whatever stands behind it, is printed as the canonical text
laid_printed : (N : Netlist) → valid N ≡ true → (xs ys zs room : List ℕ) → print_of (rows_of (layout N) ++ xs) ((layout N).strings ++ ys) (bits_of (layout N) ++ zs) room ≡ written (canonical N) room
unfolding print_of
laid_printed N v xs ys zs room = rw (laid_good N v xs ys zs, laid_shown N v xs ys zs)

-- what stands in the room where a length is told
told_text : (text room : List ℕ) (n : ℕ) → (written text room).answer ≡ Ok n → (n ≡ length text) × (take n (written text room).room ≡ text)
unfolding written over
told_text text room n e = bool_cases (ltb (length room) (length text))
    (λ s. let z : ◌≡◌ {A = ℕ} 0 1 = cc (rw s at e) in absurd (omega arith))
    (λ s. let m : length text ≡ n = cc (rw s at e) in (sym m, rw (s, ← m) (take-append_seam text (drop (length text) room))))

module _ (rows strings bits : List ℕ) (g : check_of rows strings bits ≡ Ok tt) where
  abbrev T : Tables
  T = tables_in rows strings bits

  abbrev N : Netlist
  N = netlist_in rows strings bits

  enough : Enough rows strings bits
  enough = (checked_good rows strings bits g).0

  pub shown_valid : valid N ≡ true
  unfolding good
  shown_valid = (and_true (laid N T) (valid N) (checked_good rows strings bits g).1).1

  long : Long T
  unfolding tables_in
  long =
      let e = enough in
      record {
        metas = part_length 3 8192 rows (omega (arith, e.rows_long));
        members = part_length 8195 1024 rows (omega (arith, e.rows_long));
        ios = part_length 9219 192 rows (omega (arith, e.rows_long));
        cells = part_length 9411 4608 rows (omega (arith, e.rows_long));
        runs = part_length 14019 12288 rows (omega (arith, e.rows_long));
        strings = simp length-take (omega (arith, e.strings_long));
        attr_bits = part_length 0 131072 bits (omega (arith, e.bits_long));
        run_bits = part_length 131072 262656 bits (omega (arith, e.bits_long));
      }

  -- the tables are the layout of what they show
  is_layout : T ≡ layout N
  unfolding good
  is_layout = laid_is T long (and_true (laid N T) (valid N) (checked_good rows strings bits g).1).0

  rows_laid : rows_of (layout N) ≡ take rows_length rows
  unfolding rows_of tables_in
  rows_laid = ap rows_of (sym is_layout) ∙ rows_join rows enough.rows_long

  strings_laid : (layout N).strings ≡ take strings_length strings
  unfolding tables_in
  strings_laid = ap (λ (U : Tables). U.strings) (sym is_layout)

  bits_laid : bits_of (layout N) ≡ take bits_length bits
  unfolding bits_of tables_in part
  bits_laid = ap bits_of (sym is_layout) ∙ parts_join 0 131072 262656 bits

  -- READ into any slices of the fixed lengths, the canonical text gives the tables back, every word and byte of them
  pub tables_return : (rows' strings' bits' work : List ℕ) → length (canonical N) ≤ 65536 → short rows' strings' bits' ≡ false → work_length ≤ length work
      → read_of (canonical N) rows' strings' bits' work
      ≡ made (Ok tt) (over rows_length (take rows_length rows) rows') (over strings_length (take strings_length strings) strings') (over bits_length (take bits_length bits) bits')
      (over work_length (zeros work_length) work)
  tables_return rows' strings' bits' work l s w =
      read_left (canonical N) rows' strings' bits' work s w ∙ ap (left rows' strings' bits' work) (returns N shown_valid l)
      ∙ made_same rows_length strings_length bits_length _ _ _ _ _ _ rows' strings' bits' _ rows_laid strings_laid bits_laid

  -- read into the tables themselves it changes nothing in them
  pub tables_stay : (work : List ℕ) → length (canonical N) ≤ 65536 → work_length ≤ length work
      → read_of (canonical N) rows strings bits work ≡ made (Ok tt) rows strings bits (over work_length (zeros work_length) work)
  unfolding over
  tables_stay work l w =
      tables_return rows strings bits work l (not_short enough) w
      ∙ made_whole _ _ _ rows strings bits _ (take-append-drop rows_length rows) (take-append-drop strings_length strings) (take-append-drop bits_length bits)

  -- PRINTED with room enough, and what was printed read again
  pub printed_return : (room work : List ℕ) (n : ℕ) → (print_of rows strings bits room).answer ≡ Ok n → n ≤ 65536 → work_length ≤ length work
      → read_of (take n (print_of rows strings bits room).room) rows strings bits work ≡ made (Ok tt) rows strings bits (over work_length (zeros work_length) work)
  unfolding print_of
  printed_return room work n e l w =
      let t = told_text (canonical N) room n (rw g at e) in
      rw (g, t.1) (tables_stay work (omega (arith, t.0)) w)

  -- CANONICAL IS CANONICAL: whatever slices the canonical text was read into, they print as that text
  pub canonical_printed : (rows' strings' bits' work room : List ℕ) → length (canonical N) ≤ 65536 → short rows' strings' bits' ≡ false → work_length ≤ length work
      → let o = read_of (canonical N) rows' strings' bits' work in print_of o.rows o.strings o.bits room ≡ written (canonical N) room
  unfolding over
  canonical_printed rows' strings' bits' work room l s w =
      ap (λ (o : Outcome). print_of o.rows o.strings o.bits room) (read_left (canonical N) rows' strings' bits' work s w ∙ ap (left rows' strings' bits' work) (returns N shown_valid l))
      ∙ laid_printed N shown_valid (drop rows_length rows') (drop strings_length strings') (drop bits_length bits') room

-- TWO GOOD TABLES WITH ONE TEXT are the same tables
pub one_table : (rows strings bits rows' strings' bits' : List ℕ) → check_of rows strings bits ≡ Ok tt → check_of rows' strings' bits' ≡ Ok tt
    → canonical (netlist_in rows strings bits) ≡ canonical (netlist_in rows' strings' bits')
    → (take rows_length rows ≡ take rows_length rows') × (take strings_length strings ≡ take strings_length strings') × (take bits_length bits ≡ take bits_length bits')
one_table rows strings bits rows' strings' bits' g h e =
    let n = one_text _ _ (shown_valid rows strings bits g) (shown_valid rows' strings' bits' h) e in (
      sym (rows_laid rows strings bits g) ∙ ap (λ (N : Netlist). rows_of (layout N)) n ∙ rows_laid rows' strings' bits' h,
      sym (strings_laid rows strings bits g) ∙ ap (λ (N : Netlist). (layout N).strings) n ∙ strings_laid rows' strings' bits' h,
      sym (bits_laid rows strings bits g) ∙ ap (λ (N : Netlist). bits_of (layout N)) n ∙ bits_laid rows' strings' bits' h,
    )
