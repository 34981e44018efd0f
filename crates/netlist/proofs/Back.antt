-- The view of a layout is the netlist: each region is read back as it was laid.
use mathlib.Core.Path.{◌≡◌, refl, ap, ◌∙◌, sym}
use mathlib.Core.List.{List, [], ◌∷◌, ◌++◌, append_assoc}
use Prim.Native.Nat.{ℕ, zero, suc, ◌+◌, ◌-◌, ◌≤◌}
use native.Mathlib.Omega.{arith}
use native.Mathlib.Nat.{zero-add, suc-add, add-zero}
use native.Mathlib.Numerals.{sub-one, add-one}
use lib.Dec.{eqb-suc-zero}
use lib.ListN.{length, drop, length-append}
use Rattle.ground.specs.Lists.{joined}
use Rattle.ground.specs.Regions.{part, pad, zeros}
use Rattle.ground.proofs.Regions.{part_front, part_next}
use Rattle.netlist.specs.Netlist.{Run, const, piece, Meta, Io, Cell, Netlist, meta_strings, members_of, attr_bits_of, cell_runs, runs_of, bits_in, run_bits_of}
use Rattle.netlist.specs.Tables.{Tables, meta_row, meta_rows, io_row, io_rows, cell_row, cell_rows, run_row, run_rows}
use Rattle.netlist.specs.View.{meta_in, metas_in, io_in, ios_in, run_in, runs_in, cell_in, cells_in}

module _ (T : Tables) where
  pub metas_back : (ms : List Meta) (s m b : ℕ) (z ss mm bb : List ℕ)
      → drop s T.strings ≡ meta_strings ms ++ ss → drop m T.members ≡ members_of ms ++ mm → drop b T.attr_bits ≡ attr_bits_of ms ++ bb
      → metas_in T (length ms) (meta_rows s m b ms ++ z) ≡ ms
  unfolding metas_in meta_rows joined
  metas_back [] s m b z ss mm bb h i j = refl
  metas_back (x ∷ ms) s m b z ss mm bb h i j =
      let h' : drop s T.strings ≡ x.name ++ (x.text ++ (meta_strings ms ++ ss)) = h ∙ simp append_assoc in
      let k : drop (s + length x.name) T.strings ≡ x.text ++ (meta_strings ms ++ ss) = part_next T.strings s x.name _ h' in
      let e : s + length x.name + length x.text ≡ s + length (x.name ++ x.text) = omega (arith, length-append x.name x.text) in
      let h'' : drop (s + length (x.name ++ x.text)) T.strings ≡ meta_strings ms ++ ss = rw (← e) (part_next T.strings (s + length x.name) x.text _ k) in
      let i' : drop m T.members ≡ x.members ++ (members_of ms ++ mm) = i ∙ append_assoc x.members _ _ in
      let j' : drop b T.attr_bits ≡ x.bits ++ (attr_bits_of ms ++ bb) = j ∙ append_assoc x.bits _ _ in
      rw (part_front T.strings s x.name _ h', part_front T.strings (s + length x.name) x.text _ k, part_front T.members m x.members _ i', part_front T.attr_bits b x.bits _ j')
      (ap (λ (l : List Meta). x ∷ l) (metas_back ms _ _ _ z ss mm bb h'' (part_next T.members m x.members _ i') (part_next T.attr_bits b x.bits _ j')))

  pub ios_back : (is : List Io) (s : ℕ) (z ss : List ℕ) → drop s T.strings ≡ joined (λ i. i.name) is ++ ss → ios_in T (length is) (io_rows s is ++ z) ≡ is
  unfolding ios_in io_rows joined
  ios_back [] s z ss h = refl
  ios_back (i ∷ is) s z ss h =
      let h' : drop s T.strings ≡ i.name ++ (joined (λ i. i.name) is ++ ss) = h ∙ append_assoc i.name _ _ in
      rw (part_front T.strings s i.name _ h')
      (ap (λ (l : List Io). i ∷ l) (ios_back is _ z ss (part_next T.strings s i.name _ h')))

  -- the runs of a region that has m more rows
  pub runs_back : (rs : List Run) (b m : ℕ) (z bs : List ℕ) → drop b T.run_bits ≡ run_bits_of rs ++ bs
      → runs_in T (length rs + m) (run_rows b rs ++ z) ≡ rs ++ runs_in T m z
  unfolding runs_in run_rows joined
  runs_back [] b m z bs h = rw zero-add
  runs_back (const ts ∷ rs) b m z bs h =
      let h' : drop b T.run_bits ≡ ts ++ (run_bits_of rs ++ bs) = h ∙ append_assoc ts _ _ in
      rw (suc-add, runs_in, part_front T.run_bits b ts _ h')
      (ap (λ (l : List Run). const ts ∷ l) (runs_back rs (b + length ts) m z bs (part_next T.run_bits b ts _ h')))
  runs_back (piece row o w ∷ rs) b m z bs h =
      simp (suc-add, add-one, eqb-suc-zero, sub-one, add-zero) (ap (λ (l : List Run). piece row o w ∷ l) (runs_back rs b m z bs h))

  pub cells_back : (pool : List Run) (cs : List Cell) (s r : ℕ) (z ss : List ℕ) (rr : List Run)
      → drop s T.strings ≡ joined (λ c. c.name) cs ++ ss → drop r pool ≡ runs_of cs ++ rr
      → cells_in T pool (length cs) (cell_rows s r cs ++ z) ≡ cs
  unfolding cells_in cell_rows joined
  cells_back pool [] s r z ss rr h k = refl
  cells_back pool (c ∷ cs) s r z ss rr h k =
      let h' : drop s T.strings ≡ c.name ++ (joined (λ c. c.name) cs ++ ss) = h ∙ append_assoc c.name _ _ in
      let k' : drop r pool ≡ c.a ++ (c.b ++ (c.c ++ (runs_of cs ++ rr))) = k ∙ simp append_assoc in
      let k'' : drop (r + length c.a) pool ≡ c.b ++ (c.c ++ (runs_of cs ++ rr)) = part_next pool r c.a _ k' in
      let k''' : drop (r + length c.a + length c.b) pool ≡ c.c ++ (runs_of cs ++ rr) = part_next pool (r + length c.a) c.b _ k'' in
      let e : r + length c.a + length c.b + length c.c ≡ r + length (cell_runs c) = omega (arith, length-append c.a (c.b ++ c.c), length-append c.b c.c) in
      let k'''' : drop (r + length (cell_runs c)) pool ≡ runs_of cs ++ rr = rw (← e) (part_next pool (r + length c.a + length c.b) c.c _ k''') in
      rw (part_front T.strings s c.name _ h', part_front pool r c.a _ k', part_front pool (r + length c.a) c.b _ k'', part_front pool (r + length c.a + length c.b) c.c _ k''')
      (ap (λ (l : List Cell). c ∷ l) (cells_back pool cs _ _ z ss rr (part_next T.strings s c.name _ h') k''''))
