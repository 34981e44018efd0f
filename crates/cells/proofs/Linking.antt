-- Slots that hold what rows hold: an operand's slots then hold the operand's value.
use mathlib.Core.Path.{◌≡◌, refl, ap, ap₂, ◌∙◌, sym, subst}
use mathlib.Core.Bool.{Bool, true, false}
use mathlib.Core.List.{List, [], ◌∷◌, ◌++◌, map, reverse, reverse_aux}
use Prim.Native.Nat.{ℕ, zero, suc, ◌+◌, ◌<◌, ◌≤◌}
use native.Mathlib.Omega.{arith}
use lib.ListN.{length, get_or, length-append, length-map, length-reverse, get_or-map}
use Rattle.ground.specs.Lists.{joined, total}
use Rattle.trit.specs.Trit.{Trits}
use Rattle.netlist.specs.Netlist.{Run, const, piece, operand_width}
use Rattle.netlist.specs.Runs.{Bit, known, bit, falling, known_bits, run_bits, operand_bits}
use Rattle.netlist.proofs.Runs.{length_falling, length_known}
use Rattle.cells.specs.Operands.{bit_from, bits_from}
use Rattle.cells.proofs.Running.{at, reads_of, Early}

pub length_operand : (rs : List Run) → length (operand_bits rs) ≡ operand_width rs
unfolding joined total
length_operand [] = refl
length_operand (const ts ∷ rs) = omega (arith, length-append (known_bits ts) (operand_bits rs), length_known ts, length_operand rs)
length_operand (piece row o w ∷ rs) = omega (arith, length-append (falling row o w) (operand_bits rs), length_falling row o w, length_operand rs)

pub length_bits : (rows : ℕ → List ℕ) (rs : List Run) → length (bits_from rows rs) ≡ operand_width rs
unfolding bits_from
length_bits rows rs = length-reverse (map (bit_from rows) (operand_bits rs)) ∙ length-map (operand_bits rs) (bit_from rows) ∙ length_operand rs

-- the other way round
reads_back : (S xs ys : List ℕ) → reads_of S (reverse_aux xs ys) ≡ reverse_aux (reads_of S xs) (reads_of S ys)
reads_back S [] ys = refl
reads_back S (x ∷ xs) ys = reads_back S xs (x ∷ ys)

early_back : (S xs ys : List ℕ) → Early S xs → Early S ys → Early S (reverse_aux xs ys)
early_back S [] ys p q = q
early_back S (x ∷ xs) ys p q = early_back S xs (x ∷ ys) p.1 (p.0, q)

-- slots 0, 1, 2 hold 0, 1, X
pub record Constants (S : List ℕ) : Type 0 where
  pub three : 2 < length S
  pub zero' : at S 0 ≡ 0
  pub one' : at S 1 ≡ 1
  pub x' : at S 2 ≡ 2

pub constant_held : (S : List ℕ) → Constants S → (t : ℕ) → t < 3 → at S t ≡ t
constant_held S c zero h = c.zero'
constant_held S c (suc zero) h = c.one'
constant_held S c (suc (suc zero)) h = c.x'
constant_held S c (suc (suc (suc t))) h = absurd (omega arith)

-- a row's slots are made, and hold the row's bits
pub record Linked (S : List ℕ) (slots values : ℕ → List ℕ) (row : ℕ) : Type 0 where
  pub early : Early S (slots row)
  pub holds : reads_of S (slots row) ≡ values row

-- what an operand's bits ask for
abbrev pub Asks : (ℕ → Type 0) → Bit → Type 0
Asks P (known t) = t < 3
Asks P (bit row o) = P row

abbrev pub AllAsk : (ℕ → Type 0) → List Bit → Type 0
AllAsk P [] = Unit {0}
AllAsk P (b ∷ bs) = Asks P b × AllAsk P bs

asks_append : (P : ℕ → Type 0) (bs cs : List Bit) → AllAsk P bs → AllAsk P cs → AllAsk P (bs ++ cs)
asks_append P [] cs p q = q
asks_append P (b ∷ bs) cs p q = (p.0, asks_append P bs cs p.1 q)

-- .. and its runs
abbrev pub RunAsks : (ℕ → Type 0) → Run → Type 0
RunAsks P (const ts) = Trits ts
RunAsks P (piece row o w) = P row

abbrev pub RunsAsk : (ℕ → Type 0) → List Run → Type 0
RunsAsk P [] = Unit {0}
RunsAsk P (r ∷ rs) = RunAsks P r × RunsAsk P rs

pub run_asks : (P : ℕ → Type 0) (r : Run) → RunAsks P r → AllAsk P (run_bits r)
unfolding known_bits falling
run_asks P (const []) h = tt
run_asks P (const (t ∷ ts)) h = (h.0, run_asks P (const ts) h.1)
run_asks P (piece row o zero) h = tt
run_asks P (piece row o (suc w)) h = (h, run_asks P (piece row o w) h)

pub runs_ask : (P : ℕ → Type 0) (rs : List Run) → RunsAsk P rs → AllAsk P (operand_bits rs)
unfolding joined
runs_ask P [] h = tt
runs_ask P (r ∷ rs) h = asks_append P (run_bits r) (operand_bits rs) (run_asks P r h.0) (runs_ask P rs h.1)

module _ (S : List ℕ) (c : Constants S) (slots values : ℕ → List ℕ) where
  at_within : (xs : List ℕ) → Early S xs → (o : ℕ) → get_or xs o 0 < length S
  at_within [] h o = omega (arith, c.three)
  at_within (x ∷ xs) h zero = h.0
  at_within (x ∷ xs) h (suc o) = at_within xs h.1 o

  bit_held : (b : Bit) → Asks (Linked S slots values) b → (bit_from slots b < length S) × (at S (bit_from slots b) ≡ bit_from values b)
  bit_held (known t) h = (omega (arith, c.three), constant_held S c t h)
  bit_held (bit row o) h = (
    at_within (slots row) h.early o,
    sym (get_or-map (at S) (slots row) o 0) ∙ ap₂ (λ (l : List ℕ) (d : ℕ). get_or l o d) h.holds c.zero',
  )

  bits_held : (bs : List Bit) → AllAsk (Linked S slots values) bs → Early S (map (bit_from slots) bs) × (reads_of S (map (bit_from slots) bs) ≡ map (bit_from values) bs)
  bits_held [] h = (tt, refl)
  bits_held (b ∷ bs) h =
      let p = bit_held b h.0 in
      let q = bits_held bs h.1 in
      ((p.0, q.0), ap₂ (λ (x : ℕ) (l : List ℕ). x ∷ l) p.1 q.1)

  -- AN OPERAND'S SLOTS HOLD ITS VALUE
  pub operand_early : (rs : List Run) → RunsAsk (Linked S slots values) rs → Early S (bits_from slots rs)
  unfolding bits_from
  operand_early rs h = early_back S (map (bit_from slots) (operand_bits rs)) [] (bits_held (operand_bits rs) (runs_ask (Linked S slots values) rs h)).0 tt

  pub operand_held : (rs : List Run) → RunsAsk (Linked S slots values) rs → reads_of S (bits_from slots rs) ≡ bits_from values rs
  unfolding bits_from
  operand_held rs h = reads_back S (map (bit_from slots) (operand_bits rs)) [] ∙ ap (λ (l : List ℕ). reverse_aux l []) (bits_held (operand_bits rs) (runs_ask (Linked S slots values) rs h)).1
