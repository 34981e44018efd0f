-- An operand laid turn by turn: some of its bits are laid, and the rest gives what the whole gives.
-- Assumes nothing.
use Rattle.std.specs.Prelude.{Some, None}
use mathlib.Core.Path.{◌≡◌, refl, ap, sym, subst, ◌∙◌}
use mathlib.Core.List.{List, [], ◌∷◌, ◌++◌, append_assoc, append-nil}
use Prim.Native.Nat.{ℕ, zero, suc, ◌+◌, ◌-◌, ◌*◌, ◌<◌, ◌≤◌}
use native.Mathlib.Omega.{arith}
use native.Mathlib.Nat.{suc-mul}
use lib.ListN.{length, length-append}
use Rattle.ground.specs.Lists.{joined, total}
use Rattle.brackets.specs.Parts.{PartAt, base_width, part_width}
use Rattle.brackets.specs.declared.Base.{Base}
use Rattle.brackets.specs.declared.Base.TheVariants as base
use Rattle.brackets.specs.declared.Part.{Part}
use Rattle.brackets.specs.declared.Part.TheVariants as part
use Rattle.brackets.proofs.Sums.{widths}
use Rattle.netlist.specs.Netlist.{Run}
use Rattle.netlist.specs.Runs.{Bit, cut}
use Rattle.saying.specs.Values.{trits_in, base_bits, copies, part_bits}
use Rattle.netlist.proofs.Runs.{length_falling, length_known}
use Rattle.laying.specs.Growing.{Open, Opened, Grows, BaseIn, PartIn, PartsIn, none, more}
use Rattle.laying.specs.declared.Laid.{Laid}
use Rattle.laying.proofs.Adding.{grows_none}
use Rattle.constants.proofs.Copying.{trits_long}
use Rattle.laying.proofs.Melding.{cut_more}

-- of the bits `whole` those before `rest` are laid
pub record Partly (rs : List Run) (whole rest : List Bit) (first : ℕ) (runs trits : List ℕ) (so : Laid) : Type 0 where
  pub done : List Bit
  pub stands : Open rs done first runs trits so
  pub left : done ++ rest ≡ whole

-- of the bits `all`, those before `rest` are laid behind whatever was laid at first
pub record Turned (first : ℕ) (runs₀ trits₀ : List ℕ) (so₀ : Laid) (all rest : List Bit) (runs trits : List ℕ) (so : Laid) : Type 0 where
  pub behind : (rs : List Run) (done : List Bit) → Open rs done first runs₀ trits₀ so₀ → Partly rs (done ++ all) rest first runs trits so

pub turned_none : (first : ℕ) (runs trits : List ℕ) (so : Laid) (all : List Bit) → Turned first runs trits so all all runs trits so
turned_none first runs trits so all = record { behind = λ rs done o. record { done = done; stands = o; left = refl } }

module _ {first : ℕ} {runs₀ trits₀ : List ℕ} {so₀ : Laid} {all : List Bit} {runs trits : List ℕ} {so : Laid} where
  -- the same rest, told otherwise
  pub turned_as : {rest rest' : List Bit} → rest ≡ rest' → Turned first runs₀ trits₀ so₀ all rest runs trits so → Turned first runs₀ trits₀ so₀ all rest' runs trits so
  turned_as e t = subst (λ (l : List Bit). Turned first runs₀ trits₀ so₀ all l runs trits so) e t

  module _ (new rest : List Bit) (t : Turned first runs₀ trits₀ so₀ all (new ++ rest) runs trits so) where
    pub turned_more : {runs' trits' : List ℕ} {so' : Laid} → Grows first runs trits so new (Some so') runs' trits'
        → Turned first runs₀ trits₀ so₀ all rest runs' trits' so'
    turned_more g = record {
      behind = λ rs done o.
          let p = t.behind rs done o in
          record { done = p.done ++ new; stands = g.behind rs p.done p.stands; left = append_assoc p.done new rest ∙ p.left };
    }

    pub turned_full : {runs' trits' runs'' trits'' : List ℕ} → Grows first runs trits so new None runs' trits'
        → Grows first runs₀ trits₀ so₀ all None runs'' trits''
    turned_full g = record {
      behind = λ rs done o.
          let p = t.behind rs done o in
          let f : 4096 < length (rs ++ cut (p.done ++ new)) = g.behind rs p.done p.stands in
          let e : (p.done ++ new) ++ rest ≡ done ++ all = append_assoc p.done new rest ∙ p.left in
          let m : length (cut (p.done ++ new)) ≤ length (cut (done ++ all)) = subst (λ (l : List Bit). length (cut (p.done ++ new)) ≤ length (cut l)) e (cut_more (p.done ++ new) rest) in
          let a = length-append rs (cut (p.done ++ new)) in
          rw length-append (omega arith);
    }

  pub turned_all : Turned first runs₀ trits₀ so₀ all [] runs trits so → Grows first runs₀ trits₀ so₀ all (Some so) runs trits
  turned_all t = record {
    behind = λ rs done o.
        let p = t.behind rs done o in
        let e : p.done ≡ done ++ all = sym (append-nil p.done) ∙ p.left in
        subst (λ (l : List Bit). Open rs l first runs trits so) e p.stands;
  }

  -- there is room for the rest
  pub turned_room : (rest : List Bit) → Turned first runs₀ trits₀ so₀ all rest runs trits so → {n : ℕ} → Opened first runs₀ trits₀ so₀ n → length all ≤ n
      → (m : ℕ) → m ≤ length rest → Opened first runs trits so m
  turned_room rest t {n} h fits m few =
      let p = t.behind h.rs h.done h.stands in
      let e : length p.done + length rest ≡ length h.done + length all =
      sym (length-append p.done rest) ∙ ap length p.left ∙ length-append h.done all in
      record { rs = h.rs; done = p.done; stands = p.stands; narrow = omega (arith, h.narrow); room = omega (arith, h.room) }

-- THE BITS OF A PART are as many as it is wide
pub base_wide : (text : List ℕ) (b : Base) → BaseIn text b → length (base_bits text b) ≡ base_width b
base_wide text (base.Constant s) h = length_known (trits_in text s) ∙ trits_long text s.from s.size h
base_wide text (base.Cell p) h = length_falling p.cell p.offset p.width

pub length_copies : (n : ℕ) (bs : List Bit) → length (copies n bs) ≡ n * length bs
unfolding copies
length_copies zero bs = omega arith
length_copies (suc n) bs = length-append bs (copies n bs) ∙ rw (length_copies n bs, suc-mul) (omega arith)

pub copies_more : (n : ℕ) (bs : List Bit) → 0 < n → copies n bs ≡ bs ++ copies (n - 1) bs
unfolding copies
copies_more zero bs h = absurd (omega arith)
copies_more (suc n) bs h = let e : suc n - 1 ≡ n = omega arith in rw e

pub copies_none : (bs : List Bit) → copies 0 bs ≡ []
unfolding copies
copies_none bs = refl

pub copies_empty : (n : ℕ) (bs : List Bit) → length bs ≡ 0 → copies n bs ≡ []
unfolding copies
copies_empty zero bs e = refl
copies_empty (suc n) [] e = copies_empty n [] e
copies_empty (suc n) (b ∷ bs) e = absurd (omega arith)

pub part_wide : (text : List ℕ) (p : Part) → PartIn text p → length (part_bits text p) ≡ part_width p
part_wide text (part.One b) h = base_wide text b h
part_wide text (part.Repeated b n) h = length_copies n (base_bits text b) ∙ rw (base_wide text b h)

abbrev pub bits_of : List ℕ → List PartAt → List Bit
bits_of text ps = joined (λ p. part_bits text p.part) ps

pub bits_wide : (text : List ℕ) {ps : List PartAt} → PartsIn text ps → length (bits_of text ps) ≡ widths ps
unfolding joined total
bits_wide text none = refl
bits_wide text (more {p} {ps} h hs) = length-append (part_bits text p.part) (bits_of text ps) ∙ rw (part_wide text p.part h, bits_wide text hs)

-- THE TURNS OF A REPETITION
module _ (text : List ℕ) (b : Base) (count left : ℕ) {first : ℕ} {runs₀ trits₀ : List ℕ} {so₀ : Laid} {runs trits : List ℕ} {so : Laid}
    (t : Turned first runs₀ trits₀ so₀ (copies count (base_bits text b)) (copies left (base_bits text b)) runs trits so) where
  module _ (some : 0 < left) where
    one_more : Turned first runs₀ trits₀ so₀ (copies count (base_bits text b)) (base_bits text b ++ copies (left - 1) (base_bits text b)) runs trits so
    one_more = turned_as (copies_more left (base_bits text b) some) t

    pub copies_room : BaseIn text b → Opened first runs₀ trits₀ so₀ (count * base_width b) → Opened first runs trits so (base_width b)
    copies_room i h =
        let w = base_wide text b i in
        let l : length (copies count (base_bits text b)) ≡ count * base_width b = length_copies count (base_bits text b) ∙ rw w in
        turned_room (base_bits text b ++ copies (left - 1) (base_bits text b)) one_more h (omega arith) (base_width b) (rw length-append (omega arith))

    pub copies_turn : {runs' trits' : List ℕ} {so' : Laid} → Grows first runs trits so (base_bits text b) (Some so') runs' trits'
        → Turned first runs₀ trits₀ so₀ (copies count (base_bits text b)) (copies (left - 1) (base_bits text b)) runs' trits' so'
    copies_turn g = turned_more (base_bits text b) (copies (left - 1) (base_bits text b)) one_more g

    pub copies_stop : {runs' trits' : List ℕ} → Grows first runs trits so (base_bits text b) None runs' trits'
        → Grows first runs₀ trits₀ so₀ (copies count (base_bits text b)) None runs' trits'
    copies_stop g = turned_full (base_bits text b) (copies (left - 1) (base_bits text b)) one_more g

  pub copies_end : left ≤ 0 → Grows first runs₀ trits₀ so₀ (copies count (base_bits text b)) (Some so) runs trits
  copies_end z =
      let e : left ≡ 0 = omega arith in
      turned_all (turned_as (ap (λ (n : ℕ). copies n (base_bits text b)) e ∙ copies_none (base_bits text b)) t)

pub copies_nothing : (text : List ℕ) (b : Base) (count : ℕ) {first : ℕ} {runs trits : List ℕ} {so : Laid} → BaseIn text b → base_width b ≡ 0
    → Grows first runs trits so (copies count (base_bits text b)) (Some so) runs trits
copies_nothing text b count i z = grows_none (copies count (base_bits text b)) (copies_empty count (base_bits text b) (base_wide text b i ∙ z))
