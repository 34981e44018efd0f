-- Laws of the outputs: the walk that gives them, and their number.
use mathlib.Core.Path.{◌≡◌, refl, ap, ap₂, sym, ◌∙◌}
use mathlib.Core.List.{List, [], ◌∷◌, ◌++◌, append_assoc, append-nil}
use Prim.Native.Nat.{ℕ, zero, suc, ◌+◌, ◌*◌, ◌-◌, ◌<◌, ◌≤◌}
use native.Mathlib.Nat.{add-zero, zero-add}
use native.Mathlib.Omega.{arith}
use lib.Dec.{eqb}
use lib.ListN.{length, take, drop, get_or, set, length-append}
use lib.Seq.{sets, sets-eq, length-sets, length-take-le, drop_at, drop-drop}
use borrow.Author.Tests.{eq-eqb, ne_eqb}
use Rattle.ground.specs.Choice.{pick}
use Rattle.ground.specs.Lists.{total}
use Rattle.ground.proofs.Bools.{bool_cases}
use Rattle.loadlist.specs.declared.Record.{Record}
use Rattle.loadlist.specs.Records.{record_in, records_in, output_op}
use Rattle.loadlist.specs.Check.{records_with}
use Rattle.loadlist.specs.Run.{outputs_in}
use Rattle.running.specs.Given.{given, Before}

pub given_output : (r : Record) (x : ℕ) → r.op ≡ output_op → given r x ≡ x ∷ []
given_output r x h = rw (eq-eqb r.op output_op h)

pub given_none : (r : Record) (x : ℕ) → (r.op ≡ output_op → ⊥) → given r x ≡ []
given_none r x h = rw (ne_eqb r.op output_op h)

pub before_one : (old : List ℕ) (at x : ℕ) → 1 ≤ at → Before old at (x ∷ []) (at - 1) (set old (at - 1) x)
before_one old at x h = record { next = omega arith; holds = refl }

pub before_none : (old : List ℕ) (at : ℕ) → Before old at [] at old
before_none old at = record { next = add-zero at; holds = refl }

outputs_cons : (r : Record) (x : ℕ) (rs : List Record) (slots : List ℕ) → outputs_in (r ∷ rs) (x ∷ slots) ≡ given r x ++ outputs_in rs slots
unfolding outputs_in
outputs_cons r x rs slots = bool_cases (eqb r.op output_op) (λ e. rw (e, outputs_in)) (λ e. rw (e, outputs_in))

-- what record k gives of its slot
abbrev giving : List ℕ → List ℕ → ℕ → List ℕ
giving list work k = given (record_in (drop (8 * k) list)) (get_or work k 0)

-- one record more gives one output more, or none
outputs_more : (k : ℕ) (list work : List ℕ) → k < length work → outputs_in (records_in (suc k) list) work ≡ outputs_in (records_in k list) work ++ giving list work k
unfolding records_in outputs_in
outputs_more k list [] h = absurd (omega arith)
outputs_more zero list (x ∷ work) h = outputs_cons (record_in list) x [] work ∙ append-nil (given (record_in list) x)
outputs_more (suc k) list (x ∷ work) h =
    let e : 8 + 8 * k ≡ 8 * suc k = omega arith in
    let d : drop (8 * k) (drop 8 list) ≡ drop (8 * suc k) list = drop-drop (8 * k) 8 list ∙ ap (λ (m : ℕ). drop m list) e in
    outputs_cons (record_in list) x (records_in (suc k) (drop 8 list)) work
    ∙ ap (λ (l : List ℕ). given (record_in list) x ++ l) (outputs_more k (drop 8 list) work (omega arith))
    ∙ sym (append_assoc (given (record_in list) x) (outputs_in (records_in k (drop 8 list)) work) (giving (drop 8 list) work k))
    ∙ ap₂ (λ (a b : List ℕ). a ++ b) (sym (outputs_cons (record_in list) x (records_in k (drop 8 list)) work)) (ap (λ (l : List ℕ). given (record_in l) (get_or work k 0)) d)

-- what is put behind the front of a list may be put there first
sets_under : (l xs ys : List ℕ) → length xs + length ys ≤ length l → sets (sets l (length xs) ys) 0 xs ≡ sets l 0 (xs ++ ys)
sets_under l xs ys h =
    let m = length xs in
    let z = drop (m + length ys) l in
    let p : sets l m ys ≡ take m l ++ (ys ++ z) = sets-eq ys l m h ∙ append_assoc (take m l) ys z in
    let b : 0 + m ≤ length (sets l m ys) = rw length-sets (omega arith) in
    let d : drop (0 + m) (sets l m ys) ≡ ys ++ z = ap₂ (λ (i : ℕ) (x : List ℕ). drop i x) (zero-add m) p ∙ drop_at (take m l) (ys ++ z) m (length-take-le m l (omega arith)) in
    let c : 0 + length (xs ++ ys) ≤ length l = rw length-append (omega arith) in
    let e : 0 + length (xs ++ ys) ≡ m + length ys = rw length-append (omega arith) in
    sets-eq xs (sets l m ys) 0 b ∙ ap (λ (r : List ℕ). xs ++ r) d ∙ sym (append_assoc xs ys z)
    ∙ sym (sets-eq (xs ++ ys) l 0 c ∙ ap (λ (i : ℕ). (xs ++ ys) ++ drop i l) e)

-- the outputs of all records but the first k are given, and stand from the place `at` on
pub record Gave (list work : List ℕ) (n : ℕ) (old : List ℕ) (k at : ℕ) (outs : List ℕ) : Type 0 where
  pub left : sets outs 0 (outputs_in (records_in k list) work) ≡ sets old 0 (outputs_in (records_in n list) work)
  pub count : at ≡ length (outputs_in (records_in k list) work)
  pub room : at ≤ length outs
  pub long : length outs ≡ length old

pub gave_none : (list work : List ℕ) (n : ℕ) (old : List ℕ) {count : ℕ} → count ≤ length old → count ≡ length (outputs_in (records_in n list) work) → Gave list work n old n count old
gave_none list work n old h e = record { left = refl; count = e; room = h; long = refl }

-- outputs come of records
some_left : (k : ℕ) (list work : List ℕ) → 0 < length (outputs_in (records_in k list) work) → 0 < k
unfolding records_in outputs_in
some_left zero list work h = h
some_left (suc k) list work h = omega arith

-- no outputs come of no records
none_left : (k : ℕ) (list work : List ℕ) → k ≤ 0 → length (outputs_in (records_in k list) work) ≤ 0
unfolding records_in outputs_in
none_left zero list work h = omega arith
none_left (suc k) list work h = absurd (omega arith)

nothing_left : (xs : List ℕ) → length xs ≤ 0 → xs ≡ []
nothing_left [] h = refl
nothing_left (x ∷ xs) h = absurd (omega arith)

module _ {list work old outs : List ℕ} {n k at : ℕ} (g : Gave list work n old k at outs) where
  pub gave_left : 0 < at → 0 < k
  gave_left h = some_left k list work (omega (arith, g.count))

  pub gave_all : at ≤ 0 → outs ≡ sets old 0 (outputs_in (records_in n list) work)
  gave_all h =
      let e : outputs_in (records_in k list) work ≡ [] = nothing_left (outputs_in (records_in k list) work) (omega (arith, g.count)) in
      rw e at g.left

  pub gave_end : k ≤ 0 → outs ≡ sets old 0 (outputs_in (records_in n list) work)
  gave_end h = gave_all (omega (arith, g.count, none_left k list work h))

  module _ (m : ℕ) (r : Record) (e : suc m ≡ k) (made : m < length work) (read : r ≡ record_in (drop (8 * m) list)) where
    pub gave_more : {next : ℕ} {new : List ℕ} → Before outs at (given r (get_or work m 0)) next new → Gave list work n old m next new
    gave_more {next} {new} p =
        let xs = outputs_in (records_in m list) work in
        let ys = giving list work m in
        let o : outputs_in (records_in k list) work ≡ xs ++ ys = ap (λ (i : ℕ). outputs_in (records_in i list) work) (sym e) ∙ outputs_more m list work made in
        let y : given r (get_or work m 0) ≡ ys = ap (λ (q : Record). given q (get_or work m 0)) read in
        let t : next + length ys ≡ at = ap (λ (l : List ℕ). next + length l) (sym y) ∙ p.next in
        let c : at ≡ length xs + length ys = g.count ∙ ap length o ∙ length-append xs ys in
        let s : next ≡ length xs = omega (arith, t, c) in
        let q : new ≡ sets outs (length xs) ys = p.holds ∙ ap₂ (λ (i : ℕ) (l : List ℕ). sets outs i l) s y in
        let l : length new ≡ length outs = ap length q ∙ length-sets outs (length xs) ys in
        record {
          left =
              ap (λ (x : List ℕ). sets x 0 xs) q ∙ sets_under outs xs ys (omega (arith, c, g.room))
              ∙ ap (λ (x : List ℕ). sets outs 0 x) (sym o) ∙ g.left;
          count = s;
          room = omega (arith, t, l, g.room);
          long = l ∙ g.long;
        }

-- work space past the slots gives nothing
pub outputs_front : (rs : List Record) (slots t : List ℕ) → length slots ≡ length rs → outputs_in rs (slots ++ t) ≡ outputs_in rs slots
unfolding outputs_in
outputs_front [] slots t e = refl
outputs_front (r ∷ rs) [] t e = absurd (omega arith)
outputs_front (r ∷ rs) (x ∷ slots) t e = outputs_cons r x rs (slots ++ t) ∙ ap (λ (l : List ℕ). given r x ++ l) (outputs_front rs slots t (omega arith)) ∙ sym (outputs_cons r x rs slots)

-- an output for each output record
given_one : (r : Record) (x : ℕ) → length (given r x) ≡ pick (eqb r.op output_op) 1 0
given_one r x = bool_cases (eqb r.op output_op) (λ e. rw e) (λ e. rw e)

pub outputs_number : (rs : List Record) (slots : List ℕ) → length slots ≡ length rs → length (outputs_in rs slots) ≡ records_with output_op rs
unfolding total outputs_in
outputs_number [] slots e = refl
outputs_number (r ∷ rs) [] e = absurd (omega arith)
outputs_number (r ∷ rs) (x ∷ slots) e =
    ap length (outputs_cons r x rs slots) ∙ length-append (given r x) (outputs_in rs slots)
    ∙ ap₂ (λ a b. a + b) (given_one r x) (outputs_number rs slots (omega arith))
