-- An answer lies within the room it was given in: the canonical text, and the list of 8 bytes a record.
use Rattle.ground.specs.declared.Refusal.{Refusal}
use Rattle.std.specs.Prelude.{Result, Ok, Err}
use mathlib.Core.Path.{◌≡◌, refl, sym, subst}
use mathlib.Core.Bool.{Bool, true, false, not, ◌||◌}
use mathlib.Core.List.{List}
use Prim.Native.Nat.{ℕ, ◌*◌, ◌≤◌}
use native.Mathlib.Omega.{arith}
use lib.Dec.{ltb}
use lib.ListN.{length}
use borrow.Author.Tests.{ltb-false}
use Rattle.ground.specs.Choice.{pick}
use Rattle.ground.proofs.Bools.{bool_cases}
use Rattle.netlist.specs.Netlist.{Netlist}
use Rattle.netlist.specs.Tables.{tables_in}
use Rattle.netlist.specs.Good.{short, good, check_of, netlist_in}
use Rattle.placing.specs.Placing.{ringed}
use Rattle.lines.specs.Lines.{canonical}
use Rattle.printing.specs.Outcome as printing
use Rattle.printing.proofs.Printing.{not_printed, is_printed}
use Rattle.translating.specs.Outcome as translating
use Rattle.translating.specs.Translation.{record_sum}

-- what a printing answers, in bytes
abbrev length_of : Result ℕ Refusal → ℕ
length_of (Ok n) = n
length_of (Err g) = 0

written_fits : (text room : List ℕ) → length_of (printing.written text room).answer ≤ length room
unfolding printing.written
written_fits text room = bool_cases (ltb (length room) (length text))
    (λ e. rw e (omega arith))
    (λ e. let h = ltb-false (length room) (length text) e in rw e h)

module _ (rows strings bits room : List ℕ) where
  printed_at : (c : Result (Unit {0}) Refusal) → check_of rows strings bits ≡ c → length_of (printing.print_of rows strings bits room).answer ≤ length room
  printed_at (Ok tt) e = subst (λ (o : printing.Outcome). length_of o.answer ≤ length room)
      (is_printed rows strings bits room (printing.written (canonical (netlist_in rows strings bits)) room) e refl) (written_fits (canonical (netlist_in rows strings bits)) room)
  printed_at (Err g) e = subst (λ (o : printing.Outcome). length_of o.answer ≤ length room) (not_printed rows strings bits room g e) (omega arith)

  pub text_fits : (r : Result ℕ Refusal) (n : ℕ) (room' : List ℕ) → r ≡ Ok n → printing.made r room' ≡ printing.print_of rows strings bits room → n ≤ length room
  text_fits r n room' is e = subst (λ (p : Result ℕ Refusal). length_of p ≤ length room) is
      (subst (λ (o : printing.Outcome). length_of o.answer ≤ length room) (sym e) (printed_at (check_of rows strings bits) refl))

-- what a translation answers, in records
abbrev records_of : Result ℕ Refusal → ℕ
records_of (Ok n) = n
records_of (Err g) = 0

record Fits (n : ℕ) (o : translating.Outcome) : Type 0 where
  of : 8 * records_of o.answer ≤ n

either : {n : ℕ} (b : Bool) {x y : translating.Outcome} → Fits n x → Fits n y → Fits n (pick b x y)
either true p q = p
either false p q = q

room_fits : {n : ℕ} (m : ℕ) {x y : translating.Outcome} → Fits n x → (m ≤ n → Fits n y) → Fits n (pick (ltb n m) x y)
room_fits {n} m p q = bool_cases (ltb n m) (λ e. rw e p) (λ e. rw e (q (ltb-false n m e)))

module _ (rows strings bits room work : List ℕ) where
  translated_fits : Fits (length room) (translating.translate_of rows strings bits room work)
  unfolding translating.translate_of
  translated_fits =
      let none : 0 ≤ length room = omega arith in
      let N : Netlist = netlist_in rows strings bits in
      either (short rows strings bits || ltb (length work) 8192) (record { of = none })
      (either (not (good (tables_in rows strings bits))) (record { of = none })
      (either (ringed N) (record { of = none })
      (either (ltb 8192 (record_sum N)) (record { of = none })
      (room_fits (8 * record_sum N) (record { of = none }) (λ h. record { of = h })))))

  pub list_fits : (r : Result ℕ Refusal) (n : ℕ) (room' work' : List ℕ) → r ≡ Ok n → translating.made r room' work' ≡ translating.translate_of rows strings bits room work → 8 * n ≤ length room
  list_fits r n room' work' is e =
      let f : Fits (length room) (translating.made r room' work') = subst (Fits (length room)) (sym e) translated_fits in
      subst (λ (t : Result ℕ Refusal). 8 * records_of t ≤ length room) is f.of
