-- WHAT GOOD TABLES GIVE, read from a text or not: one printed text, one list, the run of that list and the evaluation.
-- Assumes nothing.
use Rattle.std.specs.Prelude.{Ok}
use mathlib.Core.Path.{◌≡◌, refl, ap, ◌∙◌, sym}
use mathlib.Core.Bool.{true, false}
use mathlib.Core.List.{List}
use Prim.Native.Nat.{ℕ, ◌*◌, ◌<◌, ◌≤◌}
use native.Mathlib.Omega.{arith}
use lib.ListN.{length}
use borrow.Author.Tests.{le-ltb, lt-ltb}
use Rattle.ground.specs.Regions.{over, pad}
use Rattle.ground.proofs.Bools.{bool_cases, and_true}
use Rattle.netlist.specs.Netlist.{Netlist}
use Rattle.netlist.specs.Rules.{valid}
use Rattle.netlist.specs.Tables.{tables_in}
use Rattle.netlist.specs.View.{view}
use Rattle.netlist.specs.Good.{short, laid, good, check_of, netlist_in}
use Rattle.lines.specs.Lines.{canonical}
use Rattle.printing.specs.Outcome as printing
use Rattle.loadlist.specs.Records.{list_bytes, input_op}
use Rattle.loadlist.specs.Check.{records, records_with}
use Rattle.loadlist.specs.Run.{outputs, slots, assigns, run_of}
use Rattle.loadlist.specs.Run as run
use Rattle.running.proofs.Ways.{succeeds}
use Rattle.placing.specs.Placing.{input_bits, outputs_from, ringed}
use Rattle.evaluating.specs.Settled.{Setting, Settled}
use Rattle.evaluating.specs.Evaluation.{evaluation}
use Rattle.evaluating.specs.Outcome as evaluating
use Rattle.evaluating.proofs.Settles.{evaluation_settled}
use Rattle.translating.specs.Outcome as translating
use Rattle.translating.specs.Translation.{translation, record_sum}
use Rattle.translating.proofs.Passing.{translation_passes, list_gives}
use Rattle.promises.proofs.Taking.{translation_inputs}

-- THE RUN of a netlist's list, for every setting of its input bits: it is not refused, and it gives the settled setting's output bits
module _ (N : Netlist) (v : valid N ≡ true) (free : ringed N ≡ false) (few : record_sum N ≤ 8192) where
  pub list_runs : (ins : List ℕ) → assigns (input_bits N) ins ≡ true → (u : Setting) → Settled N ins u → (outs work : List ℕ)
      → length (outputs_from u N) ≤ length outs → 8192 ≤ length work
      → run_of (list_bytes (translation N)) ins outs work
      ≡ run.made (Ok (length (outputs_from u N))) (over (length (outputs_from u N)) (outputs_from u N) outs)
      (over 8192 (pad 8192 (slots (list_bytes (translation N)) ins)) work)
  list_runs ins given u s outs work room long =
      let e : outputs (list_bytes (translation N)) ins ≡ outputs_from u N = list_gives N v free ins given ∙ evaluation_settled N v ins free u s in
      let fit : assigns (records_with input_op (records (list_bytes (translation N)))) ins ≡ true = ap (λ (n : ℕ). assigns n ins) (translation_inputs N v free ins given) ∙ given in
      let enough : length (outputs (list_bytes (translation N)) ins) ≤ length outs = rw e room in
      succeeds (list_bytes (translation N)) ins outs work (translation_passes N v free few) fit enough long
      ∙ ap (λ (x : List ℕ). run.made (Ok (length x)) (over (length x) x outs) (over 8192 (pad 8192 (slots (list_bytes (translation N)) ins)) work)) e

-- GOOD TABLES are not short, and show a valid netlist
module _ (rows strings bits : List ℕ) (h : check_of rows strings bits ≡ Ok tt) where
  pub not_short : short rows strings bits ≡ false
  unfolding check_of
  not_short = bool_cases (short rows strings bits)
      (λ e. let z : ◌≡◌ {A = ℕ} 0 1 = cc (rw e at h) in absurd (omega arith))
      (λ e. e)

  pub are_good : good (tables_in rows strings bits) ≡ true
  unfolding check_of
  are_good = bool_cases (good (tables_in rows strings bits))
      (λ e. e)
      (λ e. let z : ◌≡◌ {A = ℕ} 0 1 = cc (rw (not_short, e) at h) in absurd (omega arith))

  abbrev N : Netlist
  N = netlist_in rows strings bits

  pub shown_valid : valid N ≡ true
  unfolding good
  shown_valid = (and_true (laid N (tables_in rows strings bits)) (valid N) are_good).1

  pub text_printed : (room : List ℕ) → length (canonical N) ≤ length room
      → printing.print_of rows strings bits room ≡ printing.made (Ok (length (canonical N))) (over (length (canonical N)) (canonical N) room)
  unfolding printing.print_of printing.written
  text_printed room l = rw (h, le-ltb (length room) (length (canonical N)) l)

  -- THE LIST, or 20 for a ring, 21 for too many records, 24 for too little room
  module _ (room work : List ℕ) (long : 8192 ≤ length work) where
    of_netlist : translating.translate_of rows strings bits room work ≡ translating.translated_of N room work
    unfolding translating.translate_of
    of_netlist = rw (not_short, le-ltb (length work) 8192 long, are_good)

    pub in_ring : ringed N ≡ true → translating.translate_of rows strings bits room work ≡ translating.refused 20 room work
    in_ring r = of_netlist ∙ rw r

    pub too_many : ringed N ≡ false → 8192 < record_sum N → translating.translate_of rows strings bits room work ≡ translating.refused 21 room work
    too_many f m = of_netlist ∙ rw (f, lt-ltb 8192 (record_sum N) m)

    pub list_made : ringed N ≡ false → record_sum N ≤ 8192 → 8 * record_sum N ≤ length room
        → translating.translate_of rows strings bits room work
        ≡ translating.made (Ok (record_sum N)) (over (8 * record_sum N) (list_bytes (translation N)) room) (translating.cleared work)
    list_made f s l = of_netlist ∙ rw (f, le-ltb 8192 (record_sum N) s, le-ltb (length room) (8 * record_sum N) l)

  -- THE EVALUATION gives the settled setting's output bits
  pub evaluation_made : ringed N ≡ false → (ins : List ℕ) → assigns (input_bits N) ins ≡ true → (u : Setting) → Settled N ins u → (outs work : List ℕ)
      → length (outputs_from u N) ≤ length outs → 8192 ≤ length work
      → evaluating.evaluate_of rows strings bits ins outs work
      ≡ evaluating.made (Ok (length (outputs_from u N))) (over (length (outputs_from u N)) (outputs_from u N) outs) (evaluating.cleared work)
  unfolding evaluating.evaluate_of
  evaluation_made f ins given u s outs work room long =
      let e : evaluation N ins ≡ outputs_from u N = evaluation_settled N shown_valid ins f u s in
      rw (not_short, le-ltb (length work) 8192 long, are_good, f, given, e, le-ltb (length outs) (length (outputs_from u N)) room)
