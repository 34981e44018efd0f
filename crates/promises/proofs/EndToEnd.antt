-- END TO END, from any bytes to what the bench sees: a refusal on its own ground, with its place and all lent memory told; or tables that
-- print one text and give one list, whose run under every setting, and whose evaluation, are what the text says.
-- Assumes nothing.
use Rattle.std.specs.Prelude.{Result, Ok, Err}
use mathlib.Core.Path.{◌≡◌, refl, ap, ◌∙◌, sym, subst}
use mathlib.Core.Bool.{Bool, true, false, ◌||◌}
use mathlib.Core.List.{List}
use Prim.Native.Nat.{ℕ, ◌*◌, ◌<◌, ◌≤◌}
use native.Mathlib.Omega.{arith}
use lib.Dec.{ltb}
use lib.ListN.{length}
use Rattle.ground.specs.Refusals.{at, refusal}
use Rattle.ground.specs.Regions.{over, pad}
use Rattle.ground.specs.declared.Refusal.{Refusal}
use Rattle.netlist.specs.Netlist.{Netlist}
use Rattle.netlist.specs.Rules.{valid}
use Rattle.netlist.specs.Good.{short, check_of, netlist_in}
use Rattle.declaring.specs.Reading.{Reading, says, refused, reading}
use Rattle.reading.specs.Outcome as reading
use Rattle.lines.specs.Lines.{canonical}
use Rattle.printing.specs.Outcome as printing
use Rattle.accepting.proofs.Good.{Accepted, accepted_good}
use Rattle.language.specs.Language.{Says}
use Rattle.language.proofs.Exactly.{read_says, says_read}
use Rattle.loadlist.specs.Records.{list_bytes}
use Rattle.loadlist.specs.Run.{slots, assigns, run_of}
use Rattle.loadlist.specs.Run as run
use Rattle.placing.specs.Placing.{input_bits, outputs_from, ringed}
use Rattle.evaluating.specs.Settled.{Setting, Settled}
use Rattle.evaluating.specs.Outcome as evaluating
use Rattle.translating.specs.Outcome as translating
use Rattle.translating.specs.Translation.{translation, record_sum}
use Rattle.promises.proofs.Unread.{lent_short, Unread, judged, read_refused}
use Rattle.promises.proofs.GoodTables.{shown_valid, text_printed, in_ring, too_many, list_made, list_runs, evaluation_made}

-- WHAT A READ THAT IS ACCEPTED GIVES: good tables of the netlist that the text says; its one text, where the room takes it; its one list,
-- or 20 for a ring, 21 for too many records; and for every setting of the input bits the list's run and the evaluation, which give the
-- output bits of the settled setting
pub record Card (text : List ℕ) (o : reading.Outcome) : Type 0 where
  pub netlist : Netlist
  pub said : Says text netlist
  pub sound : valid netlist ≡ true
  pub good : check_of o.rows o.strings o.bits ≡ Ok tt
  pub shown : netlist_in o.rows o.strings o.bits ≡ netlist
  pub printed : (room : List ℕ) → length (canonical netlist) ≤ length room
      → printing.print_of o.rows o.strings o.bits room ≡ printing.made (Ok (length (canonical netlist))) (over (length (canonical netlist)) (canonical netlist) room)
  pub listed : ringed netlist ≡ false → record_sum netlist ≤ 8192 → (room work : List ℕ) → 8 * record_sum netlist ≤ length room → 8192 ≤ length work
      → translating.translate_of o.rows o.strings o.bits room work ≡ translating.made (Ok (record_sum netlist)) (over (8 * record_sum netlist) (list_bytes (translation netlist)) room) (translating.cleared work)
  pub ring : ringed netlist ≡ true → (room work : List ℕ) → 8192 ≤ length work
      → translating.translate_of o.rows o.strings o.bits room work ≡ translating.refused 20 room work
  pub many : ringed netlist ≡ false → 8192 < record_sum netlist → (room work : List ℕ) → 8192 ≤ length work
      → translating.translate_of o.rows o.strings o.bits room work ≡ translating.refused 21 room work
  pub runs : ringed netlist ≡ false → record_sum netlist ≤ 8192 → (ins : List ℕ) → assigns (input_bits netlist) ins ≡ true → (u : Setting) → Settled netlist ins u
      → (outs work : List ℕ) → length (outputs_from u netlist) ≤ length outs → 8192 ≤ length work
      → run_of (list_bytes (translation netlist)) ins outs work
      ≡ run.made (Ok (length (outputs_from u netlist))) (over (length (outputs_from u netlist)) (outputs_from u netlist) outs)
      (over 8192 (pad 8192 (slots (list_bytes (translation netlist)) ins)) work)
  pub evaluated : ringed netlist ≡ false → (ins : List ℕ) → assigns (input_bits netlist) ins ≡ true → (u : Setting) → Settled netlist ins u
      → (outs work : List ℕ) → length (outputs_from u netlist) ≤ length outs → 8192 ≤ length work
      → evaluating.evaluate_of o.rows o.strings o.bits ins outs work
      ≡ evaluating.made (Ok (length (outputs_from u netlist))) (over (length (outputs_from u netlist)) (outputs_from u netlist) outs) (evaluating.cleared work)

module _ (text : List ℕ) (o : reading.Outcome) (a : Accepted text o) where
  pub card : Card text o
  card = record {
    netlist = netlist_in o.rows o.strings o.bits;
    said = subst (λ (N : Netlist). Says text N) (sym a.shown) (read_says text a.netlist a.said);
    sound = shown_valid o.rows o.strings o.bits a.good;
    good = a.good;
    shown = refl;
    printed = text_printed o.rows o.strings o.bits a.good;
    listed = λ f s room work h long. list_made o.rows o.strings o.bits a.good room work long f s h;
    ring = λ r room work long. in_ring o.rows o.strings o.bits a.good room work long r;
    many = λ f m room work long. too_many o.rows o.strings o.bits a.good room work long f m;
    runs = λ f s. list_runs (netlist_in o.rows o.strings o.bits) (shown_valid o.rows o.strings o.bits a.good) f s;
    evaluated = evaluation_made o.rows o.strings o.bits a.good;
  }

-- WHAT A READ THAT IS REFUSED MEANS: its number has its ground; 1 where a lent slice is short, and then nothing is changed; else the text
-- says no netlist, and all tables and the work space are zero
pub record Turned (text rows strings bits work : List ℕ) (g : Refusal) : Type 0 where
  pub ground : Unread text rows strings bits work g
  pub unchanged : lent_short rows strings bits work ≡ true
      → reading.read_of text rows strings bits work ≡ reading.made (Err (refusal 1 (at 0))) rows strings bits work
  pub unsaid : lent_short rows strings bits work ≡ false → (N : Netlist) → Says text N → ⊥
  pub cleared : lent_short rows strings bits work ≡ false
      → reading.read_of text rows strings bits work ≡ reading.left rows strings bits work (refused g)

-- a text that is refused says nothing
never_said : {P : Type 0} (g : Refusal) (N : Netlist) → refused g ≡ says N → P
never_said g N e = let z : ◌≡◌ {A = ℕ} 0 1 = cc in absurd (omega arith)

module _ (text rows strings bits work : List ℕ) (g : Refusal) (e : (reading.read_of text rows strings bits work).answer ≡ Err g) where
  turned : Turned text rows strings bits work g
  unfolding reading.read_of
  turned = record {
    ground = read_refused text rows strings bits work g e;
    unchanged = λ f. rw f;
    unsaid = λ f N s. never_said g N (sym (judged text rows strings bits work g e f) ∙ says_read text N s);
    cleared = λ f. rw f (ap (reading.left rows strings bits work) (judged text rows strings bits work g e f));
  }

-- THE ANSWER: a refusal, which has its number and its place, or a card
abbrev pub Answered : List ℕ → List ℕ → List ℕ → List ℕ → List ℕ → Result (Unit {0}) Refusal → Type 0
Answered text rows strings bits work (Err g) = Turned text rows strings bits work g
Answered text rows strings bits work (Ok tt) = Card text (reading.read_of text rows strings bits work)

answered_by : (text rows strings bits work : List ℕ) (r : Result (Unit {0}) Refusal) → (reading.read_of text rows strings bits work).answer ≡ r → Answered text rows strings bits work r
answered_by text rows strings bits work (Err g) e = turned text rows strings bits work g e
answered_by text rows strings bits work (Ok tt) e = card text (reading.read_of text rows strings bits work) (accepted_good text rows strings bits work e)

-- for every byte sequence, and every content of the lent tables and the work space
pub end_to_end : (text rows strings bits work : List ℕ) → Answered text rows strings bits work (reading.read_of text rows strings bits work).answer
end_to_end text rows strings bits work = answered_by text rows strings bits work (reading.read_of text rows strings bits work).answer refl
