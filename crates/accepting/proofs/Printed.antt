-- PRINTING REFUSES NOTHING THAT READING ACCEPTED, but for room: what is written is the canonical text of what the read text says.
use Rattle.std.specs.Prelude.{Ok}
use mathlib.Core.Path.{◌≡◌}
use mathlib.Core.List.{List}
use Prim.Native.Nat.{ℕ, ◌≤◌}
use lib.ListN.{length}
use borrow.Author.Tests.{le-ltb}
use Rattle.reading.specs.Outcome.{Outcome, read_of}
use Rattle.lines.specs.Lines.{canonical}
use Rattle.printing.specs.Outcome.{written, print_of}
use Rattle.accepting.proofs.Good.{Accepted, accepted_good}

accepted_written : (text : List ℕ) (o : Outcome) (a : Accepted text o) (room : List ℕ) → print_of o.rows o.strings o.bits room ≡ written (canonical a.netlist) room
unfolding print_of
accepted_written text o a room = rw (a.good, a.shown)

module _ (text rows strings bits work : List ℕ) (e : (read_of text rows strings bits work).answer ≡ Ok tt) where
  abbrev o : Outcome
  o = read_of text rows strings bits work

  pub accepted_printed : (room : List ℕ) → print_of o.rows o.strings o.bits room ≡ written (canonical (accepted_good text rows strings bits work e).netlist) room
  accepted_printed room = accepted_written text o (accepted_good text rows strings bits work e) room

  -- with room enough
  pub accepted_length : (room : List ℕ) → length (canonical (accepted_good text rows strings bits work e).netlist) ≤ length room
      → (print_of o.rows o.strings o.bits room).answer ≡ Ok (length (canonical (accepted_good text rows strings bits work e).netlist))
  unfolding written
  accepted_length room h = rw (accepted_printed room, le-ltb (length room) (length (canonical (accepted_good text rows strings bits work e).netlist)) h)
