use Rattle.std.proofs.Common.{◌≡◌, drop}
use Rattle.std.proofs.lemmas.List.Edits.{sets}
use Rattle.telling.specs.Bits.{bits_of}
use Rattle.telling.proofs.bits.put_bits.Given as goal

abbrev pub invariant-loop-i : goal.invariant-loop-i
invariant-loop-i l = sets l.room l.i (bits_of (drop l.i l.letters)) ≡ sets l.initial.room 0 (bits_of l.letters)
