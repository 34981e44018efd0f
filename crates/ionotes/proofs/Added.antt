-- The region of I/O rows, and that a row which is added as `add_io` promises notes the declaration.
use Rattle.std.specs.Prelude.{Ok}
use mathlib.Core.Path.{◌≡◌}
use mathlib.Core.List.{List, [], ◌∷◌}
use Prim.Native.Nat.{ℕ, ◌*◌}
use native.Mathlib.Omega.{arith}
use lib.ListN.{length}
use lib.Seq.{sets}
use Rattle.ground.specs.Regions.{part}
use Rattle.ground.specs.declared.Place.{Place}
use Rattle.ground.proofs.Regions.{part_length}
use Rattle.brackets.specs.declared.Str.{Str}
use Rattle.saying.specs.Rules.{Sofar}
use Rattle.noting.specs.Noted.{Noted, After}
use Rattle.noting.specs.Formed.{StrIn}
use Rattle.noting.specs.Rulings.{ruling_of, io_in, io_rules, io_declared, io_tally}
use Rattle.noting.specs.declared.Tally.{Tally}
use Rattle.noting.proofs.Flat.{put}
use Rattle.noting.proofs.IoNotes.{io_after}

pub io_region : (rows : List ℕ) → length rows ≡ 26307 → length (part 9219 192 rows) ≡ 192
io_region rows long = part_length 9219 192 rows (omega arith)

pub io_added : (text : List ℕ) (so : Sofar) (n : Tally) (rows bits work : List ℕ) (place : Place) (index : ℕ) (name : Str) (width : ℕ) → Noted text so n rows bits work → StrIn text name
    → ruling_of (io_rules so.netlist (io_in text name width) place) ≡ Ok tt
    → (new : List ℕ) (m : Tally) → new ≡ sets (part 9219 192 rows) (n.ios * 3) (name.from ∷ name.size ∷ width ∷ []) → m ≡ io_tally n name.size
    → After text so (io_declared place index name width) (Ok m) (put 9219 192 rows new) bits work
io_added text so n rows bits work place index name width d s r new m e t = rw (e, t) (io_after text so n rows bits work place index name width d s r)
