-- What one record gives: its slot, where it is an output record. It goes before what later records have given.
use Rattle.std.specs.Prelude.{◌≡◌, List, [], ◌∷◌, ℕ, ◌+◌, eqb, length}
use Rattle.std.proofs.lemmas.List.Edits.{sets}
use Rattle.ground.specs.Choice.{pick}
use Rattle.loadlist.specs.declared.Record.{Record}
use Rattle.loadlist.specs.Records.{output_op}

abbrev pub given : Record → ℕ → List ℕ
given r x = pick (eqb r.op output_op) (x ∷ []) []

-- the list xs is put right before the place `at`, and begins at n
pub record Before (old : List ℕ) (at : ℕ) (xs : List ℕ) (n : ℕ) (new : List ℕ) : Type 0 where
  pub next : n + length xs ≡ at
  pub holds : new ≡ sets old n xs
