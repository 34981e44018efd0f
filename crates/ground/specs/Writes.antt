-- What a writer did to a lent list. Records, so that the lists and places of a chain of writes are inferred.
use Rattle.std.specs.Prelude.{◌≡◌, List, ℕ, ◌+◌, length}
use Rattle.std.proofs.lemmas.List.Edits.{sets}

-- `new` is `old` with the words written over it from the place `at` on
pub record Wrote {A : Type 0} (old : List A) (at : ℕ) (words : List A) (new : List A) : Type 0 where
  pub is : new ≡ sets old at words

-- the same, told with the place after the words
pub record Put {A : Type 0} (old : List A) (at : ℕ) (words : List A) (after : ℕ) (new : List A) : Type 0 where
  pub next : after ≡ at + length words
  pub holds : new ≡ sets old at words
