-- Where reading stands in a printed text, what a token there leaves, and what a printed line says again.
use Rattle.std.specs.Prelude.{Ok, Some}
use Prim.Native.Nat.{ℕ}
use mathlib.Core.Path.{◌≡◌}
use mathlib.Core.Bool.{Bool, false, ◌||◌}
use mathlib.Core.List.{List}
use lib.Dec.{eqb}
use lib.ListN.{drop, get_or}
use Rattle.ground.specs.Refusals.{at}
use Rattle.ground.specs.declared.Place.{Place}
use Rattle.lexis.specs.Tokens.{follows, token_at, inside_at, took}
use Rattle.lexis.specs.declared.Token.{Token}
use Rattle.form.specs.Forms.{form_at}
use Rattle.form.specs.declared.Decl.{Decl}

-- s is left at the place k, and a token may begin there
pub record Stands (text : List ℕ) (k : ℕ) (s : List ℕ) : Type 0 where
  pub rest : drop k text ≡ s
  pub free : follows text k ≡ false

-- the token t is next, outside and between brackets, and s is left behind it
pub record Takes (text : List ℕ) (k : ℕ) (t : Token) (s : List ℕ) : Type 0 where
  pub end : ℕ
  pub outside : token_at text k ≡ took t end
  pub inside : inside_at text k ≡ took t end
  pub rest : drop end text ≡ s

-- the same of a mark; a token may begin behind it
pub record Marks (text : List ℕ) (k : ℕ) (t : Token) (s : List ℕ) : Type 0 where
  pub end : ℕ
  pub outside : token_at text k ≡ took t end
  pub inside : inside_at text k ≡ took t end
  pub after : Stands text end s

-- the line ends, and a line may begin behind it
pub record Feeds (text : List ℕ) (k : ℕ) (t : Token) (s : List ℕ) : Type 0 where
  pub end : ℕ
  pub outside : token_at text k ≡ took t end
  pub after : Stands text end s

-- a declaration is next, of the index and with what it says; s is left behind it
pub record Declares (text : List ℕ) (k index : ℕ) (says : Decl → Type 0) (s : List ℕ) : Type 0 where
  pub decl : Decl
  pub place : Place
  pub end : ℕ
  pub form : form_at text k ≡ Ok (Some (record { place = place; index = index; decl = decl }, record { next = at end }))
  pub after : Stands text end s
  pub said : says decl

-- what stands behind a printed number, word or constant: a space, a line feed, `)`, `=`, `]` or `}`
abbrev pub breaks : ℕ → Bool
breaks b = eqb b 32 || (eqb b 10 || (eqb b 41 || (eqb b 61 || (eqb b 93 || eqb b 125))))

abbrev pub ends : List ℕ → Bool
ends s = breaks (get_or s 0 0)
