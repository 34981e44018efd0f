-- Each public function has one outcome: its contract is an equation.
use Rattle.lexis.specs.declared.Token.{Token}
use Rattle.lexis.specs.Took.{Took}
use Rattle.std.specs.Prelude.{Option}
use mathlib.Core.Path.{◌≡◌}
use mathlib.Core.List.{List}
use Prim.Native.Nat.{ℕ}
use Rattle.ground.proofs.Outcome.{any_two}
use Rattle.lexis.specs.Tokens.{token_at, inside_at, spot_at, link_at, byte_end}
use Rattle.lexis.specs.declared.Link.{Link}
use Rattle.lexis.specs.declared.Spot.{Spot}

-- with a lent table and without
pub next_one : (text : List ℕ) (k : ℕ) (o p : Took Token) → o ≡ token_at text k → p ≡ token_at text k → o ≡ p
next_one text k = any_two (token_at text) k

pub inside_one : (text : List ℕ) (k : ℕ) (o p : Took Token) → o ≡ inside_at text k → p ≡ inside_at text k → o ≡ p
inside_one text k = any_two (inside_at text) k

-- what is read without a token
pub spot_one : (text : List ℕ) (k : ℕ) (o p : Spot) → o ≡ spot_at text k → p ≡ spot_at text k → o ≡ p
spot_one text k = any_two (spot_at text) k

pub link_one : (text : List ℕ) (k : ℕ) (o p : Option Link) → o ≡ link_at text k → p ≡ link_at text k → o ≡ p
link_one text k = any_two (link_at text) k

pub byte_one : (text : List ℕ) (b k o p : ℕ) → o ≡ byte_end text b k → p ≡ byte_end text b k → o ≡ p
byte_one text b k = any_two (byte_end text b) k
