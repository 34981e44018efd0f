-- Numbers in decimal, without leading zeros.
use Rattle.std.specs.Prelude.{ℕ, zero, suc, ◌+◌, ◌-◌, ◌/◌, ◌%◌, ◌^◌, ◌<◌, ◌≡◌, List, [], ◌∷◌, leb}
use Rattle.ground.specs.Choice.{pick}
use Rattle.ground.specs.Lists.{total}

-- the k + 1 digits of n, from the left; n is below 10 ^ (k + 1)
unfoldable pub digits : ℕ → ℕ → List ℕ
digits zero n = (48 + n) ∷ []
digits (suc k) n = (48 + n / 10 ^ suc k) ∷ digits k (n % 10 ^ suc k)

-- the powers of ten that a number of 32 bits can reach
abbrev pub powers : List ℕ
powers = 10 ∷ 100 ∷ 1000 ∷ 10000 ∷ 100000 ∷ 1000000 ∷ 10000000 ∷ 100000000 ∷ 1000000000 ∷ []

-- one less than the number of digits of n, below 10 ^ 10
unfoldable pub places : ℕ → ℕ
places n = total (λ p. pick (leb p n) 1 0) powers

abbrev pub decimal : ℕ → List ℕ
decimal n = digits (places n) n

-- a number in 32 bits, negative ones as their two's complement: "-" and the size
unfoldable pub signed : ℕ → List ℕ
signed n = pick (leb 2147483648 n) (45 ∷ decimal (4294967296 - n)) (decimal n)

-- the digit of n at 10 ^ k, and what is left below it
pub record SplitAt (n k digit rest : ℕ) : Type 0 where
  pub first : digit ≡ n / 10 ^ k
  pub after : rest ≡ n % 10 ^ k
  pub small : digit < 10
  pub less : rest < 10 ^ k
