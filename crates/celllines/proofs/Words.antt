-- The keywords one behind the other: where the keyword of a kind stands among them.
use Prim.Native.Nat.{ℕ, ◌+◌, ◌-◌, ◌<◌, ◌≤◌}
use mathlib.Core.Path.{◌≡◌, refl, ap₂, subst}
use mathlib.Core.Bool.{Bool, ◌&&◌}
use mathlib.Core.List.{List, [], ◌∷◌}
use lib.Dec.{T, eqb, leb, leb→le}
use lib.ListN.{length, take, drop, get_or}
use lib.Seq.{get_or-take}
use borrow.Author.Tests.{eqb-true}
use Rattle.ground.specs.Text.{bytes, same}
use Rattle.ground.proofs.Bools.{bool_cases, and_first, and_second}
use Rattle.ground.proofs.Tables.{at}
use Rattle.kinds.specs.Kinds.{kind_at}

abbrev pub keywords : List ℕ
keywords = bytes "inputoutputbufnotandorxormuxadcequltslt"

abbrev starts : List ℕ
starts = 0 ∷ 0 ∷ 5 ∷ 11 ∷ 14 ∷ 17 ∷ 20 ∷ 22 ∷ 25 ∷ 28 ∷ 31 ∷ 33 ∷ 36 ∷ 39 ∷ []

same_is : (a b : List ℕ) → T (same a b) → a ≡ b
unfolding same
same_is [] [] t = refl
same_is [] (y ∷ ys) t = absurd t
same_is (x ∷ xs) [] t = absurd t
same_is (x ∷ xs) (y ∷ ys) t = bool_cases (eqb x y) (λ e. ap₂ ◌∷◌ (eqb-true x y e) (same_is xs ys (rw (e, same) at t))) (λ e. absurd (rw (e, same) at t))

abbrev next : ℕ → ℕ
next k = get_or starts (k + 1) 0

-- from a start to the next one stands the keyword of the kind
abbrev says : ℕ → ℕ → Bool
says k start = same (take (next k - start) (drop start keywords)) (bytes (kind_at k).word)

abbrev between : ℕ → ℕ → Bool
between k start = leb start (next k) && (leb (next k) 39 && says k start)

module _ (k : ℕ) (h : k < 13) where
  abbrev start : ℕ
  start = get_or starts k 0

  all_between : T (between k start)
  unfolding kind_at bytes same
  all_between = subst (λ (x : ℕ). T (between k x)) (get_or-take 13 starts k 0 h) (at between (take 13 starts) 0 tt k h)

  behind : T (leb (next k) 39 && says k start)
  behind = and_second (leb start (next k)) (leb (next k) 39 && says k start) all_between

  pub word_fits : (start ≤ next k) × (next k ≤ 39)
  word_fits = (
    leb→le start (next k) (and_first (leb start (next k)) (leb (next k) 39 && says k start) all_between),
    leb→le (next k) 39 (and_first (leb (next k) 39) (says k start) behind),
  )

  pub word_between : take (next k - start) (drop start keywords) ≡ bytes (kind_at k).word
  word_between = same_is (take (next k - start) (drop start keywords)) (bytes (kind_at k).word) (and_second (leb (next k) 39) (says k start) behind)
