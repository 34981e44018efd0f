-- How the count of tokens goes on, with f tokens still allowed.
use Rattle.std.specs.Prelude.{Ok, Err, Some, None}
use mathlib.Core.Path.{◌≡◌, refl}
use mathlib.Core.List.{List}
use Prim.Native.Nat.{ℕ, zero, suc, ◌+◌, ◌-◌, ◌<◌, ◌≤◌}
use native.Mathlib.Numerals.{sub-one}
use native.Mathlib.Omega.{arith}
use Rattle.ground.specs.declared.Refusal.{Refusal}
use Rattle.lexis.specs.Tokens.{token_at}
use Rattle.textlib.specs.Told.{counted, refused_at, moved_by, tokens_from}

pub count_none : (f : ℕ) (text : List ℕ) (n k : ℕ) → f ≤ 0 → counted n ≡ tokens_from f text n k
unfolding tokens_from
count_none zero text n k h = refl
count_none (suc f) text n k h = absurd (omega arith)

module _ (f : ℕ) (text : List ℕ) (n k : ℕ) where
  pub count_on : 0 < f → (j : ℕ) → moved_by (token_at text k) ≡ Ok (Some j) → tokens_from (f - 1) text (n + 1) j ≡ tokens_from f text n k
  unfolding tokens_from
  count_on h j e = go f h
    where
      go : (f : ℕ) → 0 < f → tokens_from (f - 1) text (n + 1) j ≡ tokens_from f text n k
      go zero h = absurd (omega arith)
      go (suc f) h = simp sub-one (rw (e, tokens_from))

  pub count_ended : 0 < f → moved_by (token_at text k) ≡ Ok None → counted n ≡ tokens_from f text n k
  unfolding tokens_from
  count_ended h e = go f h
    where
      go : (f : ℕ) → 0 < f → counted n ≡ tokens_from f text n k
      go zero h = absurd (omega arith)
      go (suc f) h = rw (e, tokens_from)

  pub count_stopped : 0 < f → (g : Refusal) → moved_by (token_at text k) ≡ Err g → refused_at g ≡ tokens_from f text n k
  unfolding tokens_from
  count_stopped h g e = go f h
    where
      go : (f : ℕ) → 0 < f → refused_at g ≡ tokens_from f text n k
      go zero h = absurd (omega arith)
      go (suc f) h = rw (e, tokens_from)
