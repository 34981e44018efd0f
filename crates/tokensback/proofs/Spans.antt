-- Spans of a printed text: letters and constants up to what ends them.
use Prim.Native.Nat.{ℕ, ◌+◌, ◌-◌}
use mathlib.Core.Path.{◌≡◌, refl, ◌∙◌}
use mathlib.Core.Bool.{Bool, true, false, ◌||◌}
use mathlib.Core.List.{List, [], ◌∷◌, ◌++◌}
use native.Mathlib.Omega.{arith}
use lib.Dec.{eqb}
use lib.ListN.{drop, get_or, length}
use borrow.Author.Tests.{eqb-true}
use Rattle.ground.specs.Lists.{every}
use Rattle.ground.proofs.Bools.{bool_cases, or_false, every_first}
use Rattle.signs.specs.Bytes.{class_from, class_of, is_letter}
use Rattle.signs.specs.Pieces.{span_end}
use Rattle.lexis.specs.Tokens.{took, plain, word, word_of, long_of}
use Rattle.tokensback.proofs.Standing.{breaks, ends}

-- the test fails at each byte that ends a number, a word or a constant
abbrev pub Fails : (ℕ → Bool) → Type 0
Fails p = p 32 || (p 10 || (p 41 || (p 61 || (p 93 || p 125)))) ≡ false

module _ (p : ℕ → Bool) where
  one_of : (b c : ℕ) (q r : Bool) → (q ≡ false → r ≡ true → p b ≡ false) → p c || q ≡ false → eqb b c || r ≡ true → p b ≡ false
  one_of b c q r g f h =
      let o = or_false (p c) q f in
      bool_cases (eqb b c) (λ e. rw (eqb-true b c e) o.0) (λ e. g o.1 (rw e at h))

  break_fails : (b : ℕ) → Fails p → breaks b ≡ true → p b ≡ false
  break_fails b = one_of b 32 _ _ (one_of b 10 _ _ (one_of b 41 _ _ (one_of b 61 _ _ (one_of b 93 _ _ (λ f e. rw (eqb-true b 125 e) f)))))

  -- so it fails where one ends
  pub end_fails : (s : List ℕ) → Fails p → ends s ≡ true → p (get_or s 0 0) ≡ false
  end_fails s f e = break_fails (get_or s 0 0) f e

  -- the place past bytes that all pass the test, where the next fails it
  pub span_list : (ls s : List ℕ) (k : ℕ) → every p ls ≡ true → p (get_or s 0 0) ≡ false → span_end p (ls ++ s) k ≡ k + length ls
  unfolding span_end
  span_list [] [] k h e = omega arith
  span_list [] (b ∷ s) k h e = rw (e, span_end) (omega arith)
  span_list (b ∷ ls) s k h e =
      let f = every_first p b ls h in
      rw (f.0, span_end) (span_list ls s (k + 1) f.1 e ∙ omega arith)

-- a span of bytes that pass a test which fails at every end
pub span_here : (p : ℕ → Bool) (text : List ℕ) (k : ℕ) (ls s : List ℕ) → Fails p → every p ls ≡ true → ends s ≡ true → drop k text ≡ ls ++ s → span_end p (drop k text) k ≡ k + length ls
span_here p text k ls s f h e d = rw d (span_list p ls s k h (end_fails p s f e))

-- what ends a word is no letter
pub letter_fails : Fails is_letter
unfolding class_of class_from
letter_fails = refl

-- the word that a letter begins
pub word_long : (text : List ℕ) (k b n : ℕ) → is_letter b ≡ true → span_end is_letter (drop k text) k ≡ k + n → long_of text k b ≡ took (plain word k 0 k n) (k + n)
unfolding long_of word_of
word_long text k b n f e = let d : k + n - k ≡ n = omega arith in rw (f, e, d)
