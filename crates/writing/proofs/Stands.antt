-- Writes one after the other.
use Prim.Native.Nat.{ℕ, suc, ◌+◌, ◌<◌, ◌≤◌, min}
use mathlib.Core.Path.{◌≡◌, refl, sym, ap, ap₂, ◌∙◌}
use mathlib.Core.List.{List, [], ◌∷◌, ◌++◌}
use native.Mathlib.Omega.{arith}
use native.Mathlib.Numerals.{add-one}
use lib.ListN.{length, set, drop, get_or}
use lib.Seq.{sets, set_out}
use Rattle.ground.specs.Regions.{over}
use Rattle.ground.proofs.Lent.{sets_front}
use Rattle.ground.proofs.Rest.{rest_cons, rest_end}
use Rattle.writing.specs.Stands.{Stand, most, onward, Wrote, Leaves}

abbrev stand : List ℕ → ℕ → Stand
stand room n = record { room = room; count = n }

-- nothing is written past the end
pub sets_out : (l : List ℕ) (n : ℕ) (xs : List ℕ) → length l ≤ n → sets l n xs ≡ l
sets_out l n [] h = refl
sets_out l n (x ∷ xs) h = rw (set_out l n x h) (sets_out l (suc n) xs (omega arith))

-- one byte: in the room, past its end, and where no more can be counted
pub put_in : (l : List ℕ) (n b : ℕ) → Wrote l n (λ k. b ∷ k) (set l n b) (n + 1)
unfolding onward
put_in l n b = record {
  goes = λ k.
      let e : n + 1 + length k ≡ n + suc (length k) = omega arith in
      rw (e, add-one);
}

pub put_past : (l : List ℕ) (n b : ℕ) → length l ≤ n → Wrote l n (λ k. b ∷ k) l (n + 1)
put_past l n b h = rw (set_out l n b h) at (put_in l n b)

pub put_most : (l : List ℕ) (n b : ℕ) → length l ≤ n → n ≡ most → Wrote l n (λ k. b ∷ k) l n
unfolding onward
put_most l n b h e = record {
  goes = λ k.
      let c : min (n + length k) most ≡ min (n + suc (length k)) most = omega arith in
      ap₂ stand (sets_out l n k h ∙ sym (sets_out l n (b ∷ k) h)) c;
}

-- one writer after the other
pub then : {l l' l'' : List ℕ} {n n' n'' : ℕ} {f g : List ℕ → List ℕ} → Wrote l n f l' n' → Wrote l' n' g l'' n'' → Wrote l n (λ k. f (g k)) l'' n''
then {g} p q = record { goes = λ k. q.goes k ∙ p.goes (g k) }

-- a turn of a loop
pub step : {l l' l'' : List ℕ} {n n' n'' : ℕ} {f h : List ℕ → List ℕ} (g : List ℕ → List ℕ) → Leaves l n f l' n' (λ k. h (g k)) → Wrote l' n' h l'' n'' → Leaves l n f l'' n'' g
step g p q = record { goes = λ k. q.goes (g k) ∙ p.goes k }

module _ {l l' : List ℕ} {n n' : ℕ} {f : List ℕ → List ℕ} where
  -- the same text, told in another way
  pub same_text : {g : List ℕ → List ℕ} → Wrote l n f l' n' → ((k : List ℕ) → f k ≡ g k) → Wrote l n g l' n'
  same_text p e = record { goes = λ k. p.goes k ∙ ap (onward l n) (e k) }

  pub same_rest : {g h : List ℕ → List ℕ} → Leaves l n f l' n' g → ((k : List ℕ) → g k ≡ h k) → Leaves l n f l' n' h
  same_rest p e = record { goes = λ k. ap (onward l' n') (sym (e k)) ∙ p.goes k }

  -- nothing is left
  pub ended : {g : List ℕ → List ℕ} → Leaves l n f l' n' g → ((k : List ℕ) → g k ≡ k) → Wrote l n f l' n'
  ended p e = record { goes = λ k. ap (onward l' n') (sym (e k)) ∙ p.goes k }

-- what is left is written by one writer
pub last : {l l' l'' : List ℕ} {n n' n'' : ℕ} {f g : List ℕ → List ℕ} → Leaves l n f l' n' g → Wrote l' n' g l'' n'' → Wrote l n f l'' n''
last p q = record { goes = λ k. q.goes k ∙ p.goes k }

pub start : (l : List ℕ) (n : ℕ) (f : List ℕ → List ℕ) → Leaves l n f l n f
start l n f = record { goes = λ k. refl }

pub nothing : (l : List ℕ) (n : ℕ) → Wrote l n (λ k. k) l n
nothing l n = record { goes = λ k. refl }

-- bytes that stand in a list, one after the other
module _ {l l' : List ℕ} {n n' : ℕ} {f : List ℕ → List ℕ} (s : List ℕ) (i : ℕ) (w : Leaves l n f l' n' (λ k. drop i s ++ k)) where
  pub word_turn : {l'' : List ℕ} {n'' : ℕ} → i < length s → Wrote l' n' (λ k. get_or s i 0 ∷ k) l'' n'' → Leaves l n f l'' n'' (λ k. drop (i + 1) s ++ k)
  word_turn h p = step (λ k. drop (i + 1) s ++ k) (rw (rest_cons s i h) at w) p

  pub word_end : length s ≤ i → Wrote l n f l' n'
  word_end h = ended w (λ k. rw (rest_end s i h))

-- a whole text written from the start of a room: its length is counted, up to the largest count, and it stands in the room if it fits
module _ {l l' : List ℕ} {r : ℕ} {f : List ℕ → List ℕ} (p : Wrote l 0 f l' r) where
  pub counted : r ≤ most → r ≡ min (length (f [])) most
  unfolding onward
  counted h =
      let e : min (r + 0) most ≡ min (0 + length (f [])) most = ap (λ (x : Stand). x.count) (p.goes []) in
      omega (arith, e)

  pub standing : length (f []) ≤ length l → l' ≡ over (length (f [])) (f []) l
  unfolding onward
  standing h = ap (λ (x : Stand). x.room) (p.goes []) ∙ sets_front l (f []) h
