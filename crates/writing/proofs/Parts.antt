-- Parts of a pool, written element after element.
use Prim.Native.Nat.{ℕ, suc, ◌+◌, ◌-◌, ◌<◌, ◌≤◌, min, ◌/◌, ◌%◌}
use mathlib.Core.Path.{◌≡◌, refl, sym, ap, ◌∙◌}
use mathlib.Core.Bool.{Bool, true, false}
use mathlib.Core.List.{List, [], ◌∷◌, ◌++◌}
use native.Mathlib.Omega.{arith}
use native.Mathlib.Numerals.{add-one}
use lib.ListN.{length, take, drop, get_or, length-drop}
use lib.Dec.{ltb}
use lib.Seq.{drop-cons, take_all}
use borrow.Author.Tests.{ltb-true, ltb-false}
use Rattle.ground.specs.Lists.{every}
use Rattle.ground.specs.Regions.{part}
use Rattle.netlist.specs.Rules.{is_trit}
use Rattle.ground.proofs.Bools.{bool_cases, every_at}
use Rattle.ground.proofs.Rest.{rest_cons, rest_end}
use Rattle.writing.specs.Parts.{up_to}
use Rattle.writing.specs.Words.{raw_byte, hex_digit, escaped, trit_char, trits, reference, references, more_references}
use Rattle.writing.specs.Stands.{Wrote, Leaves}
use Rattle.writing.proofs.Stands.{step, last, same_rest, ended, start}

pub up_start : {A : Type 0} (i size e : ℕ) (s : List A) → e ≡ min (i + size) (length s) → part i size s ≡ up_to i e s
unfolding part up_to
up_start i size e s h = bool_cases (ltb (i + size) (length s))
    (λ l. let m = ltb-true (i + size) (length s) l in let f : e - i ≡ size = omega (arith, m) in rw f)
    (λ l.
    let m = ltb-false (i + size) (length s) l in
    let a : length (drop i s) ≤ size = rw length-drop (omega (arith, m)) in
    let b : length (drop i s) ≤ e - i = rw length-drop (omega (arith, m)) in
    take_all size (drop i s) a ∙ sym (take_all (e - i) (drop i s) b))

pub up_cons : {A : Type 0} (i e : ℕ) (s : List A) (d : A) → i < e → e ≤ length s → up_to i e s ≡ get_or s i d ∷ up_to (i + 1) e s
unfolding up_to
up_cons i e s d h l =
    let m : i < length s = omega arith in
    let f : e - i ≡ suc (e - (i + 1)) = omega arith in
    rw (drop-cons s i d m, f, add-one)

pub up_none : {A : Type 0} (i e : ℕ) (s : List A) → e ≤ i → up_to i e s ≡ []
unfolding up_to
up_none i e s h = let f : e - i ≡ 0 = omega arith in rw f

-- a string, byte by byte
escaped_more : (b : ℕ) (bs k : List ℕ) → escaped (b ∷ bs) k ≡ escaped (b ∷ []) (escaped bs k)
unfolding escaped
escaped_more b bs k = bool_cases (raw_byte b) (λ e. rw (e, escaped)) (λ e. rw (e, escaped))

pub escaped_raw : (b : ℕ) → raw_byte b ≡ true → (k : List ℕ) → b ∷ k ≡ escaped (b ∷ []) k
unfolding escaped
escaped_raw b e k = rw (e, escaped)

pub escaped_hex : (b : ℕ) → raw_byte b ≡ false → (k : List ℕ) → 92 ∷ hex_digit (b / 16) ∷ hex_digit (b % 16) ∷ k ≡ escaped (b ∷ []) k
unfolding escaped
escaped_hex b e k = rw (e, escaped)

module _ {l l' : List ℕ} {n n' : ℕ} {f : List ℕ → List ℕ} (i e : ℕ) (s : List ℕ) where
  pub bytes_turn : {l'' : List ℕ} {n'' : ℕ} → Leaves l n f l' n' (escaped (up_to i e s)) → i < e → e ≤ length s → Wrote l' n' (escaped (get_or s i 0 ∷ [])) l'' n'' → Leaves l n f l'' n'' (escaped (up_to (i + 1) e s))
  bytes_turn w h m p = step (escaped (up_to (i + 1) e s)) (same_rest w (λ k. rw (up_cons i e s 0 h m) (escaped_more _ _ k))) p

  pub bytes_end : Leaves l n f l' n' (escaped (up_to i e s)) → e ≤ i → Wrote l n f l' n'
  unfolding escaped
  bytes_end w h = ended w (λ k. rw (up_none i e s h))

  -- a constant, trit by trit
  pub trits_turn : {l'' : List ℕ} {n'' : ℕ} → Leaves l n f l' n' (trits (up_to i e s)) → i < e → e ≤ length s → Wrote l' n' (λ k. trit_char (get_or s i 0) ∷ k) l'' n'' → Leaves l n f l'' n'' (trits (up_to (i + 1) e s))
  unfolding trits
  trits_turn w h m p = step (trits (up_to (i + 1) e s)) (same_rest w (λ k. rw (up_cons i e s 0 h m))) p

  pub trits_end : Leaves l n f l' n' (trits (up_to i e s)) → e ≤ i → Wrote l n f l' n'
  unfolding trits
  trits_end w h = ended w (λ k. rw (up_none i e s h))

pub trit_small : (s : List ℕ) → every is_trit s ≡ true → (i : ℕ) → i < length s → get_or s i 0 < 3
trit_small s h i l = ltb-true (get_or s i 0) 3 (every_at is_trit s 0 h i l)

-- the members of a set, one after the other
pub references_more : (r : ℕ) (rs k : List ℕ) → references (r ∷ rs) k ≡ reference r (more_references rs k)
unfolding references more_references
references_more r [] k = refl
references_more r (q ∷ rs) k = ap (λ (t : List ℕ). reference r (32 ∷ t)) (references_more q rs k)

module _ {l l' : List ℕ} {n n' : ℕ} {f : List ℕ → List ℕ} (i e : ℕ) (s : List ℕ) where
  pub members_turn : {l'' : List ℕ} {n'' : ℕ} → Leaves l n f l' n' (more_references (up_to i e s)) → i < e → e ≤ length s → Wrote l' n' (λ k. 32 ∷ reference (get_or s i 0) k) l'' n'' → Leaves l n f l'' n'' (more_references (up_to (i + 1) e s))
  unfolding more_references
  members_turn w h m p = step (more_references (up_to (i + 1) e s)) (same_rest w (λ k. rw (up_cons i e s 0 h m))) p

  pub members_end : Leaves l n f l' n' (more_references (up_to i e s)) → e ≤ i → Wrote l n f l' n'
  unfolding more_references
  members_end w h = ended w (λ k. rw (up_none i e s h))

-- .. a part of the pool of members: some, or none
module _ (i size e : ℕ) (s : List ℕ) (h : e ≡ min (i + size) (length s)) where
  pub members_some : i < e → (k : List ℕ) → reference (get_or s i 0) (more_references (up_to (i + 1) e s) k) ≡ references (part i size s) k
  members_some l k =
      let m : e ≤ length s = omega arith in
      rw (up_start i size e s h, up_cons i e s 0 l m) (sym (references_more (get_or s i 0) (up_to (i + 1) e s) k))

  pub members_none : e ≤ i → (k : List ℕ) → k ≡ references (part i size s) k
  unfolding references
  members_none l k = rw (up_start i size e s h, up_none i e s l)
