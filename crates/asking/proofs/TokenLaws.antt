-- The indices of a set's members are those of the text, at most 65,535.
use Rattle.lexis.specs.declared.Token.{Token}
use Rattle.lexis.specs.Took.{Took}
use Rattle.std.specs.Prelude.{Ok, Err}
use mathlib.Core.Path.{◌≡◌, refl, subst}
use mathlib.Core.Bool.{true, ◌||◌}
use mathlib.Core.List.{List}
use Prim.Native.Nat.{ℕ, zero, suc, ◌<◌}
use lib.Dec.{ltb}
use borrow.Author.Tests.{lt-ltb}
use Rattle.ground.specs.Lists.{every}
use Rattle.ground.proofs.Bools.{bool_cases, every_more, or_left}
use Rattle.lexis.specs.Tokens.{inside_at, cell, io, meta}
use Rattle.brackets.specs.Words.{is_sort}
use Rattle.brackets.specs.Parts.{membered_of, next_member, members_from}
use Rattle.brackets.specs.declared.Ref.{Ref}
use Rattle.brackets.specs.declared.Membered.{Membered}
use Rattle.brackets.specs.declared.Membered.TheVariants as membered
use Rattle.saying.proofs.Tokens.{SoundStep, inside_sound}

abbrev SmallMember : Took Membered → Type 0
SmallMember (Err g) = ◌≡◌ {A = ℕ} 0 0
SmallMember (Ok (membered.Took m, r)) = m.index < 65536
SmallMember (Ok (membered.Other t, r)) = ◌≡◌ {A = ℕ} 0 0

membered_small : (text : List ℕ) (s : Took Token) → SoundStep text s → SmallMember (membered_of s)
membered_small text (Err g) h = refl
membered_small text (Ok (t, r)) h = bool_cases (is_sort meta t) (λ e. rw e (h.index (or_left (is_sort meta t) (is_sort io t || is_sort cell t) e))) (λ e. rw e refl)

next_small : (text : List ℕ) (k : ℕ) → SmallMember (next_member text k)
unfolding next_member
next_small text k = membered_small text (inside_at text k) (inside_sound text k)

pub members_small : (f : ℕ) (text : List ℕ) (k : ℕ) → every (λ r. ltb r.index 65536) (members_from f text k) ≡ true
unfolding members_from every
members_small zero text k = refl
members_small (suc f) text k = go (next_member text k) refl (members_small f text)
  where
    go : (v : Took Membered) → next_member text k ≡ v → ((j : ℕ) → every (λ r. ltb r.index 65536) (members_from f text j) ≡ true) → every (λ r. ltb r.index 65536) (members_from (suc f) text k) ≡ true
    go (Err g) e more = rw (e, members_from)
    go (Ok (membered.Took m, r)) e more = rw (e, members_from) (every_more (λ (r : Ref). ltb r.index 65536) m (members_from f text r.next.at) (lt-ltb m.index 65536 (subst SmallMember e (next_small text k))) (more r.next.at))
    go (Ok (membered.Other t, r)) e more = rw (e, members_from)
