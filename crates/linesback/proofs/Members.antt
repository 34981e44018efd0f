-- The members of a printed set, read again: their form, and the rows that they name.
use Rattle.lexis.specs.Took.{Took}
use Rattle.std.specs.Prelude.{Ok}
use Prim.Native.Nat.{ℕ, zero, suc, ◌+◌, ◌-◌, ◌≤◌, ◌<◌}
use mathlib.Core.Path.{◌≡◌, refl, ap, ap₂}
use mathlib.Core.Bool.{true}
use mathlib.Core.List.{List, [], ◌∷◌, map}
use mathlib.Core.Option.{none}
use native.Mathlib.Omega.{arith}
use lib.Dec.{eqb}
use lib.ListN.{drop, length, length-append, length-drop}
use Rattle.ground.specs.Lists.{every}
use Rattle.ground.specs.Refusals.{at}
use Rattle.ground.proofs.Bools.{every_first, or_right}
use Rattle.signs.specs.Bytes.{class_of, class_from}
use Rattle.lexis.specs.Tokens.{inside_at, took, plain, mark, meta}
use Rattle.brackets.specs.Parts.{ref, next_member, set_from, members_from}
use Rattle.brackets.specs.declared.Ref.{Ref}
use Rattle.netlist.specs.Rules.{refers, may_refer, is_member}
use Rattle.saying.specs.Values.{ref_row}
use Rattle.saying.specs.Rules.{Sofar, first_misnamed}
use Rattle.writing.specs.Words as words
use Rattle.writing.proofs.Parts.{references_more}
use Rattle.fronts.specs.Fronts.{Rowed}
use Rattle.tokensback.proofs.Standing.{Stands, Takes, ends}
use Rattle.tokensback.proofs.Tokens.{behind_space, spaced, mark_back, meta_back}
use Rattle.linesback.proofs.Links.{RefTo, written_to, row_small, ref_says}

-- the members rs from the place k on, up to `}`
pub record Members (text : List ℕ) (k : ℕ) (kinds rs s : List ℕ) : Type 0 where
  pub refs : List Ref
  pub end : ℕ
  pub closed : (fuel n : ℕ) → length rs < fuel → set_from fuel text n k ≡ Ok (n + length rs, record { next = at end })
  pub members : (fuel : ℕ) → length rs < fuel → members_from fuel text k ≡ refs
  pub rows : (so : Sofar) → Rowed so kinds → map (ref_row so.meta_numbers) refs ≡ rs
  pub named : (so : Sofar) → Rowed so kinds → first_misnamed so (map (λ (r : Ref). record { ref = r; allowed = is_member }) refs) ≡ none
  pub rest : drop end text ≡ s

-- `}` ends them
module _ (text : List ℕ) (k j e : ℕ) (h : inside_at text k ≡ took (plain mark j 125 0 0) e) where
  set_ends : (n f : ℕ) → 0 < f → set_from f text n k ≡ Ok (n, record { next = at e })
  unfolding set_from next_member
  set_ends n zero l = absurd (omega arith)
  set_ends n (suc f) l = rw (h, set_from)

  members_end : (f : ℕ) → 0 < f → members_from f text k ≡ []
  unfolding members_from next_member
  members_end zero l = absurd (omega arith)
  members_end (suc f) l = rw (h, members_from)

none_left : {text : List ℕ} {k : ℕ} {kinds s : List ℕ} → drop k text ≡ 125 ∷ s → Members text k kinds [] s
unfolding first_misnamed class_of class_from
none_left {text} {k} h =
    let c = mark_back text k 125 refl h in
    record {
      refs = [];
      end = c.end;
      closed = λ f n l. let z : n + 0 ≡ n = omega arith in rw z (set_ends text k k c.end c.inside n f l);
      members = λ f l. members_end text k k c.end c.inside f l;
      rows = λ so w. refl;
      named = λ so w. refl;
      rest = c.after.rest;
    }

-- a reference goes before them
module _ (text : List ℕ) (k j v e l : ℕ) (h : inside_at text k ≡ took (plain meta j v 0 0) e) where
  set_goes : (n : ℕ) (c : Took ℕ) → ((f : ℕ) → l < f → set_from f text (n + 1) e ≡ c) → (f : ℕ) → suc l < f → set_from f text n k ≡ c
  unfolding set_from next_member
  set_goes n c q zero m = absurd (omega arith)
  set_goes n c q (suc f) m = rw (h, set_from) (q f (omega arith))

  members_go : (rs : List Ref) → ((f : ℕ) → l < f → members_from f text e ≡ rs) → (f : ℕ) → suc l < f → members_from f text k ≡ ref (plain meta j v 0 0) ∷ rs
  unfolding members_from next_member
  members_go rs q zero m = absurd (omega arith)
  members_go rs q (suc f) m = rw (h, members_from) (ap (λ (l : List Ref). ref (plain meta j v 0 0) ∷ l) (q f (omega arith)))

one_more : {text : List ℕ} {k j r : ℕ} {kinds rs s s' : List ℕ} → refers is_member kinds r ≡ true → (t : Takes text k (plain meta j (r - 1) 0 0) s') → Members text t.end kinds rs s
    → Members text k kinds (r ∷ rs) s
unfolding first_misnamed
one_more {text} {k} {j} {r} {kinds} {rs} h t m =
    let f = ref (plain meta j (r - 1) 0 0) in
    let g : may_refer is_member kinds r ≡ true = or_right (eqb r 0) _ h in
    let to : RefTo r f = written_to f is_member kinds r h refl refl in
    record {
      refs = f ∷ m.refs;
      end = m.end;
      closed = λ fuel n l. let z : n + suc (length rs) ≡ n + 1 + length rs = omega arith in
          rw z (set_goes text k j (r - 1) t.end (length rs) t.inside n _ (λ f i. m.closed f (n + 1) i) fuel l);
      members = λ fuel l. members_go text k j (r - 1) t.end (length rs) t.inside m.refs m.members fuel l;
      rows = λ so w. ap₂ (λ (a : ℕ) (l : List ℕ). a ∷ l) (ref_says is_member r w g to).0 (m.rows so w);
      named = λ so w. rw ((ref_says is_member r w g to).1, first_misnamed) (m.named so w);
      rest = m.rest;
    }

-- a number may end before what follows it
more_end : (rs s : List ℕ) → ends (words.more_references rs (125 ∷ s)) ≡ true
unfolding words.more_references
more_end [] s = refl
more_end (r ∷ rs) s = refl

module _ (text kinds : List ℕ) (small : length kinds ≤ 65535) where
  index_small : (r : ℕ) → refers is_member kinds r ≡ true → r - 1 ≤ 65535
  index_small r h = row_small is_member kinds r (or_right (eqb r 0) _ h) small

  -- further members, each behind a space
  more_back : (rs : List ℕ) {k : ℕ} {s : List ℕ} → every (refers is_member kinds) rs ≡ true → drop k text ≡ words.more_references rs (125 ∷ s) → Members text k kinds rs s
  unfolding words.more_references words.reference
  more_back [] p h = none_left h
  more_back (r ∷ rs) {k} {s} p h =
      let q = every_first (refers is_member kinds) r rs p in
      let t = spaced text k h (meta_back text (k + 1) (r - 1) (index_small r q.0) (more_end rs s) (behind_space text k h)) in
      one_more q.0 t (more_back rs q.1 t.rest)

  -- THE MEMBERS, the first at once and every further one behind a space
  pub members_back : (rs : List ℕ) {k : ℕ} {s : List ℕ} → every (refers is_member kinds) rs ≡ true → Stands text k (words.references rs (125 ∷ s)) → Members text k kinds rs s
  unfolding words.references words.reference
  members_back [] p h = none_left h.rest
  members_back (r ∷ rs) {k} {s} p h =
      let q = every_first (refers is_member kinds) r rs p in
      let t = meta_back text k (r - 1) (index_small r q.0) (more_end rs s) (rw references_more at h) in
      one_more q.0 t (more_back rs q.1 t.rest)

number_long : (n : ℕ) (s : List ℕ) → length s ≤ length (words.number n s)
unfolding words.number
number_long n s = rw length-append (omega arith)

references_long : (rs s : List ℕ) → length rs ≤ length (words.references rs s)
unfolding words.references words.reference
references_long [] s = omega arith
references_long (r ∷ []) s = omega arith
references_long (r ∷ q ∷ rs) s = let l = number_long (r - 1) (32 ∷ words.references (q ∷ rs) s) in let m = references_long (q ∷ rs) s in omega arith

-- they are no more than the bytes of the text
pub members_few : (text : List ℕ) (k : ℕ) (rs s : List ℕ) → drop k text ≡ words.references rs s → length rs ≤ length text
members_few text k rs s h = let l = references_long rs s in let e = length-drop k text in let d = ap length h in omega arith
