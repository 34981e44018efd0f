-- What the tables say of references is what the notes say; and how the walk over the members of a set goes.
use Rattle.std.specs.Prelude.{Some, None}
use mathlib.Core.Path.{◌≡◌, refl, sym, ap, ◌∙◌}
use mathlib.Core.Bool.{Bool, true, false, not, ◌&&◌}
use mathlib.Core.List.{List, [], ◌∷◌, ◌++◌}
use Prim.Native.Nat.{ℕ, zero, suc, ◌+◌, ◌-◌, ◌*◌, ◌<◌, ◌≤◌}
use native.Mathlib.Omega.{arith}
use lib.Dec.{leb, ltb}
use lib.ListN.{length, drop, get_or}
use borrow.Author.Tests.{leb-true, ltb-true}
use Rattle.ground.specs.Lists.{joined, every}
use Rattle.ground.specs.Regions.{zeros, pad}
use Rattle.ground.proofs.Bools.{bool_cases, every_first}
use Rattle.brackets.specs.Parts.{members_at, members_from}
use Rattle.brackets.specs.Walks.{tour_at, tour_step, members_left, members_on}
use Rattle.brackets.specs.declared.Ref.{Ref}
use Rattle.brackets.specs.declared.Tour.{Tour}
use Rattle.brackets.proofs.Steps.{tour_starts, tour_goes}
use Rattle.netlist.specs.Rules.{refers, is_member}
use Rattle.saying.specs.Values.{row_of}
use Rattle.saying.specs.Notes.{MetaNote, meta_note, Maps}
use Rattle.asking.specs.References.{allowed, kinds_said, misnamed, first_misnamed, refers_in, misnamed_in}
use Rattle.asking.specs.declared.Asks.{Asks}
use Rattle.asking.specs.declared.Asks.TheVariants.{Member}
use Rattle.asking.proofs.TokenLaws.{members_small}
use Rattle.asking.proofs.RowLaws.{behind_note, row_first}

-- THE KINDS of the noted rows
meta_note_wide : (n : MetaNote) → length (meta_note n) ≡ 16
unfolding meta_note
meta_note_wide n = refl

kinds_length : (ns : List MetaNote) → length (kinds_said ns) ≡ length ns
kinds_length [] = refl
kinds_length (n ∷ ns) = ap suc (kinds_length ns)

-- a row begins with its kind
kind_first : (ns : List MetaNote) (rest : List ℕ) (i : ℕ) → i < length ns → get_or (drop (i * 16) (joined meta_note ns ++ rest)) 0 0 ≡ get_or (kinds_said ns) i 0
unfolding joined meta_note
kind_first [] rest i h = absurd (omega arith)
kind_first (n ∷ ns) rest zero h = refl
kind_first (n ∷ ns) rest (suc i) h = rw (behind_note meta_note 16 meta_note_wide n ns rest i) (kind_first ns rest i (omega arith))

kind_at : (metas : List ℕ) (ns : List MetaNote) → metas ≡ pad 8192 (joined meta_note ns) → (i : ℕ) → i < length ns → get_or metas (i * 16) 0 ≡ get_or (kinds_said ns) i 0
unfolding pad
kind_at metas ns e i h = sym (row_first (i * 16) metas) ∙ rw e (kind_first ns (zeros (8192 - length (joined meta_note ns))) i h)

-- A REFERENCE
pub refers_said : (asks : Asks) (metas : List ℕ) (n row : ℕ) (ns : List MetaNote) → metas ≡ pad 8192 (joined meta_note ns) → n ≡ length ns → refers_in asks metas n row ≡ refers (allowed asks) (kinds_said ns) row
refers_said asks metas n row ns e l = rw (kinds_length ns, l) (bool_cases (leb 1 row)
    (λ p. rw p (bool_cases (leb row (length ns))
    (λ q. rw q (let a = leb-true 1 row p in let b = leb-true row (length ns) q in ap (allowed asks) (kind_at metas ns e (row - 1) (omega arith))))
    (λ q. rw q)))
    (λ p. rw p))

pub misnamed_said : (asks : Asks) (rows metas : List ℕ) (n : ℕ) (r : Ref) (ns : List MetaNote) (numbers : List ℕ) → metas ≡ pad 8192 (joined meta_note ns) → n ≡ length ns → Maps numbers rows → r.index < 65536
    → misnamed_in asks rows metas n r ≡ misnamed (allowed asks) (kinds_said ns) numbers r
unfolding misnamed_in
misnamed_said asks rows metas n r ns numbers e l m h = rw (m.is r.index h) (ap (λ b. r.given && not b) (refers_said asks metas n (row_of numbers r.index) ns e l))

-- THE WALK over the members of a set
module _ (wrong : Ref → Bool) (text : List ℕ) (w : Tour) where
  module _ (m : Ref) (next : Tour) (e : tour_step text w ≡ Some (m, next)) where
    member_next : members_left text w ≡ m ∷ members_left text next
    member_next = tour_goes text w ∙ ap (members_on text) e

    pub member_wrong : wrong m ≡ true → Some m.place ≡ first_misnamed wrong (members_left text w)
    unfolding first_misnamed
    member_wrong h = rw member_next (rw (h, first_misnamed))

    pub member_right : wrong m ≡ false → first_misnamed wrong (members_left text next) ≡ first_misnamed wrong (members_left text w)
    unfolding first_misnamed
    member_right h = rw member_next (rw (h, first_misnamed))

  pub members_done : tour_step text w ≡ None → None ≡ first_misnamed wrong (members_left text w)
  unfolding first_misnamed
  members_done e = rw (tour_goes text w ∙ ap (members_on text) e)

-- two tests that agree on the members find the same
pub firsts_agree : (p q : Ref → Bool) → ((r : Ref) → r.index < 65536 → p r ≡ q r) → (rs : List Ref) → every (λ r. ltb r.index 65536) rs ≡ true → first_misnamed p rs ≡ first_misnamed q rs
unfolding first_misnamed
firsts_agree p q same [] h = refl
firsts_agree p q same (r ∷ rs) h =
    let f = every_first (λ (r : Ref). ltb r.index 65536) r rs h in
    let e = same r (ltb-true r.index 65536 f.0) in
    bool_cases (q r) (λ b. rw (e ∙ b, first_misnamed) (rw (b, first_misnamed)))
    (λ b. rw (e ∙ b, first_misnamed) (rw (b, first_misnamed) (firsts_agree p q same rs f.1)))

-- from the first member on
pub walk_starts : (text : List ℕ) (k : ℕ) (w : Tour) → w ≡ tour_at text k → (wrong : Ref → Bool) → first_misnamed wrong (members_left text w) ≡ first_misnamed wrong (members_at text k)
walk_starts text k w e wrong = ap (λ (w : Tour). first_misnamed wrong (members_left text w)) e ∙ ap (first_misnamed wrong) (tour_starts text k)

-- with what the notes say
pub walk_said : (text : List ℕ) (k : ℕ) (rows metas : List ℕ) (n : ℕ) (ns : List MetaNote) (numbers : List ℕ) → metas ≡ pad 8192 (joined meta_note ns) → n ≡ length ns → Maps numbers rows
    → first_misnamed (misnamed_in Member rows metas n) (members_at text k) ≡ first_misnamed (misnamed is_member (kinds_said ns) numbers) (members_at text k)
walk_said text k rows metas n ns numbers m l t =
    firsts_agree (misnamed_in Member rows metas n) (misnamed is_member (kinds_said ns) numbers) (λ r h. misnamed_said Member rows metas n r ns numbers m l t h) (members_at text k) (members_small (suc (length text)) text k)
