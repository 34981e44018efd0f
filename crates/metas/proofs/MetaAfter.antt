-- A declaration of metadata: how rules 9 to 13 come out, and what stands in the tables when it is noted.
use Rattle.std.specs.Prelude.{Ok, Err, Option, Some, None}
use mathlib.Core.Path.{◌≡◌, refl, sym, ap, subst, ◌∙◌}
use mathlib.Core.Bool.{Bool, true, false, not}
use mathlib.Core.List.{List, [], ◌∷◌, ◌++◌, map}
use mathlib.Core.Option.{Option as Found, none, some}
use Prim.Native.Nat.{ℕ, zero, suc, ◌+◌, ◌*◌, ◌<◌, ◌≤◌}
use native.Mathlib.Omega.{arith}
use lib.Dec.{leb}
use lib.ListN.{length, set, length-set}
use lib.Seq.{sets, length-sets}
use borrow.Author.Tests.{leb-true, leb-false, le-leb, lt-leb}
use Rattle.ground.specs.Choice.{pick}
use Rattle.ground.specs.Refusals.{refusal}
use Rattle.ground.specs.Regions.{part}
use Rattle.ground.proofs.Bools.{bool_cases, never_both, and_true}
use Rattle.ground.proofs.Regions.{part_length}
use Rattle.ground.specs.declared.Place.{Place}
use Rattle.ground.specs.declared.Refusal.{Refusal}
use Rattle.ground.proofs.Counts.{length_mapped}
use Rattle.brackets.specs.Parts.{members_at}
use Rattle.brackets.specs.declared.Ref.{Ref}
use Rattle.form.specs.declared.Label.TheVariants as label
use Rattle.form.specs.declared.Payload.TheVariants as payload
use Rattle.form.specs.declared.Decl.{Decl}
use Rattle.form.specs.declared.Decl.TheVariants as decl
use Rattle.form.specs.declared.Declared.{Declared}
use Rattle.kinds.specs.Kinds.{wide}
use Rattle.netlist.specs.Netlist.{Meta, Netlist, is_scope}
use Rattle.netlist.specs.Rules.{is_member, is_source, complete, attr_width, roomy}
use Rattle.saying.specs.Values.{ref_row, row_of, trits_in}
use Rattle.saying.specs.Rules.{Sofar, metadata, said_by, added, declares, asked_of, misnamed, first_misnamed, ruled, ruled_on, ruled_out}
use Rattle.asking.specs.References as references
use Rattle.noting.specs.Rulings.{ruling_of}
use Rattle.metas.specs.MetaRows.{is_metadata, meta_said, meta_limits, members_said, payload_trits, trits_said, misnaming_for, place_of}
use Rattle.noting.proofs.Passing.{never_passed, passes, not_false}

-- WHAT IS SAID
pub meta_said_lem : (text : List ℕ) (so : Sofar) (d : Decl) → is_metadata d ≡ true → said_by text so d ≡ metadata (meta_said text so.meta_numbers d)
unfolding said_by
meta_said_lem text so (decl.Set m) e = refl
meta_said_lem text so (decl.Source f r) e = refl
meta_said_lem text so (decl.Scope l i s) e = refl
meta_said_lem text so (decl.Ident n i) e = refl
meta_said_lem text so (decl.Attr n p) e = refl
meta_said_lem text so (decl.Io n w) e = never_both e refl
meta_said_lem text so (decl.Cell w) e = never_both e refl

pub members_same : (text ns : List ℕ) (d : Decl) → (meta_said text ns d).members ≡ members_said text ns d
members_same text ns (decl.Set m) = refl
members_same text ns (decl.Source f r) = refl
members_same text ns (decl.Scope (label.Named s) i r) = refl
members_same text ns (decl.Scope (label.Indexed n) i r) = refl
members_same text ns (decl.Ident n i) = refl
members_same text ns (decl.Attr n (payload.Bits s)) = refl
members_same text ns (decl.Attr n (payload.Integer i)) = refl
members_same text ns (decl.Attr n (payload.Text s)) = refl
members_same text ns (decl.Io n w) = refl
members_same text ns (decl.Cell w) = refl

pub trits_same : (text ns : List ℕ) (d : Decl) → (meta_said text ns d).bits ≡ trits_said text d
trits_same text ns (decl.Set m) = refl
trits_same text ns (decl.Source f r) = refl
trits_same text ns (decl.Scope (label.Named s) i r) = refl
trits_same text ns (decl.Scope (label.Indexed n) i r) = refl
trits_same text ns (decl.Ident n i) = refl
trits_same text ns (decl.Attr n (payload.Bits s)) = refl
trits_same text ns (decl.Attr n (payload.Integer i)) = refl
trits_same text ns (decl.Attr n (payload.Text s)) = refl
trits_same text ns (decl.Io n w) = refl
trits_same text ns (decl.Cell w) = refl

pub members_long : (text ns ms : List ℕ) (d : Decl) → length (members_said text ns d) ≡ length (members_said text ms d)
members_long text ns ms (decl.Set m) = length_mapped (ref_row ns) (members_at text m.at) ∙ sym (length_mapped (ref_row ms) (members_at text m.at))
members_long text ns ms (decl.Source f r) = refl
members_long text ns ms (decl.Scope l i s) = refl
members_long text ns ms (decl.Ident n i) = refl
members_long text ns ms (decl.Attr n p) = refl
members_long text ns ms (decl.Io n w) = refl
members_long text ns ms (decl.Cell w) = refl

-- RULE 10
firsts : (so : Sofar) (rs : List Ref)
    → first_misnamed so (map (λ (r : Ref). record { ref = r; allowed = is_member }) rs) ≡ place_of (references.first_misnamed (references.misnamed is_member (map (λ (m : Meta). m.kind) so.netlist.metas) so.meta_numbers) rs)
unfolding first_misnamed references.first_misnamed
firsts so [] = refl
firsts so (r ∷ rs) = bool_cases (references.misnamed is_member (map (λ (m : Meta). m.kind) so.netlist.metas) so.meta_numbers r)
    (λ b. rw (b, first_misnamed) (rw (b, references.first_misnamed)))
    (λ b. rw (b, first_misnamed) (rw (b, references.first_misnamed) (firsts so rs)))

-- RULES 9 TO 13
abbrev pub judged : Found Place → Found Refusal → Found Refusal
judged none x = x
judged (some p) x = some (refusal 10 p)

abbrev pub meta_rules : List ℕ → Sofar → Declared → Found Refusal
meta_rules text so d =
    pick (declares so.meta_numbers d.index) (some (refusal 9 d.place))
    (judged (first_misnamed so (asked_of text d.decl)) (meta_limits so.netlist (meta_said text so.meta_numbers d.decl) d.place))

judged_is : (so : Sofar) (d : Declared) (m : Meta) (x : Found Place) → ruled so d (metadata m) x ≡ judged x (meta_limits so.netlist m d.place)
unfolding added
judged_is so d m none = refl
judged_is so d m (some p) = refl

pub meta_rules_lem : (text : List ℕ) (so : Sofar) (d : Declared) → is_metadata d.decl ≡ true → ruled_out text so d ≡ meta_rules text so d
unfolding ruled_out
meta_rules_lem text so d e =
    ap (ruled_on text so d) (meta_said_lem text so d.decl e)
    ∙ ap (pick (declares so.meta_numbers d.index) (some (refusal 9 d.place))) (judged_is so d (meta_said text so.meta_numbers d.decl) (first_misnamed so (asked_of text d.decl)))

judged_passes : (x : Found Place) (y : Found Refusal) → ruling_of (judged x y) ≡ Ok tt → ruling_of y ≡ Ok tt
judged_passes none y e = e
judged_passes (some p) y e = never_passed (refusal 10 p) e

-- what passes all rules passes each
pub record MetaPassed (text : List ℕ) (so : Sofar) (d : Declared) : Type 0 where
  pub new : declares so.meta_numbers d.index ≡ false
  pub limits : ruling_of (meta_limits so.netlist (meta_said text so.meta_numbers d.decl) d.place) ≡ Ok tt

pub meta_passed : (text : List ℕ) (so : Sofar) (d : Declared) → ruling_of (meta_rules text so d) ≡ Ok tt → MetaPassed text so d
meta_passed text so d e =
    let y = meta_limits so.netlist (meta_said text so.meta_numbers d.decl) d.place in
    let x = first_misnamed so (asked_of text d.decl) in
    let p = passes (declares so.meta_numbers d.index) (refusal 9 d.place) (judged x y) e in
    record { new = p.0; limits = judged_passes x y p.1 }

-- the places that the walk over the references finds
pub misnaming_said : (text : List ℕ) (so : Sofar) (d : Decl) → is_metadata d ≡ true
    → first_misnamed so (asked_of text d) ≡ place_of (misnaming_for text (map (λ (m : Meta). m.kind) so.netlist.metas) so.meta_numbers d)
unfolding first_misnamed
misnaming_said text so (decl.Set m) e = firsts so (members_at text m.at)
misnaming_said text so (decl.Source f r) e = refl
misnaming_said text so (decl.Scope l i s) e =
    let ks = map (λ (m : Meta). m.kind) so.netlist.metas in
    bool_cases (references.misnamed is_scope ks so.meta_numbers i)
    (λ b. rw (b, first_misnamed))
    (λ b. rw (b, first_misnamed) (bool_cases (references.misnamed is_source ks so.meta_numbers s) (λ q. rw (q, first_misnamed)) (λ q. rw (q, first_misnamed))))
misnaming_said text so (decl.Ident n i) e =
    bool_cases (references.misnamed is_scope (map (λ (m : Meta). m.kind) so.netlist.metas) so.meta_numbers i) (λ b. rw (b, first_misnamed)) (λ b. rw (b, first_misnamed))
misnaming_said text so (decl.Attr n p) e = refl
misnaming_said text so (decl.Io n w) e = never_both e refl
misnaming_said text so (decl.Cell w) e = never_both e refl

-- HOW THE RULES COME OUT
module _ (text : List ℕ) (so : Sofar) (d : Declared) (e : is_metadata d.decl ≡ true) where
  pub meta_twice : 1 ≤ row_of so.meta_numbers d.index → Err (refusal 9 d.place) ≡ ruling_of (ruled_out text so d)
  meta_twice h = sym (ap ruling_of (meta_rules_lem text so d e) ∙ rw (le-leb 1 (row_of so.meta_numbers d.index) h))

  module _ (h : row_of so.meta_numbers d.index < 1) (x : Option Place) (f : x ≡ misnaming_for text (map (λ (m : Meta). m.kind) so.netlist.metas) so.meta_numbers d.decl) where
    found : first_misnamed so (asked_of text d.decl) ≡ place_of x
    found = misnaming_said text so d.decl e ∙ ap place_of (sym f)

    pub meta_misnamed : (p : Place) → x ≡ Some p → Err (refusal 10 p) ≡ ruling_of (ruled_out text so d)
    meta_misnamed p g = sym (ap ruling_of (meta_rules_lem text so d e) ∙ rw (lt-leb 1 (row_of so.meta_numbers d.index) h, found ∙ ap place_of g))

    pub meta_named : x ≡ None → ruling_of (meta_limits so.netlist (meta_said text so.meta_numbers d.decl) d.place) ≡ ruling_of (ruled_out text so d)
    meta_named g = sym (ap ruling_of (meta_rules_lem text so d e) ∙ rw (lt-leb 1 (row_of so.meta_numbers d.index) h, found ∙ ap place_of g))

-- WHAT PASSES is within each limit
wide_most : (n : ℕ) → wide n ≡ true → n ≤ 256
wide_most n e = leb-true n 256 (and_true (leb 1 n) (leb n 256) e).1

pub bits_narrow : (text ns : List ℕ) (d : Decl) → attr_width (meta_said text ns d) ≡ true → length (meta_said text ns d).bits ≤ 256
bits_narrow text ns (decl.Set m) e = omega arith
bits_narrow text ns (decl.Source f r) e = omega arith
bits_narrow text ns (decl.Scope (label.Named s) i r) e = omega arith
bits_narrow text ns (decl.Scope (label.Indexed n) i r) e = omega arith
bits_narrow text ns (decl.Ident n i) e = omega arith
bits_narrow text ns (decl.Attr n (payload.Bits s)) e = wide_most (length (trits_in text s)) e
bits_narrow text ns (decl.Attr n (payload.Integer i)) e = omega arith
bits_narrow text ns (decl.Attr n (payload.Text s)) e = omega arith
bits_narrow text ns (decl.Io n w) e = omega arith
bits_narrow text ns (decl.Cell w) e = omega arith
