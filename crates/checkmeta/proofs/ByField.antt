-- The rules by fields are the rules of the netlist.
use mathlib.Core.Path.{◌≡◌, refl}
use mathlib.Core.Bool.{Bool, true, false, not, ◌&&◌, ◌||◌}
use mathlib.Core.List.{List}
use Prim.Native.Nat.{ℕ}
use native.Mathlib.Omega.{arith}
use lib.Dec.{eqb, leb}
use lib.ListN.{length}
use borrow.Author.Tests.{eqb-true, leb-true, le-leb, ne_eqb}
use Rattle.ground.specs.Choice.{pick}
use Rattle.ground.specs.Lists.{every}
use Rattle.ground.proofs.Bools.{never_both, and_true, true_and, fact, facts, some_back}
use Rattle.kinds.specs.Kinds.{wide}
use Rattle.netlist.specs.Netlist.{Meta, set_meta, source_meta, ident_meta, bits_meta, string_meta, is_scope}
use Rattle.netlist.specs.Rules.{has_name, bad_range, refers, is_member, is_source, is_byte, is_trit, is_number, shape, ranges, references, complete, attr_width, meta_sound, short_string}
use Rattle.checkmeta.specs.Fields.{kind_sound, name_sound, text_sound, members_sound, bits_sound, inside_sound, source_sound, number_sound, range_sound, zero_range}
use Rattle.checkmeta.proofs.Fits.{none}

-- WHAT A KIND HAS, AND WHAT IT HAS NOT
pub has_facts : (h q e : Bool) → pick h q e ≡ true → (h || e ≡ true) × (not h || q ≡ true)
has_facts true q e p = (refl, p)
has_facts false q e p = (p, refl)

pub facts_has : (h q e : Bool) → h || e ≡ true → not h || q ≡ true → pick h q e ≡ true
facts_has true q e p r = r
facts_has false q e p r = p

some : (n : ℕ) → leb 1 n ≡ true → not (eqb n 0) ≡ true
some n h = let k = leb-true 1 n h in rw (ne_eqb n 0 (λ e. omega arith))

zero_short : (n : ℕ) → eqb n 0 ≡ true → leb n 255 ≡ true
zero_short n e = let k = eqb-true n 0 e in le-leb n 255 (omega arith)

name_facts : (h : Bool) (n : ℕ) → pick h (leb 1 n && leb n 255) (eqb n 0) ≡ true → (h || eqb n 0 ≡ true) × (not h || not (eqb n 0) ≡ true) × (leb n 255 ≡ true)
name_facts true n p = let q = and_true (leb 1 n) (leb n 255) p in (refl, some n q.0, q.1)
name_facts false n p = (p, refl, zero_short n p)

facts_name : (h : Bool) (n : ℕ) → h || eqb n 0 ≡ true → not h || not (eqb n 0) ≡ true → leb n 255 ≡ true → pick h (leb 1 n && leb n 255) (eqb n 0) ≡ true
facts_name true n p q r = true_and (leb 1 n) (leb n 255) (some_back n q) r
facts_name false n p q r = p

text_facts : (h : Bool) (n : ℕ) → pick h (leb n 255) (eqb n 0) ≡ true → (h || eqb n 0 ≡ true) × (leb n 255 ≡ true)
text_facts true n p = (refl, p)
text_facts false n p = (p, zero_short n p)

facts_text : (h : Bool) (n : ℕ) → h || eqb n 0 ≡ true → leb n 255 ≡ true → pick h (leb n 255) (eqb n 0) ≡ true
facts_text true n p q = q
facts_text false n p q = p

-- the tests of `in=`: an ident, a scope, none given, one that refers
inside_facts : (i s z r : Bool) → pick i r (z || (s && r)) ≡ true → ((s || i) || z ≡ true) × (pick i r (z || r) ≡ true)
inside_facts true true z r h = (refl, h)
inside_facts true false z r h = (refl, h)
inside_facts false true true r h = (refl, refl)
inside_facts false false true r h = (refl, refl)
inside_facts false true false r h = (refl, h)
inside_facts false false false r h = never_both h refl

facts_inside : (i s z r : Bool) → (s || i) || z ≡ true → pick i r (z || r) ≡ true → pick i r (z || (s && r)) ≡ true
facts_inside true s z r p q = q
facts_inside false s true r p q = refl
facts_inside false true false r p q = q
facts_inside false false false r p q = never_both p refl

source_facts : (s z r : Bool) → z || (s && r) ≡ true → (s || z ≡ true) × (z || r ≡ true)
source_facts true true r h = (refl, refl)
source_facts true false r h = (refl, h)
source_facts false true r h = (refl, refl)
source_facts false false r h = never_both h refl

facts_source : (s z r : Bool) → s || z ≡ true → z || r ≡ true → z || (s && r) ≡ true
facts_source s true r p q = refl
facts_source true false r p q = q
facts_source false false r p q = never_both p refl

zero_range_lem : (a b c d : ℕ) → zero_range a b c d ≡ true → not (bad_range a b c d) ≡ true
zero_range_lem a b c d h =
    let p = and_true (eqb a 0) _ h in
    let q = and_true (eqb b 0) _ p.1 in
    let r = and_true (eqb c 0) (eqb d 0) q.1 in
    rw (eqb-true a 0 p.0, eqb-true b 0 q.0, eqb-true c 0 r.0, eqb-true d 0 r.1)

range_facts : (h : Bool) (a b c d : ℕ) → pick h (not (bad_range a b c d)) (zero_range a b c d) ≡ true → (h || zero_range a b c d ≡ true) × (not (bad_range a b c d) ≡ true)
range_facts true a b c d p = (refl, p)
range_facts false a b c d p = (p, zero_range_lem a b c d p)

facts_range : (h : Bool) (a b c d : ℕ) → h || zero_range a b c d ≡ true → not (bad_range a b c d) ≡ true → pick h (not (bad_range a b c d)) (zero_range a b c d) ≡ true
facts_range true a b c d p q = q
facts_range false a b c d p q = p

-- THE RULES OF A ROW, by fields
pub record Fields (kinds : List ℕ) (x : Meta) : Type 0 where
  pub kind : kind_sound x.kind ≡ true
  pub name : name_sound x.kind (length x.name) ≡ true
  pub text : text_sound x.kind (length x.text) ≡ true
  pub members : members_sound x.kind (length x.members) ≡ true
  pub bits : bits_sound x.kind (length x.bits) ≡ true
  pub inside : inside_sound kinds x.kind x.inside ≡ true
  pub source : source_sound kinds x.kind x.source ≡ true
  pub number : number_sound x.kind x.number ≡ true
  pub range : range_sound x.kind x.line x.column x.end_line x.end_column ≡ true
  pub refer : every (refers is_member kinds) x.members ≡ true
  pub trits : every is_trit x.bits ≡ true

-- bytes are bytes, words are words
pub record Held (x : Meta) : Type 0 where
  pub name : every is_byte x.name ≡ true
  pub text : every is_byte x.text ≡ true
  pub number : is_number x.number ≡ true
  pub line : is_number x.line ≡ true
  pub column : is_number x.column ≡ true
  pub end_line : is_number x.end_line ≡ true
  pub end_column : is_number x.end_column ≡ true

abbrev pub short_meta : Meta → Bool
short_meta m = short_string m.name && short_string m.text

pub fields_sound : (kinds : List ℕ) (x : Meta) → Held x → Fields kinds x → (meta_sound kinds x ≡ true) × (short_meta x ≡ true)
fields_sound kinds x k f =
    let n = name_facts (has_name x.kind) (length x.name) f.name in
    let t = text_facts (eqb x.kind string_meta) (length x.text) f.text in
    let m = has_facts (eqb x.kind set_meta) (leb 2 (length x.members)) (eqb (length x.members) 0) f.members in
    let b = has_facts (eqb x.kind bits_meta) (wide (length x.bits)) (eqb (length x.bits) 0) f.bits in
    let i = inside_facts (eqb x.kind ident_meta) (is_scope x.kind) (eqb x.inside 0) (refers is_scope kinds x.inside) f.inside in
    let s = source_facts (is_scope x.kind) (eqb x.source 0) (refers is_source kinds x.source) f.source in
    let r = range_facts (eqb x.kind source_meta) x.line x.column x.end_line x.end_column f.range in
    let shapes : shape x ≡ true = facts _ _ f.kind (facts _ _ n.0 (facts _ _ t.0 (facts _ _ m.0 (facts _ _ b.0 (facts _ _ i.0 (facts _ _ s.0 (facts _ _ f.number (facts _ _ r.0 none)))))))) in
    let ranged : ranges x ≡ true = facts _ _ k.name (facts _ _ k.text (facts _ _ f.trits (facts _ _ k.number (facts _ _ k.line (facts _ _ k.column (facts _ _ k.end_line (facts _ _ k.end_column none))))))) in
    let referring : references kinds x ≡ true = facts _ _ f.refer (facts _ _ i.1 (facts _ _ s.1 none)) in
    let completed : complete x ≡ true = facts _ _ n.1 (facts _ _ r.1 (facts _ _ m.1 none)) in
    (facts _ _ shapes (facts _ _ ranged (facts _ _ referring (facts _ _ completed (facts _ _ b.1 none)))), true_and _ _ n.2 t.1)

pub sound_fields : (kinds : List ℕ) (x : Meta) → meta_sound kinds x ≡ true → short_meta x ≡ true → Fields kinds x
sound_fields kinds x h o =
    let a : shape x ≡ true = fact _ h 0 in
    let b : ranges x ≡ true = fact _ h 1 in
    let c : references kinds x ≡ true = fact _ h 2 in
    let d : complete x ≡ true = fact _ h 3 in
    let w : attr_width x ≡ true = fact _ h 4 in
    let s = and_true (short_string x.name) (short_string x.text) o in
    record {
      kind = fact _ a 0;
      name = facts_name (has_name x.kind) (length x.name) (fact _ a 1) (fact _ d 0) s.0;
      text = facts_text (eqb x.kind string_meta) (length x.text) (fact _ a 2) s.1;
      members = facts_has (eqb x.kind set_meta) (leb 2 (length x.members)) (eqb (length x.members) 0) (fact _ a 3) (fact _ d 2);
      bits = facts_has (eqb x.kind bits_meta) (wide (length x.bits)) (eqb (length x.bits) 0) (fact _ a 4) w;
      inside = facts_inside (eqb x.kind ident_meta) (is_scope x.kind) (eqb x.inside 0) (refers is_scope kinds x.inside) (fact _ a 5) (fact _ c 1);
      source = facts_source (is_scope x.kind) (eqb x.source 0) (refers is_source kinds x.source) (fact _ a 6) (fact _ c 2);
      number = fact _ a 7;
      range = facts_range (eqb x.kind source_meta) x.line x.column x.end_line x.end_column (fact _ a 8) (fact _ d 1);
      refer = fact _ c 0;
      trits = fact _ b 2;
    }
