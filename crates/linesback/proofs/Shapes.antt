-- Metadata by its kind: what the kind does not have is empty or 0, so the rest tells the row.
use Prim.Native.Nat.{ℕ}
use mathlib.Core.Path.{◌≡◌, refl}
use mathlib.Core.Bool.{Bool, true, false, ◌&&◌, ◌||◌}
use mathlib.Core.List.{List, [], ◌∷◌}
use native.Mathlib.Omega.{arith}
use lib.Dec.{eqb}
use lib.ListN.{length}
use borrow.Author.Tests.{eqb-true}
use Rattle.ground.proofs.Bools.{never_both, fact, and_true}
use Rattle.netlist.specs.Netlist.{Meta, set_meta, source_meta, scope_meta, indexed_meta, ident_meta, bits_meta, integer_meta, string_meta, is_scope}
use Rattle.netlist.specs.Rules.{unless, is_empty, has_name, shape}
use Rattle.saying.specs.Values.{meta, source_of}

no_list : (has : Bool) (s : List ℕ) → unless has (is_empty s) ≡ true → has ≡ false → s ≡ []
no_list true s p e = never_both refl e
no_list false [] p e = refl
no_list false (x ∷ s) p e = let z = eqb-true (length (x ∷ s)) 0 p in absurd (omega arith)

no_number : (has : Bool) (n : ℕ) → unless has (eqb n 0) ≡ true → has ≡ false → n ≡ 0
no_number true n p e = never_both refl e
no_number false n p e = eqb-true n 0 p

-- a row by its fields
same : (m : Meta) {kind : ℕ} {name text members bits : List ℕ} {inside source number line column end_line end_column : ℕ}
    → m.kind ≡ kind → m.name ≡ name → m.text ≡ text → m.members ≡ members → m.bits ≡ bits → m.inside ≡ inside → m.source ≡ source → m.number ≡ number
    → m.line ≡ line → m.column ≡ column → m.end_line ≡ end_line → m.end_column ≡ end_column
    → record { kind = kind; name = name; text = text; members = members; bits = bits; inside = inside; source = source; number = number; line = line; column = column; end_line = end_line; end_column = end_column } ≡ m
same m a b c d e f g h i j k l = rw (← a, ← b, ← c, ← d, ← e, ← f, ← g, ← h, ← i, ← j, ← k, ← l)

module _ (m : Meta) (p : shape m ≡ true) where
  no_name : has_name m.kind ≡ false → m.name ≡ []
  no_name e = no_list _ m.name (fact _ p 1) e

  no_text : eqb m.kind string_meta ≡ false → m.text ≡ []
  no_text e = no_list _ m.text (fact _ p 2) e

  no_members : eqb m.kind set_meta ≡ false → m.members ≡ []
  no_members e = no_list _ m.members (fact _ p 3) e

  no_bits : eqb m.kind bits_meta ≡ false → m.bits ≡ []
  no_bits e = no_list _ m.bits (fact _ p 4) e

  no_inside : is_scope m.kind || eqb m.kind ident_meta ≡ false → m.inside ≡ 0
  no_inside e = no_number _ m.inside (fact _ p 5) e

  no_source : is_scope m.kind ≡ false → m.source ≡ 0
  no_source e = no_number _ m.source (fact _ p 6) e

  no_index : eqb m.kind indexed_meta || eqb m.kind integer_meta ≡ false → m.number ≡ 0
  no_index e = no_number _ m.number (fact _ p 7) e

  no_range : eqb m.kind source_meta ≡ false → (m.line ≡ 0) × (m.column ≡ 0) × (m.end_line ≡ 0) × (m.end_column ≡ 0)
  no_range e =
      let a = and_true (eqb m.line 0) (eqb m.column 0 && (eqb m.end_line 0 && eqb m.end_column 0)) (rw e at (fact _ p 8)) in
      let b = and_true (eqb m.column 0) (eqb m.end_line 0 && eqb m.end_column 0) a.1 in
      let c = and_true (eqb m.end_line 0) (eqb m.end_column 0) b.1 in
      (eqb-true m.line 0 a.0, eqb-true m.column 0 b.0, eqb-true m.end_line 0 c.0, eqb-true m.end_column 0 c.1)

  -- without a source range
  rangeless : {kind : ℕ} {name text members bits : List ℕ} {inside source number : ℕ} → m.kind ≡ kind → eqb kind source_meta ≡ false
      → m.name ≡ name → m.text ≡ text → m.members ≡ members → m.bits ≡ bits → m.inside ≡ inside → m.source ≡ source → m.number ≡ number
      → meta kind name text members bits inside source number ≡ m
  rangeless e f a b c d g i j = let r = no_range (rw e f) in same m e a b c d g i j r.0 r.1 r.2 r.3

  -- WHAT TELLS THE ROW: of a set its members
  pub set_is : m.kind ≡ set_meta → meta set_meta [] [] m.members [] 0 0 0 ≡ m
  set_is e = rangeless e refl (no_name (rw e)) (no_text (rw e)) refl (no_bits (rw e)) (no_inside (rw e)) (no_source (rw e)) (no_index (rw e))

  -- of a source its file and its range
  pub source_is : m.kind ≡ source_meta
      → source_of m.name (record { first = record { line = m.line; column = m.column }; last = record { line = m.end_line; column = m.end_column } }) ≡ m
  source_is e = same m e refl (no_text (rw e)) (no_members (rw e)) (no_bits (rw e)) (no_inside (rw e)) (no_source (rw e)) (no_index (rw e)) refl refl refl refl

  -- of a scope its name and its references
  pub scope_is : m.kind ≡ scope_meta → meta scope_meta m.name [] [] [] m.inside m.source 0 ≡ m
  scope_is e = rangeless e refl refl (no_text (rw e)) (no_members (rw e)) (no_bits (rw e)) refl refl (no_index (rw e))

  -- .. or its index and its references
  pub indexed_is : m.kind ≡ indexed_meta → meta indexed_meta [] [] [] [] m.inside m.source m.number ≡ m
  indexed_is e = rangeless e refl (no_name (rw e)) (no_text (rw e)) (no_members (rw e)) (no_bits (rw e)) refl refl refl

  -- of an ident its name and its scope
  pub ident_is : m.kind ≡ ident_meta → meta ident_meta m.name [] [] [] m.inside 0 0 ≡ m
  ident_is e = rangeless e refl refl (no_text (rw e)) (no_members (rw e)) (no_bits (rw e)) refl (no_source (rw e)) (no_index (rw e))

  -- of an attribute its name and its constant
  pub bits_is : m.kind ≡ bits_meta → meta bits_meta m.name [] [] m.bits 0 0 0 ≡ m
  bits_is e = rangeless e refl refl (no_text (rw e)) (no_members (rw e)) refl (no_inside (rw e)) (no_source (rw e)) (no_index (rw e))

  -- .. its integer
  pub integer_is : m.kind ≡ integer_meta → meta integer_meta m.name [] [] [] 0 0 m.number ≡ m
  integer_is e = rangeless e refl refl (no_text (rw e)) (no_members (rw e)) (no_bits (rw e)) (no_inside (rw e)) (no_source (rw e)) refl

  -- .. or its string
  pub string_is : m.kind ≡ string_meta → meta string_meta m.name m.text [] [] 0 0 0 ≡ m
  string_is e = rangeless e refl refl refl (no_members (rw e)) (no_bits (rw e)) (no_inside (rw e)) (no_source (rw e)) (no_index (rw e))
