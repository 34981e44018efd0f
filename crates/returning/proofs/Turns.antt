-- The declarations of the canonical text, one after the other: each passes, and what is said grows by what was printed.
use Prim.Native.Nat.{ℕ, suc, ◌+◌, ◌-◌}
use native.Mathlib.Nat.{zero-add, suc-add}
use native.Mathlib.Omega.{arith}
use mathlib.Core.Path.{◌≡◌, refl, sym, ap, ◌∙◌, subst}
use mathlib.Core.Bool.{true}
use mathlib.Core.List.{List, [], ◌∷◌, ◌++◌, map, append_assoc, append-nil}
use mathlib.Core.Option.{none}
use lib.ListN.{length, length-append}
use Rattle.ground.specs.Refusals.{at}
use Rattle.ground.proofs.Counts.{length_mapped}
use Rattle.form.specs.declared.Decl.{Decl}
use Rattle.form.specs.declared.Declared.{Declared}
use Rattle.netlist.specs.Netlist.{Meta, Io, Netlist}
use Rattle.netlist.specs.Rules.{valid}
use Rattle.netlist.proofs.Laying.{valid_roomy}
use Rattle.saying.specs.Rules.{Sofar, Said, metadata, pad, said_by, added, ruled_out}
use Rattle.declaring.specs.Reading.{declarations_from}
use Rattle.declaring.proofs.Declaring.{goes_on}
use Rattle.lines.specs.Lines.{meta_lines, io_lines}
use Rattle.fronts.specs.Fronts.{metas_so, ios_so}
use Rattle.fronts.proofs.Rows.{rowed}
use Rattle.fronts.proofs.Sound.{meta_sound_at, io_sound_at}
use Rattle.fronts.proofs.Passes.{meta_added, io_added, meta_passes, io_passes}
use Rattle.tokensback.proofs.Standing.{Stands, Declares}
use Rattle.linesback.proofs.Lines.{meta_line_back, io_line_back}

-- reading comes from k to where s is left, and says so' by then; g turns of f are left
pub record Comes (text : List ℕ) (f k : ℕ) (so : Sofar) (g : ℕ) (so' : Sofar) (s : List ℕ) : Type 0 where
  pub end : ℕ
  pub is : declarations_from f text k so ≡ declarations_from g text end so'
  pub after : Stands text end s

pub comes_none : {text : List ℕ} (k g : ℕ) (so : Sofar) {s : List ℕ} → Stands text k s → Comes text (0 + g) k so g so s
comes_none k g so h = record { end = k; is = rw zero-add; after = h }

-- one declaration that passes, and then the rest
module _ {text : List ℕ} {k index : ℕ} {says : Decl → Type 0} {t : List ℕ} (d : Declares text k index says t) (so : Sofar) (s : Said) where
  abbrev declared : Declared
  declared = record { place = d.place; index = index; decl = d.decl }

  pub one_comes : (n g : ℕ) {so' so'' : Sofar} {r : List ℕ} → said_by text so d.decl ≡ s → ruled_out text so declared ≡ none → added so index s ≡ so'
      → Comes text (n + g) d.end so' g so'' r → Comes text (suc n + g) k so g so'' r
  one_comes n g {so'} said passes adds c = record {
    end = c.end;
    is = ap (λ (f : ℕ). declarations_from f text k so) (suc-add n g)
        ∙ goes_on text k so declared (record { next = at d.end }) d.form passes (n + g)
        ∙ ap (λ (x : Sofar). declarations_from (n + g) text d.end x) (ap (λ (x : Said). added so index x) said ∙ adds)
        ∙ c.is;
    after = c.after;
  }

-- METADATA and I/O
module _ (N : Netlist) (v : valid N ≡ true) (text : List ℕ) where
  pub metas_come : (ms' ms : List Meta) (k g : ℕ) {s : List ℕ} → N.metas ≡ ms ++ ms' → Stands text k (meta_lines (length ms) ms' s) → Comes text (length ms' + g) k (metas_so ms) g (metas_so N.metas) s
  unfolding meta_lines
  metas_come [] ms k g {s} e h =
      let z : ms ≡ N.metas = sym (append-nil ms) ∙ sym e in
      subst (λ (x : List Meta). Comes text (0 + g) k (metas_so ms) g (metas_so x) s) z (comes_none k g (metas_so ms) h)
  metas_come (m ∷ ms') ms k g {s} e h =
      let few = (valid_roomy N v).metas in
      let long : length N.metas ≡ length ms + suc (length ms') = ap length e ∙ length-append ms (m ∷ ms') in
      let kinds = map (λ (m : Meta). m.kind) ms in
      let d = meta_line_back (length ms) kinds m (omega arith) (omega (arith, length_mapped (λ (m : Meta). m.kind) ms)) (meta_sound_at N v ms m ms' e) h in
      let said = d.said (metas_so ms) (rowed (metas_so ms) refl) in
      let e' : N.metas ≡ (ms ++ (m ∷ [])) ++ ms' = e ∙ sym (append_assoc ms (m ∷ []) ms') in
      let n : length (ms ++ (m ∷ [])) ≡ length ms + 1 = length-append ms (m ∷ []) in
      one_comes d (metas_so ms) (metadata m) (length ms') g said.0 (meta_passes text N v ms m ms' e _ refl said.0 said.1) (meta_added ms m)
      (metas_come ms' (ms ++ (m ∷ [])) d.end g {s = s} e' (rw n d.after))

  pub ios_come : (is' is : List Io) (k g : ℕ) {s : List ℕ} → N.ios ≡ is ++ is' → Stands text k (io_lines is' s) → Comes text (length is' + g) k (ios_so N.metas is) g (ios_so N.metas N.ios) s
  unfolding io_lines
  ios_come [] is k g {s} e h =
      let z : is ≡ N.ios = sym (append-nil is) ∙ sym e in
      subst (λ (x : List Io). Comes text (0 + g) k (ios_so N.metas is) g (ios_so N.metas x) s) z (comes_none k g (ios_so N.metas is) h)
  ios_come (i ∷ is') is k g e h =
      let d = io_line_back i (io_sound_at N v is i is' e) h in
      let said = d.said (ios_so N.metas is) in
      let e' : N.ios ≡ (is ++ (i ∷ [])) ++ is' = e ∙ sym (append_assoc is (i ∷ []) is') in
      one_comes d (ios_so N.metas is) (pad i) (length is') g said.0 (io_passes text N v is i is' e _ said.0 said.1) (io_added N.metas is 0 i)
      (ios_come is' (is ++ (i ∷ [])) d.end g e' d.after)
