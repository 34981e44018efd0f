-- What reading takes: where it comes to an end with nothing refused, declarations stand to the end of the text and keep every rule of 9 to 13.
use Rattle.form.specs.Form.{Form}
use Rattle.std.specs.Prelude.{Ok, Err, Some, None}
use mathlib.Core.Path.{◌≡◌, refl, sym, ap, subst, ◌∙◌}
use mathlib.Core.Bool.{true, false, ◌&&◌}
use mathlib.Core.List.{List, [], ◌∷◌}
use mathlib.Core.Option.{Option, none, some}
use Prim.Native.Nat.{ℕ, zero, suc, ◌-◌, ◌<◌}
use native.Mathlib.Omega.{arith}
use lib.ListN.{length}
use Rattle.ground.specs.Lists.{every}
use Rattle.ground.specs.declared.Refusal.{Refusal}
use Rattle.ground.proofs.Bools.{true_and, not_of_false, or_false}
use Rattle.kinds.specs.Kinds.{kind_at}
use Rattle.form.specs.Forms.{form_at}
use Rattle.form.specs.declared.Declared.{Declared}
use Rattle.netlist.specs.Rules.{taken, names_as, is_byte}
use Rattle.saying.specs.Rules.{Sofar, nothing, Said, metadata, pad, cell, said_by, added, declares, twice, asked_of, incomplete, misfit, ruled_out}
use Rattle.noting.proofs.Forming.{formed}
use Rattle.declaring.specs.Reading.{Declarations, all, stopped, declarations_from}
use Rattle.declaring.proofs.Declaring.{form_stops, form_ends, rule_stops, goes_on}
use Rattle.accepting.proofs.Forms.{meant}
use Rattle.accepting.proofs.Said.{said_sound}
use Rattle.accepting.proofs.Sound.{passed, Sound, nothing_sound, sound_more}
use Rattle.language.specs.Language.{Stand, ended, next, say_from, each_from, once}
use Rattle.language.proofs.Progress.{took_inside, took_past}
use Rattle.language.proofs.Once.{once_last}
use Rattle.language.proofs.Firsts.{none_misnamed}
use Rattle.language.proofs.Telling.{referring, completed, fitting}

-- RULE 9, of numbers: with one declaration more each still stands once
pub record NumbersOnce (so : Sofar) : Type 0 where
  pub metas : once so.meta_numbers ≡ true
  pub cells : once so.cell_numbers ≡ true

numbered_more : (so : Sofar) (index : ℕ) (s : Said) → twice so index s ≡ false → NumbersOnce so → NumbersOnce (added so index s)
unfolding added
numbered_more so index (metadata m) t n = record { metas = once_last so.meta_numbers index n.metas t; cells = n.cells }
numbered_more so index (pad i) t n = record { metas = n.metas; cells = n.cells }
numbered_more so index (cell c a b d ps) t n =
    let free = or_false (declares so.cell_numbers index) ((kind_at c.kind).named && taken c.name (names_as c.kind so.netlist.cells)) t in
    record { metas = n.metas; cells = once_last so.cell_numbers index n.cells free.0 }

-- DECLARATIONS from the place k on, behind what is said in `so`, that say `more`
pub record Stood (text : List ℕ) (k : ℕ) (so more : Sofar) : Type 0 where
  pub declarations : List Declared
  pub stand : Stand text k declarations
  pub said : say_from text so declarations ≡ more
  pub references : each_from (referring text) text so declarations ≡ true
  pub complete : each_from (completed text) text so declarations ≡ true
  pub widths : each_from (fitting text) text so declarations ≡ true
  pub sound : Sound more
  pub numbered : NumbersOnce more

never_all : {P : Type 0} (g : Refusal) (so : Sofar) → stopped g ≡ all so → P
never_all g so e = let z : ◌≡◌ {A = ℕ} 0 1 = cc in absurd (omega arith)

abbrev said_in : Sofar → Declarations → Sofar
said_in old (all so) = so
said_in old (stopped g) = old

module _ (text : List ℕ) where
  stood_none : (k : ℕ) (so more : Sofar) → form_at text k ≡ Ok None → Sound so → NumbersOnce so → all so ≡ all more → Stood text k so more
  unfolding say_from each_from
  stood_none k so more v h n e =
      let same : so ≡ more = ap (said_in so) e in
      record { declarations = []; stand = ended v; said = same; references = refl; complete = refl; widths = refl; sound = subst Sound same h; numbered = subst NumbersOnce same n }

  module _ (bytes : every is_byte text ≡ true) where
    -- with more fuel than bytes are left, reading ends with the text
    stood_from : (f k : ℕ) (so more : Sofar) → length text - k < f → Sound so → NumbersOnce so → declarations_from f text k so ≡ all more → Stood text k so more
    unfolding say_from each_from
    stood_from zero k so more l h n e = absurd (omega arith)
    stood_from (suc f) k so more l h n e = go (form_at text k) refl (λ j so' m s o. stood_from f j so' more m s o)
      where
        go : (v : Form) → form_at text k ≡ v
            → ((j : ℕ) (so' : Sofar) → length text - j < f → Sound so' → NumbersOnce so' → declarations_from f text j so' ≡ all more → Stood text j so' more) → Stood text k so more
        go (Err g) v ih = never_all g more (sym (form_stops text k so g v f) ∙ e)
        go (Ok None) v ih = stood_none k so more v h n (sym (form_ends text k so v f) ∙ e)
        go (Ok (Some (d, r))) v ih = ruling (ruled_out text so d) refl
          where
            ruling : (x : Option Refusal) → ruled_out text so d ≡ x → Stood text k so more
            ruling (some g) o = never_all g more (sym (rule_stops text k so d r v g o f) ∙ e)
            ruling none o =
                let said = said_by text so d.decl in
                let p = passed text so d o in
                let a = took_inside text k d r v in
                let b = took_past text k d r v in
                let s = said_sound text bytes so d.decl (formed text k d r v).decl (meant text k d r v) p.named in
                let rest = ih r.next.at (added so d.index said) (omega arith) (sound_more text so d h said s p) (numbered_more so d.index said p.once n) (sym (goes_on text k so d r v o f) ∙ e) in
                record {
                  declarations = d ∷ rest.declarations;
                  stand = next v rest.stand;
                  said = rest.said;
                  references = true_and _ _ (none_misnamed so (asked_of text d.decl) p.named) rest.references;
                  complete = true_and _ _ (not_of_false (incomplete said) p.whole) rest.complete;
                  widths = true_and _ _ (not_of_false (misfit said) p.fits) rest.widths;
                  sound = rest.sound;
                  numbered = rest.numbered;
                }

    -- ALL DECLARATIONS of the text
    pub all_stood : (more : Sofar) → declarations_from (suc (length text)) text 0 nothing ≡ all more → Stood text 0 nothing more
    unfolding once
    all_stood more e = stood_from (suc (length text)) 0 nothing more (omega arith) nothing_sound (record { metas = refl; cells = refl }) e
