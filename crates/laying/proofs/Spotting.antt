-- A part that is a cell identifier by its numbers, without a token.
-- Assumes nothing.
use Rattle.std.specs.Prelude.{Some, None}
use mathlib.Core.Path.{◌≡◌, refl, ap, sym, subst, ◌∙◌}
use mathlib.Core.Bool.{Bool, true, false, ◌||◌}
use mathlib.Core.List.{List, [], ◌∷◌}
use Prim.Native.Nat.{ℕ, ◌-◌, ◌<◌, ◌≤◌}
use lib.Dec.{ltb, eqb}
use borrow.Author.Tests.{lt-leb, ltb-true, eqb-true}
use Rattle.ground.proofs.Bools.{or_right}
use Rattle.ground.specs.declared.Place.{Place}
use Rattle.lexis.specs.Tokens.{inside_at, constant, cell, took, spot_at}
use Rattle.lexis.specs.declared.Spot.{Spot}
use Rattle.lexis.specs.declared.Token.{Token}
use Rattle.lexis.proofs.Spots.{Spotted, spot_found, spot_closed}
use Rattle.brackets.specs.Words.{is_sort}
use Rattle.brackets.specs.Parts.{PartAt, is_part, part_of, parts_from}
use Rattle.brackets.specs.declared.Base.TheVariants as base
use Rattle.brackets.specs.declared.Part.{Part}
use Rattle.brackets.specs.declared.Part.TheVariants as part
use Rattle.netlist.specs.Runs.{falling}
use Rattle.laying.specs.Growing.{OpenedRows, Grows}
use Rattle.laying.specs.Bare.{PartsFit, PartsLaid}
use Rattle.laying.specs.declared.Laid.{Laid}
use Rattle.laying.proofs.Walking.{parts_other, parts_took, Walks, walks_as, walks_done, walks_fits, walks_more, walks_full}

abbrev piece_of : Spot → Part
piece_of s = part.One (base.Cell (record { cell = s.cell; offset = s.offset; width = s.width }))

abbrev spot_part : Spot → Place → PartAt
spot_part s p = record { part = piece_of s; place = p }

module _ (t : Token) (s : Spot) where
  piece_same : t.sort ≡ cell → t.parts < 4 → t.value ≡ s.cell → t.offset ≡ s.offset → t.width ≡ s.width → part_of t ≡ piece_of s
  piece_same sort few value offset width =
      let n : is_sort constant t ≡ false = rw sort in
      rw (lt-leb 4 t.parts few, n, value, offset, width)

-- the part that stands next
pub record SpotPart (text : List ℕ) (k f : ℕ) (s : Spot) : Type 0 where
  pub place : Place
  pub is : parts_from f text k ≡ spot_part s place ∷ parts_from (f - 1) text s.end

module _ (text : List ℕ) (k : ℕ) (s : Spot) (e : s ≡ spot_at text k) where
  parts_spot : s.found ≡ true → (f : ℕ) → 0 < f → SpotPart text k f s
  parts_spot h f l =
      let d : Spotted s (inside_at text k) = subst (λ (x : Spot). Spotted x (inside_at text k)) (sym e) (spot_found text k (rw e at h)) in
      let t = d.taken in
      let is : is_part t ≡ true = or_right (is_sort constant t) (is_sort cell t) d.sort in
      let p : part_of t ≡ piece_of s = piece_same t s (eqb-true _ _ d.sort) (ltb-true _ _ d.few) d.value d.from d.wide in
      record {
        place = t.place;
        is = parts_took text k t _ d.is f l is ∙ ap (λ (x : Part). record { part = x; place = t.place } ∷ parts_from (f - 1) text s.end) p;
      }

  parts_shut : s.closed ≡ true → (f : ℕ) → parts_from f text k ≡ []
  parts_shut h f = parts_other text k _ _ (spot_closed text k (rw e at h)) f refl

-- AN OPERAND ON ITS WAY, where its next part is asked for by its numbers
module _ (text : List ℕ) (all : List PartAt) (runs₀ trits₀ : List ℕ) (so₀ : Laid) (k f : ℕ) (s : Spot) (e : s ≡ spot_at text k)
    {runs trits : List ℕ} {so : Laid} {bare : Bool} (w : Walks text all (parts_from f text k) runs₀ trits₀ so₀ runs trits so bare) where
  pub spot_done : s.closed ≡ true → PartsLaid text all runs₀ trits₀ so₀ (Some (so, bare)) runs trits
  spot_done h = walks_done text all runs₀ trits₀ so₀ (walks_as (parts_shut text k s e h f) w)

  module _ (h : s.found ≡ true) (l : 0 < f) where
    place : Place
    place = (parts_spot text k s e h f l).place

    walks_on : Walks text all (spot_part s place ∷ parts_from (f - 1) text s.end) runs₀ trits₀ so₀ runs trits so bare
    unfolding place
    walks_on = walks_as (parts_spot text k s e h f l).is w

    pub spot_fits : PartsFit all runs₀ trits₀ so₀ → (s.cell ≤ 65535) × (s.offset ≤ 65535) × OpenedRows so₀.runs runs so s.width
    spot_fits g =
        let m = walks_fits text all runs₀ trits₀ so₀ (spot_part s place) (parts_from (f - 1) text s.end) walks_on g in
        (m.0.0, m.0.1, record { trits = trits; opened = m.1 })

    pub spot_more : {runs' : List ℕ} {so' : Laid} {bare' : Bool} → ((ts : List ℕ) → Grows so₀.runs runs ts so (falling s.cell s.offset s.width) (Some so') runs' ts)
        → bare' ≡ bare || eqb s.width 0 → Walks text all (parts_from (f - 1) text s.end) runs₀ trits₀ so₀ runs' trits so' bare'
    spot_more g b = walks_more text all runs₀ trits₀ so₀ (spot_part s place) (parts_from (f - 1) text s.end) walks_on (g trits) b

    pub spot_full : {runs' : List ℕ} → ((ts : List ℕ) → Grows so₀.runs runs ts so (falling s.cell s.offset s.width) None runs' ts)
        → PartsLaid text all runs₀ trits₀ so₀ None runs' trits
    spot_full g = walks_full text all runs₀ trits₀ so₀ (spot_part s place) (parts_from (f - 1) text s.end) walks_on (g trits)
