-- What is told by a byte or an index alone is what its token tells.
-- Assumes nothing.
use Rattle.std.specs.Prelude.{Ok, Some}
use mathlib.Core.Path.{◌≡◌}
use mathlib.Core.Bool.{true}
use mathlib.Core.List.{List}
use Prim.Native.Nat.{ℕ, ◌-◌, ◌<◌}
use Rattle.ground.specs.Refusals.{at}
use Rattle.signs.specs.Bytes.{is_special}
use Rattle.lexis.specs.Tokens.{took, plain, mark, meta, token_at, inside_at, link_at, byte_end}
use Rattle.lexis.specs.declared.Link.{Link}
use Rattle.lexis.proofs.Links.{link_found, mark_found}
use Rattle.brackets.specs.Parts.{next_member}
use Rattle.brackets.specs.declared.Membered.TheVariants as membered

module _ (text : List ℕ) (k : ℕ) where
  pub byte_mark : (b e : ℕ) → e ≡ byte_end text b k → 0 < e → is_special b ≡ true → token_at text k ≡ took (plain mark (e - 1) b 0 0) e
  byte_mark b e q h s = rw q (mark_found text k b s (rw q at h))

  pub member_short : (l : Link) → link_at text k ≡ Some l → next_member text k ≡ Ok (membered.Took (record { given = true; index = l.index; place = at l.at }), record { next = at l.end })
  unfolding next_member
  member_short l f =
      let m : inside_at text k ≡ took (plain meta l.at l.index 0 0) l.end = link_found text k l f in
      rw m
