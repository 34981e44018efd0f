-- What is told by a byte alone is what its token tells.
-- Assumes nothing.
use Rattle.std.specs.Prelude.{Ok, Some}
use mathlib.Core.Path.{◌≡◌, refl}
use mathlib.Core.Bool.{true}
use mathlib.Core.List.{List}
use Prim.Native.Nat.{ℕ, ◌-◌, ◌<◌}
use borrow.Author.Tests.{eq-eqb}
use Rattle.ground.specs.Refusals.{at}
use Rattle.signs.specs.Bytes.{is_special}
use Rattle.lexis.specs.Tokens.{took, plain, mark, line_end, token_at, byte_end}
use Rattle.lexis.specs.declared.Token.{Token}
use Rattle.lexis.proofs.Links.{feed_found}
use Rattle.brackets.proofs.Shorts.{byte_mark}
use Rattle.form.specs.Forms.{mark_at, ended}
use Rattle.form.specs.declared.Decl.{Decl}

module _ (text : List ℕ) (k : ℕ) where
  pub mark_short : (b e : ℕ) → e ≡ byte_end text b k → 0 < e → is_special b ≡ true → took (plain mark (e - 1) b 0 0) e ≡ mark_at text b k
  mark_short b e q h s = let same = eq-eqb b b refl in rw (byte_mark text k b e q h s, same)

  pub line_short : (e : ℕ) → e ≡ byte_end text 10 k → 0 < e → (t : Token) (d : Decl) → Ok (Some (record { place = t.place; index = t.value; decl = d }, record { next = at e })) ≡ ended text t d k
  line_short e q h t d =
      let m : token_at text k ≡ took (plain line_end (e - 1) 0 0 0) e = rw q (feed_found text k (rw q at h)) in
      rw m
