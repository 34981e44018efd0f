-- A string that means a byte, and an operand that has a bit, begin inside the text.
-- Assumes nothing.
use mathlib.Core.Path.{◌≡◌, refl, ap, ◌∙◌}
use mathlib.Core.Bool.{Bool, true, false}
use mathlib.Core.List.{List, [], ◌∷◌}
use Prim.Native.Nat.{ℕ, zero, suc, ◌+◌, ◌<◌, ◌≤◌}
use native.Mathlib.Omega.{arith}
use lib.Dec.{ltb, leb}
use lib.ListN.{length, drop}
use borrow.Author.Tests.{ltb-true, ltb-false, lt-leb, leb-true}
use Rattle.ground.specs.Choice.{pick}
use Rattle.ground.specs.Lists.{total}
use Rattle.ground.proofs.Bools.{bool_cases}
use Rattle.ground.proofs.Rest.{rest_end}
use Rattle.signs.specs.Pieces.{span_end, inside_end, string_from, bytes_in, decoded}
use Rattle.lexis.specs.Tokens.{took, plain, text_end, token_from, token_at, inside_at}
use Rattle.brackets.specs.Parts.{parted_of, parts_from, parts_at, next_part}
use Rattle.brackets.specs.declared.Operand.{Operand}
use Rattle.brackets.proofs.Sums.{widths}

pub string_inside : (text : List ℕ) (k : ℕ) → 0 < length (decoded text k) → k < length text
unfolding string_from
string_inside text k h = bool_cases (ltb k (length text)) (λ e. ltb-true k (length text) e)
    (λ e. let z : length (decoded text k) ≡ 0 = rw (rest_end text k (ltb-false k (length text) e)) in absurd (omega arith))

-- past the end of the text no token is a part
token_none : (text : List ℕ) (k : ℕ) → drop k text ≡ [] → token_at text k ≡ took (plain text_end k 0 0 0) k
unfolding token_at span_end token_from
token_none text k e = rw (e, e)

next_none : (text : List ℕ) (k : ℕ) → drop k text ≡ [] → next_part text k ≡ parted_of (took (plain text_end k 0 0 0) k)
unfolding next_part inside_at inside_end token_from
next_none text k e = rw (e, e)

parts_none : (f : ℕ) (text : List ℕ) (k : ℕ) → drop k text ≡ [] → parts_from (suc f) text k ≡ []
unfolding parts_from
parts_none f text k e = rw (next_none text k e, parts_from)

past_end : (text : List ℕ) (o : Operand) → drop o.at text ≡ [] → widths (parts_at text o) ≡ 0
unfolding parts_at total
past_end text o e = bool_cases o.given (λ g. rw (g, token_none text o.at e, parts_none (length text) text o.at e)) (λ g. rw g)

pub operand_inside : (text : List ℕ) (o : Operand) → 0 < widths (parts_at text o) → o.at < length text
operand_inside text o h = bool_cases (ltb o.at (length text)) (λ e. ltb-true _ _ e)
    (λ e. absurd (omega (arith, past_end text o (rest_end text o.at (ltb-false _ _ e)))))

pub operand_none : (text : List ℕ) (o : Operand) → o.given ≡ false → widths (parts_at text o) ≡ 0
unfolding parts_at total
operand_none text o e = rw e
