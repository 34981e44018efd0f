-- The modes of the scan of the whole text: small numbers for the ranges that a sequence still lacks.
use Rattle.std.specs.Prelude.{ℕ, List, [], ◌∷◌, eqb}
use Rattle.std.proofs.Math.Option.{Option, none, some}
use Rattle.ground.specs.Choice.{pick}
use Rattle.signs.specs.Bytes.{Range}
use Rattle.scanning.specs.Whole.{Sequence, sequence, more}

-- 1 to 3: so many bytes; 4 to 7: two or three, the first of them in a narrower range; from 8 on: the LF behind a CR
unfoldable pub lack : ℕ → Sequence
lack m =
    pick (eqb m 1) (sequence 0x80 0xbf [])
    (pick (eqb m 2) (sequence 0x80 0xbf (more ∷ []))
    (pick (eqb m 3) (sequence 0x80 0xbf (more ∷ more ∷ []))
    (pick (eqb m 4) (sequence 0xa0 0xbf (more ∷ []))
    (pick (eqb m 5) (sequence 0x80 0x9f (more ∷ []))
    (pick (eqb m 6) (sequence 0x90 0xbf (more ∷ more ∷ []))
    (pick (eqb m 7) (sequence 0x80 0x8f (more ∷ more ∷ []))
    (sequence 0x0a 0x0a [])))))))

-- in the mode 0 nothing is lacking
unfoldable pub lacking : ℕ → List Range
lacking m = pick (eqb m 0) [] ((lack m).lead ∷ (lack m).tail)

-- the mode 9 is that a byte may not stand where it stands
unfoldable pub meant : ℕ → Option (List Range)
meant m = pick (eqb m 9) none (some (lacking m))
