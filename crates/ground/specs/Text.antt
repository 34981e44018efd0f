-- Quoted text as bytes, so that keywords and worked texts can be read in the definitions. ASCII only.
use Rattle.std.specs.Prelude.{ℕ, Bool, true, false, List, [], ◌∷◌, eqb}
use Prim.Native.String as str
use Prim.Native.String.{String}
use Prim.Native.Char.{code}

unfoldable pub bytes : String → List ℕ
bytes str.[] = []
bytes (str.◌∷◌ c s) = code c ∷ bytes s

-- the same bytes, one by one
unfoldable pub same : List ℕ → List ℕ → Bool
same [] [] = true
same [] (y ∷ ys) = false
same (x ∷ xs) [] = false
same (x ∷ xs) (y ∷ ys) = elim (eqb x y) [ true ↦ same xs ys | false ↦ false ]
