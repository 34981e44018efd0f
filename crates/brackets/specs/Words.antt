-- The words of the text: opening, keywords, options.
use Rattle.std.specs.Prelude.{ℕ, ◌+◌, Bool, true, false, ◌&&◌, List, [], ◌∷◌, eqb, take, drop}
use Prim.Native.String.{String}
use Rattle.ground.specs.Choice.{pick}
use Rattle.ground.specs.Text.{bytes, same}
use Rattle.kinds.specs.Kinds.{keywords}
use Rattle.lexis.specs.Tokens.{word, mark}
use Rattle.lexis.specs.declared.Token.{Token}

abbrev pub is_sort : ℕ → Token → Bool
is_sort sort t = eqb t.sort sort

abbrev pub is_mark : ℕ → Token → Bool
is_mark b t = is_sort mark t && eqb t.value b

-- the letters of a word
abbrev pub letters : List ℕ → Token → List ℕ
letters text t = take t.size (drop t.from text)

abbrev pub is_spelled : List ℕ → List ℕ → Token → Bool
is_spelled text w t = is_sort word t && same (letters text t) w

abbrev pub is_word : List ℕ → String → Token → Bool
is_word text w t = is_spelled text (bytes w) t

-- the place of the letters in the list, from `n` on; 0 where they are not in it
unfoldable pub numbered : List String → List ℕ → ℕ → ℕ
numbered [] ls n = 0
numbered (w ∷ ws) ls n = elim (same ls (bytes w)) [ true ↦ n | false ↦ numbered ws ls (n + 1) ]

-- the kind that a token in the keyword's place names; 0 where it names none
abbrev pub kind_of : List ℕ → Token → ℕ
kind_of text t = pick (is_sort word t) (numbered keywords (letters text t) 1) 0
