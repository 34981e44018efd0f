-- The form of a declaration, token by token from the left: refusals 5 to 8 with their places.
use Rattle.form.specs.Form.{Form}
use Rattle.lexis.specs.Took.{Took, after}
use Rattle.std.specs.Prelude.{ℕ, Bool, true, false, ◌&&◌, ◌||◌, List, leb, ltb, eqb, length, Ok, Err, Some, None}
use Rattle.ground.specs.Choice.{pick}
use Rattle.ground.specs.Refusals.{at, refusal}
use Rattle.ground.specs.Text.{bytes}
use Rattle.kinds.specs.Kinds.{kind_at}
use Rattle.lexis.specs.Tokens.{token_at, inside_at, line_end, text_end, word, constant, number, meta, io, cell, string, placeholder}
use Rattle.lexis.specs.declared.Token.{Token}
use Rattle.brackets.specs.Words.{is_sort, is_mark, is_spelled, is_word, kind_of}
use Rattle.brackets.specs.Parts.{str, ref, no_ref, no_operand, operand_at, set_at}
use Rattle.brackets.specs.declared.Str.{Str}
use Rattle.brackets.specs.declared.Ref.{Ref}
use Rattle.brackets.specs.declared.Operand.{Operand}
use Rattle.form.specs.declared.Point.{Point}
use Rattle.form.specs.declared.Label.{Label}
use Rattle.form.specs.declared.Label.TheVariants.{Named, Indexed}
use Rattle.form.specs.declared.Payload.{Payload}
use Rattle.form.specs.declared.Payload.TheVariants as payload
use Rattle.form.specs.declared.Decl.{Decl}
use Rattle.form.specs.declared.Decl.TheVariants as decl

-- 7: "token not allowed there"
abbrev pub only : (Token → Bool) → Took Token → Took Token
only p (Ok (t, r)) = pick (p t) (Ok (t, r)) (Err (refusal 7 t.place))
only p (Err g) = Err g

-- the mark that must stand next
abbrev pub mark_at : List ℕ → ℕ → ℕ → Took Token
mark_at text b k = only (is_mark b) (token_at text k)

abbrev pub sort_at : List ℕ → ℕ → ℕ → Took Token
sort_at text sort k = only (is_sort sort) (token_at text k)

-- Document 01, Text: "LF ends a declaration"
abbrev pub ended : List ℕ → Token → Decl → ℕ → Form
ended text t d k = after (sort_at text line_end k) (λ e k'. Ok (Some (record { place = t.place; index = t.value; decl = d }, record { next = at k' })))

-- 001, Metadata sets: `{ !<ref> !<ref>... }`
unfoldable pub set_form : List ℕ → Token → ℕ → Form
set_form text t k = after (set_at text k) (λ n k'. ended text t (decl.Set (record { at = k; count = n })) k')

-- 001, Source metadata: a number of `(#<line> #<column>)`
abbrev pub inside_number : List ℕ → ℕ → Took Token
inside_number text k = only (is_sort number) (inside_at text k)

abbrev pub closed_point : Point → Took Token → Took Point
closed_point p s = after s (λ _ k. Ok (p, record { next = at k }))

unfoldable pub point_at : List ℕ → ℕ → Took Point
point_at text k =
    after (mark_at text 40 k) (λ _ k1.
    after (inside_number text k1) (λ l k2.
    after (inside_number text k2) (λ c k3.
    closed_point (record { line = l.value; column = c.value }) (only (is_mark 41) (inside_at text k3)))))

-- 001, Source metadata: `source "<file>" (#<start-line> #<start-col>) (#<end-line> #<end-col>)`
unfoldable pub source_form : List ℕ → Token → ℕ → Form
source_form text t k =
    after (sort_at text string k) (λ file k1.
    after (point_at text k1) (λ first k2.
    after (point_at text k2) (λ last k3.
    ended text t (decl.Source (str file) (record { first = first; last = last })) k3)))

-- a reference that must stand next
abbrev pub link_of : Took Token → Took Ref
link_of s = after s (λ t k. Ok (ref t, record { next = at k }))

abbrev pub link_from : List ℕ → Took Token → Took Ref
link_from text s = after s (λ _ k. link_of (sort_at text meta k))

-- `=!m` behind an option's word
unfoldable pub link_at : List ℕ → ℕ → Took Ref
link_at text k = link_from text (mark_at text 61 k)

abbrev pub option_from : List ℕ → List ℕ → ℕ → Took Token → Took Ref
option_from text w k s = after s (λ t k'. pick (is_spelled text w t) (link_at text k') (Ok (no_ref, record { next = at k })))

-- an option that may be left out
unfoldable pub option_at : List ℕ → List ℕ → ℕ → Took Ref
option_at text w k = option_from text w k (token_at text k)

-- a scope's own name
abbrev pub is_label : Token → Bool
is_label n = is_sort string n || is_sort number n

abbrev pub label_of : Token → Label
label_of n = pick (is_sort string n) (Named (str n)) (Indexed n.value)

-- Document 01, Metadata: "`in=` names a scope, `src=` a source, in that order"; both optional
unfoldable pub scope_form : List ℕ → Token → ℕ → Form
scope_form text t k =
    after (only is_label (token_at text k)) (λ n k1.
    after (option_at text (bytes "in") k1) (λ inside k2.
    after (option_at text (bytes "src") k2) (λ source k3.
    ended text t (decl.Scope (label_of n) inside source) k3)))

-- 001, Identifier metadata: `ident "<name>" in=!<scope>`; 001 calls only a scope's parent optional
unfoldable pub ident_form : List ℕ → Token → ℕ → Form
ident_form text t k =
    after (sort_at text string k) (λ n k1.
    after (only (is_word text "in") (token_at text k1)) (λ _ k2.
    after (link_at text k2) (λ inside k3.
    ended text t (decl.Ident (str n) inside) k3)))

abbrev pub is_alone : Token → Bool
is_alone p = is_sort constant p && eqb p.parts 0

-- 001, Attribute metadata: a constant alone, a number or a string
abbrev pub is_payload : Token → Bool
is_payload p = is_alone p || (is_sort number p || is_sort string p)

abbrev pub payload_of : Token → Payload
payload_of p = pick (is_sort constant p) (payload.Bits (str p)) (pick (is_sort number p) (payload.Integer p.value) (payload.Text (str p)))

unfoldable pub attr_form : List ℕ → Token → ℕ → Form
attr_form text t k =
    after (sort_at text string k) (λ n k1.
    after (only is_payload (token_at text k1)) (λ p k2.
    ended text t (decl.Attr (str n) (payload_of p)) k2))

-- 8: "unknown word (for that identifier) in the keyword's place"; what is no word there is 7
abbrev pub no_keyword : Token → Form
no_keyword w = Err (refusal (pick (is_sort word w) 8 7) w.place)

unfoldable pub meta_form : List ℕ → Token → Token → ℕ → Form
meta_form text t w k =
    pick (is_mark 123 w) (set_form text t k)
    (pick (is_word text "source" w) (source_form text t k)
    (pick (is_word text "scope" w) (scope_form text t k)
    (pick (is_word text "ident" w) (ident_form text t k)
    (pick (is_word text "attr" w) (attr_form text t k)
    (no_keyword w)))))

-- Document 01, I/O: `&"name":w = io`
unfoldable pub io_form : List ℕ → Token → Token → ℕ → Form
io_form text t w k = pick (is_word text "io" w) (ended text t (decl.Io (str t) t.width) k) (no_keyword w)

-- an operand that the keyword may not have
unfoldable pub operand_if : Bool → List ℕ → ℕ → Took Operand
operand_if given text k = elim given [ true ↦ operand_at text k | false ↦ Ok (no_operand, record { next = at k }) ]

abbrev pub meta_from : ℕ → Took Token → Took Ref
meta_from k s = after s (λ t k'. pick (is_sort meta t) (Ok (ref t, record { next = at k' })) (Ok (no_ref, record { next = at k })))

-- Document 01, Cells: "one optional `!m` of any kind at the end"
unfoldable pub meta_if : List ℕ → ℕ → Took Ref
meta_if text k = meta_from k (token_at text k)

unfoldable pub wiring_form : List ℕ → Token → ℕ → Str → ℕ → Form
wiring_form text t kind name k =
    after (operand_if (leb 1 (kind_at kind).operands) text k) (λ a k1.
    after (operand_if (leb 2 (kind_at kind).operands) text k1) (λ b k2.
    after (operand_if (leb 3 (kind_at kind).operands) text k2) (λ c k3.
    after (meta_if text k3) (λ m k4.
    ended text t (decl.Cell (record { kind = kind; width = t.width; name = name; a = a; b = b; c = c; meta = m })) k4))))

unfoldable pub named_form : List ℕ → Token → ℕ → ℕ → Form
named_form text t kind k = after (sort_at text string k) (λ n k1. wiring_form text t kind (str n) k1)

-- Document 01, Cells: "Declared as `%n:w = keyword ..`"
unfoldable pub cell_form : List ℕ → Token → Token → ℕ → Form
cell_form text t w k =
    pick (eqb (kind_of text w) 0) (no_keyword w)
    (pick (kind_at (kind_of text w)).named (named_form text t (kind_of text w) k)
    (wiring_form text t (kind_of text w) (record { from = 0; size = 0 }) k))

-- `%n:w` and `&"s":w` open a declaration only with `:w` and nothing else
abbrev pub opens : ℕ → Token → Bool
opens sort t = is_sort sort t && eqb t.parts 2

unfoldable pub body_form : List ℕ → Token → ℕ → Form
body_form text t k =
    after (mark_at text 61 k) (λ _ k1.
    after (token_at text k1) (λ w k2.
    pick (is_sort meta t) (meta_form text t w k2)
    (pick (is_sort io t) (io_form text t w k2)
    (cell_form text t w k2))))

abbrev pub is_opening : Token → Bool
is_opening t = is_sort meta t || (opens io t || opens cell t)

-- 8: "`set` opening a declaration, a placeholder"; any other token that opens none is 7
abbrev pub no_opening : List ℕ → Token → ℕ
no_opening text t = pick (is_sort placeholder t || is_word text "set" t) 8 7

unfoldable pub open_form : List ℕ → Token → ℕ → Form
open_form text t k =
    pick (is_sort text_end t) (Ok None)
    (pick (is_opening t) (body_form text t k)
    (Err (refusal (no_opening text t) t.place)))

-- THE DECLARATION from the place on. 001, General structure: `<ident> = <keyword> <operand>...`
unfoldable pub form_at : List ℕ → ℕ → Form
form_at text k = after (inside_at text k) (λ t k1. open_form text t k1)

-- THE ANSWER for a text of any length. 2: "text too long", at 65,536
unfoldable pub form_of : List ℕ → ℕ → Form
form_of text k = pick (ltb 65536 (length text)) (Err (refusal 2 (at 65536))) (form_at text k)
