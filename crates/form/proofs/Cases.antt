-- Declarations at the edges of their forms, computed: what is found, or the refusal with its place.
use Rattle.form.specs.Form.{Form}
use Rattle.std.specs.Prelude.{Ok, Err, Some, None}
use Prim.Native.Nat.{ℕ}
use Prim.Native.String.{String}
use mathlib.Core.Path.{◌≡◌, refl}
use mathlib.Core.List.{List, [], ◌∷◌, map}
use Rattle.ground.specs.Choice.{pick}
use Rattle.ground.specs.Text.{bytes, same}
use Rattle.kinds.specs.Kinds.{kind_at}
use Rattle.signs.specs.Bytes.{class_from, class_of}
use Rattle.signs.specs.Pieces.{span_end, comment_end, inside_end, digits_from, numeral_at, suffix_at, string_from, quoted_at}
use Rattle.lexis.specs.Tokens.{meta_of, number_of, constant_of, cell_of, io_of, word_of, long_of, follows, token_from, token_at, inside_at}
use Rattle.brackets.specs.Words.{numbered}
use Rattle.brackets.specs.Parts.{next_part, concat_from, operand_at, next_member, set_from}
use Rattle.form.specs.Forms.{set_form, point_at, source_form, link_at, option_at, scope_form, ident_form, attr_form, meta_form, io_form, operand_if, meta_if, wiring_form, named_form, cell_form, body_form, open_form, form_at, form_of}
use Rattle.form.specs.declared.Decl.{Decl}
use Rattle.form.specs.declared.Decl.TheVariants as decl
use Rattle.form.specs.declared.Payload.{Payload}
use Rattle.form.specs.declared.Payload.TheVariants as payload

pub data Answer : Type 0 where
  found : ℕ → List ℕ → ℕ → Answer
  refused_at : ℕ → ℕ → Answer
  over : Answer

abbrev payload_of : Payload → List ℕ
payload_of (payload.Bits s) = s.size ∷ []
payload_of (payload.Integer n) = n ∷ []
payload_of (payload.Text s) = s.size ∷ []

-- what the worked texts tell of a declaration
abbrev told : Decl → List ℕ
told (decl.Set m) = m.count ∷ []
told (decl.Source s r) = s.size ∷ r.first.line ∷ r.last.column ∷ []
told (decl.Scope l i s) = pick i.given i.index 99 ∷ pick s.given s.index 99 ∷ []
told (decl.Ident s i) = s.size ∷ i.index ∷ []
told (decl.Attr s p) = payload_of p
told (decl.Io s w) = s.size ∷ w ∷ []
told (decl.Cell w) = w.kind ∷ w.width ∷ w.a.width ∷ w.b.width ∷ w.c.width ∷ []

abbrev answer_of : Form → Answer
answer_of (Ok (Some (d, r))) = found d.index (told d.decl) r.next.at
answer_of (Err g) = refused_at g.number g.place.at
answer_of (Ok None) = over

pub record Case : Type 0 where
  pub text : String
  pub answer : Answer

abbrev case : String → Answer → Case
case t a = record { text = t; answer = a }

-- found: the index, what is told, and the place past the declaration
abbrev pub cases : List Case
cases =
    case "" over
    ∷ case "\n ; a comment\n" over
    ∷ case "!0 = {\n}\n" (found 0 (0 ∷ []) 9)
    ∷ case "!0 = { !1 !1 }\n" (found 0 (2 ∷ []) 15)
    ∷ case "!0 = { !1, !2 }\n" (refused_at 7 9)
    ∷ case "!1 = source \"f\" (#1 #2) (#3\n#-1)\n" (found 1 (1 ∷ 1 ∷ 4294967295 ∷ []) 33)
    ∷ case "!1 = source \"f\" (#1 #2)\n" (refused_at 7 23)
    ∷ case "!2 = scope \"a\" in=!0 src=!1\n" (found 2 (0 ∷ 1 ∷ []) 28)
    ∷ case "!2 = scope \"a\" src=!1 in=!0\n" (refused_at 7 22)
    ∷ case "!2 = scope #3\n" (found 2 (99 ∷ 99 ∷ []) 14)
    ∷ case "!3 = ident \"a\" in=!2\n" (found 3 (1 ∷ 2 ∷ []) 21)
    ∷ case "!3 = ident \"a\"\n" (refused_at 7 14)
    ∷ case "!4 = attr \"a\" 01\n" (found 4 (2 ∷ []) 17)
    ∷ case "!4 = attr \"a\" 01*2\n" (refused_at 7 14)
    ∷ case "&\"ab\":4 = io\n" (found 0 (2 ∷ 4 ∷ []) 13)
    ∷ case "&\"ab\" = io\n" (refused_at 7 0)
    ∷ case "%7:8 = input \"x\"\n" (found 7 (1 ∷ 8 ∷ 0 ∷ 0 ∷ 0 ∷ []) 17)
    ∷ case "%0:9 = adc %1:8 [%2+3:4 10] X*1 !5\n" (found 0 (9 ∷ 9 ∷ 8 ∷ 6 ∷ 1 ∷ []) 35)
    ∷ case "%0:1 = buf [%1:65535*65535 0*65535]\n" (found 0 (3 ∷ 1 ∷ 4294901760 ∷ 0 ∷ 0 ∷ []) 36)
    ∷ case "%0:1 = buf [%1 [%2]]\n" (refused_at 7 15)
    ∷ case "%0:1 = buf %0:_\n" (refused_at 8 11)
    ∷ case "%0:1 = and 1\n" (refused_at 7 12)
    ∷ case "%0:1 = bus 1\n" (refused_at 8 7)
    ∷ case "%0:1 = {}\n" (refused_at 7 7)
    ∷ case "set = 1\n" (refused_at 8 0)
    ∷ []

decided : map (λ (c : Case). answer_of (form_of (bytes c.text) 0)) cases ≡ map (λ (c : Case). c.answer) cases
unfolding bytes same kind_at class_from class_of span_end comment_end inside_end digits_from numeral_at suffix_at string_from quoted_at meta_of number_of constant_of cell_of io_of word_of long_of follows token_from token_at inside_at numbered next_part concat_from operand_at next_member set_from set_form point_at source_form link_at option_at scope_form ident_form attr_form meta_form io_form operand_if meta_if wiring_form named_form cell_form body_form open_form form_at form_of
decided = refl
