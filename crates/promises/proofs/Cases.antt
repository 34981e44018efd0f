-- The decisions on reading, computed: each example of docs/DECISIONS.md with its answer; texts that are not ASCII stand last.
use Prim.Native.Nat.{ℕ}
use Prim.Native.String.{String}
use mathlib.Core.Path.{◌≡◌, refl}
use mathlib.Core.List.{List, [], ◌∷◌, map}
use Rattle.ground.specs.Lists.{every, all_of, total, joined, up_from, updated}
use Rattle.ground.specs.Regions.{zeros, blank, fits, pad, over, part}
use Rattle.ground.specs.Text.{bytes, same}
use Rattle.kinds.specs.Kinds.{kind_at}
use Rattle.signs.specs.Bytes.{class_from, class_of, classes_from, table}
use Rattle.scanning.specs.Whole.{tail_of, bad_from, ends_in_feed, whole_of}
use Rattle.signs.specs.Pieces.{span_end, comment_end, inside_end, digits_from, numeral_at, suffix_at, string_from, quoted_at}
use Rattle.lexis.specs.Tokens.{meta_of, number_of, constant_of, cell_of, io_of, word_of, long_of, follows, token_from, token_at, inside_at}
use Rattle.brackets.specs.Words.{numbered}
use Rattle.brackets.specs.Parts.{next_part, concat_from, operand_at, parts_from, parts_at, next_member, set_from, members_from}
use Rattle.form.specs.Forms.{set_form, point_at, source_form, link_at, option_at, scope_form, ident_form, attr_form, meta_form, io_form, operand_if, meta_if, wiring_form, named_form, cell_form, body_form, open_form, form_at, form_of}
use Rattle.netlist.specs.Runs.{falling, known_bits, cut, longest}
use Rattle.netlist.specs.Rules.{taken, distinct, names_as, roomy, metas_sound, valid}
use Rattle.saying.specs.Values.{row_from, copies, operand_runs}
use Rattle.saying.specs.Pieces.{operand_pieces, first_unresolved}
use Rattle.saying.specs.Rules.{said_by, added, first_misnamed, ruled_out}
use Rattle.declaring.specs.Reading.{declarations_from, netlist_of, read_sound, reading}
use Rattle.declaring.specs.Reading.{Reading, says, refused}

pub data Answer : Type 0 where
  accepted : Answer
  refused_at : ℕ → ℕ → Answer

pub record Case : Type 0 where
  pub text : List ℕ
  pub answer : Answer

abbrev pub case : String → Answer → Case
case t a = record { text = bytes t; answer = a }

-- a text that is not ASCII
abbrev pub raw : List ℕ → Answer → Case
raw t a = record { text = t; answer = a }

abbrev pub answer_of : Reading → Answer
answer_of (says N) = accepted
answer_of (refused g) = refused_at g.number g.place.at

abbrev pub cases : List Case
cases =
    case "%0:_ = buf 1\n" (refused_at 8 0)
    ∷ case "%0:1 = buf %0:_\n" (refused_at 8 11)
    ∷ case "%0:1 = buf 1 %0:_\n" (refused_at 7 13)
    ∷ case "!0 = attr \"a\" %0:_\n" (refused_at 7 14)
    ∷ case "%0:1 = buf 12\n" (refused_at 5 12)
    ∷ case "%0:1 = buf %0:1+2\n" (refused_at 5 15)
    ∷ case "%0:1 = buf %0*2*3\n" (refused_at 5 15)
    ∷ case "%0:1 = inPut \"a\"\n" (refused_at 8 7)
    ∷ case "!0 = scope #1.5\n" (refused_at 5 13)
    ∷ case "&\"a\":1+2 = io\n" (refused_at 5 6)
    ∷ case "&\"a\"+1:2 = io\n" (refused_at 7 0)
    ∷ case "&_+3 = io\n" (refused_at 7 0)
    ∷ case "%0:1 = X2\n" (refused_at 7 7)
    ∷ case "%0:_* = buf 1\n" (refused_at 8 0)
    ∷ case "%0:_*65536 = buf 1\n" (refused_at 8 0)
    ∷ case "%0+1:_ = buf 1\n" (refused_at 5 0)
    ∷ case "%65536:_ = buf 1\n" (refused_at 6 0)
    ∷ case "%0:1 = buf [1\n" (refused_at 7 14)
    ∷ case "%0:1 = buf [1 ; ]\n" (refused_at 7 18)
    ∷ case "%0:1 = buf [1\n%1:1 = buf 0\n" (refused_at 7 19)
    ∷ case "%0:1 = buf [1)\n" (refused_at 7 13)
    ∷ case "%0 = buf 1\n" (refused_at 7 0)
    ∷ case "%0+0:1 = buf 1\n" (refused_at 7 0)
    ∷ case "%0:1*1 = buf 1\n" (refused_at 7 0)
    ∷ case "&\"a\" = io\n" (refused_at 7 0)
    ∷ case "&_:4 = io\n" (refused_at 7 0)
    ∷ case "&\"\":1 = io\n" (refused_at 11 0)
    ∷ case "&\"\":1 = io 1\n" (refused_at 7 11)
    ∷ case "&\"\" = io\n" (refused_at 7 0)
    ∷ case "%0:1 = buf &\"\"\n" (refused_at 7 11)
    ∷ case "\n \t%0:2 = buf 1\n" (refused_at 12 3)
    ∷ case "!0 = scope #0 in = !8 src=!9\n" (refused_at 10 19)
    ∷ case "!0 = {!1 !2}\n" (refused_at 10 6)
    ∷ case "buf 1\n" (refused_at 7 0)
    ∷ case "settle\n" (refused_at 7 0)
    ∷ case "%0:1 = buf 1\nset target \"x\"\n" (refused_at 8 13)
    ∷ case "%0:1 = io\n" (refused_at 8 7)
    ∷ case "!0 = input \"a\"\n" (refused_at 8 5)
    ∷ case "%0:1 = \"buf\" 1\n" (refused_at 7 7)
    ∷ case "!0 = scope \"a\" foo=!1\n" (refused_at 7 15)
    ∷ case "%0:1 = dff 1\n" (refused_at 8 7)
    ∷ case "%65536+ = buf 1\n" (refused_at 5 0)
    ∷ case "%0:1 = buf 1\"a\"\n" (refused_at 5 12)
    ∷ case "%0:1 = buf 1#99999999999\n" (refused_at 5 12)
    ∷ case "&\"a\"+65536 = io\n" (refused_at 6 0)
    ∷ case "%65536 = buf 1\n" (refused_at 6 0)
    ∷ case "%0:1 = input \"a\n" (refused_at 5 13)
    ∷ case "%0:1 = input \"a\r\n" (refused_at 5 13)
    ∷ case "%0:1 = input \"a;b\"\n" accepted
    ∷ case "&\"a\n" (refused_at 5 0)
    ∷ case "&\"\\q\":1 = io\n" (refused_at 5 0)
    ∷ case "!0 = ident \"a\"\n" (refused_at 7 14)
    ∷ case "!0 = scope \"s\"\n!1 = ident \"a\" in=!0 src=!0\n" (refused_at 7 36)
    ∷ case "!0 = attr \"a\" X*4\n" (refused_at 7 14)
    ∷ case "!0 = attr \"a\" [1]\n" (refused_at 7 14)
    ∷ case "%0:1 = foo $\n" (refused_at 8 7)
    ∷ case "foo\"\n" (refused_at 7 0)
    ∷ case "%0:1 = buf 1 1 $\n" (refused_at 7 13)
    ∷ case "set$\n" (refused_at 8 0)
    ∷ case "%0:1 = buf 1;c\n" accepted
    ∷ case "%0:1=mux[1][0][X]\n" accepted
    ∷ case "%0:2 = buf [1;c\n0]\n" accepted
    ∷ case "%0:1 = buf[1]%0\n" (refused_at 7 13)
    ∷ case "!1 = scope #0\n!0 = scope #0 in\t= !1\n" accepted
    ∷ case "!1 = scope #0\n!0 = scope #0 in=\n!1\n" (refused_at 7 31)
    ∷ case "%0:1 = buf  \r\n" (refused_at 7 12)
    ∷ case "%0:1 = buf ;x\n" (refused_at 7 11)
    ∷ case "!0 = {!1,!2}\n" (refused_at 7 8)
    ∷ case "%0:1 = buf [[1]]\n" (refused_at 7 12)
    ∷ case "%0:1 = bufX\n" (refused_at 5 10)
    ∷ case "%0:1 = Buf 1\n" (refused_at 5 7)
    ∷ case "%0:1 = buf x\n" (refused_at 7 11)
    ∷ case "Xbuf\n" (refused_at 7 0)
    ∷ case "%0:1 = buf [%0:65535*65535 %0:65535*65535]\n" (refused_at 12 0)
    ∷ case "%0:1 = buf [1 %0+65535:65535*0]\n" (refused_at 14 14)
    ∷ case "%0:1 = buf [1 %0:65536*0]\n" (refused_at 6 14)
    ∷ case "%0:0 = output \"y\" []\n" (refused_at 12 0)
    ∷ case "%0:0 = output \"y\" %9:0\n" (refused_at 12 0)
    ∷ case "%0:0 = output \"y\" X*0\n" (refused_at 12 0)
    ∷ case "!0 = source \"f\" (#-0 #-0) (#0 #0)\n" accepted
    ∷ case "%0:1 = buf %00000000000000000000000+0:01*001\n" accepted
    ∷ case "!0 = scope #-2147483649\n" (refused_at 6 11)
    ∷ case "&\"a\":0 = io\n" (refused_at 12 0)
    ∷ case "%0:65535 = input \"a\"\n" (refused_at 12 0)
    ∷ case "%0:257 = adc X*256 X*256 0\n" (refused_at 12 0)
    ∷ case "%0:2 = buf 1\n$\n" (refused_at 12 0)
    ∷ case "%0:2 = buf 1 $\n" (refused_at 5 13)
    ∷ case "%0:1 = buf %9\n%0:1 = buf 1\n" (refused_at 9 14)
    ∷ case "%0:2 = buf [%0+1 %7:0*5 %00+0]\n" (refused_at 14 17)
    ∷ case "%0:1 = input \"a\"\n%1:0 = output \"a\" %0\n&\"a\":1 = io\n!0 = scope \"a\"\n!1 = scope \"a\"\n" accepted
    ∷ case "&\"a\":1 = io\n&\"\\61\":1 = io\n" (refused_at 9 12)
    ∷ case "%1:1 = buf 1\n%01:1 = buf 1\n" (refused_at 9 13)
    ∷ case "!0 = scope #0\n!1 = {!0 !0}\n" accepted
    ∷ case "!0 = scope #0\n!1 = {!0}\n" (refused_at 11 14)
    ∷ case "!0 = {}\n" (refused_at 11 0)
    ∷ case "!1 = {!0}\n" (refused_at 10 6)
    ∷ case "!0 = scope #0 in=!0\n" (refused_at 10 17)
    ∷ case "%0:1 = buf 1 !0\n!0 = scope #0\n" (refused_at 10 13)
    ∷ case "%0:0 = output \"y\" [%0:0 1]\n" accepted
    ∷ case "%0:0 = output \"y\" [1 %0+1:0]\n" (refused_at 14 21)
    ∷ case "%0:0 = output \"y\" 1\n%1:1 = buf %0\n" (refused_at 14 31)
    ∷ case "!0 = source \"f\" (#1 #9) (#2 #0)\n" accepted
    ∷ case "!0 = source \"f\" (#1 #9) (#1 #8)\n" (refused_at 11 0)
    ∷ case "!0 = source \"f\" (#1 #-1) (#2 #0)\n" (refused_at 11 0)
    ∷ case "%0:1 = input \"\\00\"\n" accepted
    ∷ case "!0 = attr \"a\" \"\"\n" accepted
    ∷ case "!0 = attr \"\" \"a\"\n" (refused_at 11 0)
    ∷ case "\n\r" (refused_at 3 1)
    ∷ case "$ " (refused_at 4 2)
    ∷ case ";\0\u{1}\u{7f}\u{b}\n" accepted
    ∷ case " \t\n;x\r\n\r\n" accepted
    ∷ case "\u{c}\n" (refused_at 5 0)
    ∷ case "%0:1 = input \"\u{7f}\"\n" (refused_at 5 13)
    ∷ case "!0 = scope #0\n!1 = {!0 !0}\n!2 = {!0 !1}\n" (refused_at 10 36)
    ∷ case "%0:1 = buf [0]*1\n" (refused_at 5 14)
    ∷ case "!1*2 = scope #0\n" (refused_at 5 2)
    ∷ case "%0:1 = buf %1 + 0\n" (refused_at 5 14)
    ∷ case "!0 = scope #+1\n" (refused_at 5 11)
    ∷ case "%70000+ = buf 1\n" (refused_at 5 0)
    ∷ case "%0:1 = input\"a\"\n" (refused_at 5 12)
    ∷ case "%0:1 = buf [0]!1\n" (refused_at 10 14)
    ∷ case "!0 = scope \"s\"\n!1 = scope \"a\" in=!0src=!0\n" (refused_at 5 35)
    ∷ case "!0 = source \"f\" (#1\n#2) (#3 #4)\n" accepted
    ∷ case "!0 = source \"f\" (#1 #2)\n(#3 #4)\n" (refused_at 7 23)
    ∷ case "%0:1 = buf 1\n%0:2 = buf 1 !9\n" (refused_at 9 13)
    ∷ raw (59 ∷ 226 ∷ 130 ∷ 10 ∷ []) (refused_at 3 1)
    ∷ raw (59 ∷ 13 ∷ 255 ∷ 10 ∷ []) (refused_at 3 1)
    ∷ raw (59 ∷ 237 ∷ 160 ∷ 128 ∷ 10 ∷ []) (refused_at 3 1)
    ∷ raw (239 ∷ 187 ∷ 191 ∷ 10 ∷ []) (refused_at 5 0)
    ∷ raw (37 ∷ 48 ∷ 58 ∷ 49 ∷ 32 ∷ 61 ∷ 32 ∷ 105 ∷ 110 ∷ 112 ∷ 117 ∷ 116 ∷ 32 ∷ 34 ∷ 194 ∷ 128 ∷ 34 ∷ 10 ∷ []) accepted
    ∷ []

decided : map (λ (c : Case). answer_of (reading c.text)) cases ≡ map (λ (c : Case). c.answer) cases
unfolding every all_of total joined up_from updated zeros blank fits pad over part bytes same kind_at class_from class_of classes_from table tail_of bad_from ends_in_feed whole_of span_end comment_end inside_end digits_from numeral_at suffix_at string_from quoted_at meta_of number_of constant_of cell_of io_of word_of long_of follows token_from token_at inside_at numbered next_part concat_from operand_at parts_from parts_at next_member set_from members_from set_form point_at source_form link_at option_at scope_form ident_form attr_form meta_form io_form operand_if meta_if wiring_form named_form cell_form body_form open_form form_at form_of falling known_bits cut longest taken distinct names_as roomy metas_sound valid row_from copies operand_runs operand_pieces said_by added first_misnamed ruled_out declarations_from first_unresolved netlist_of read_sound reading
decided = refl
