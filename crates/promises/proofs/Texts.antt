-- Further texts at the edges of every rule, each with the answer that the documents give, computed.
use Prim.Native.Nat.{ℕ}
use Prim.Native.String.{String}
use mathlib.Core.Path.{◌≡◌, refl}
use mathlib.Core.List.{List, [], ◌∷◌, map}
use Rattle.ground.specs.Lists.{every, all_of, total, joined, up_from, updated}
use Rattle.ground.specs.Regions.{zeros, blank, fits, pad, over, part}
use Rattle.ground.specs.Text.{bytes, same}
use Rattle.kinds.specs.Kinds.{kind_at}
use Rattle.signs.specs.Bytes.{class_from, class_of, classes_from, table}
use Rattle.scanning.specs.Whole.{tail_of, bad_from, ends_in_feed, whole_of}
use Rattle.signs.specs.Pieces.{span_end, comment_end, inside_end, digits_from, numeral_at, suffix_at, string_from, quoted_at}
use Rattle.lexis.specs.Tokens.{meta_of, number_of, constant_of, cell_of, io_of, word_of, long_of, follows, token_from, token_at, inside_at}
use Rattle.brackets.specs.Words.{numbered}
use Rattle.brackets.specs.Parts.{next_part, concat_from, operand_at, parts_from, parts_at, next_member, set_from, members_from}
use Rattle.form.specs.Forms.{set_form, point_at, source_form, link_at, option_at, scope_form, ident_form, attr_form, meta_form, io_form, operand_if, meta_if, wiring_form, named_form, cell_form, body_form, open_form, form_at, form_of}
use Rattle.netlist.specs.Runs.{falling, known_bits, cut, longest}
use Rattle.netlist.specs.Rules.{taken, distinct, names_as, roomy, metas_sound, valid}
use Rattle.saying.specs.Values.{row_from, copies, operand_runs}
use Rattle.saying.specs.Pieces.{operand_pieces, first_unresolved}
use Rattle.saying.specs.Rules.{said_by, added, first_misnamed, ruled_out}
use Rattle.declaring.specs.Reading.{declarations_from, netlist_of, read_sound, reading}
use Rattle.promises.proofs.Cases.{Answer, accepted, refused_at, Case, case, raw, answer_of}

abbrev pub texts : List Case
texts =
    case "\r" (refused_at 3 0)
    ∷ case "\r\r\n" (refused_at 3 0)
    ∷ raw (59 ∷ 97 ∷ 128 ∷ 10 ∷ []) (refused_at 3 2)
    ∷ raw (192 ∷ 128 ∷ 10 ∷ []) (refused_at 3 0)
    ∷ raw (193 ∷ 191 ∷ 10 ∷ []) (refused_at 3 0)
    ∷ raw (59 ∷ 244 ∷ 144 ∷ 128 ∷ 128 ∷ 10 ∷ []) (refused_at 3 1)
    ∷ raw (59 ∷ 224 ∷ 159 ∷ 191 ∷ 10 ∷ []) (refused_at 3 1)
    ∷ raw (59 ∷ 240 ∷ 143 ∷ 191 ∷ 191 ∷ 10 ∷ []) (refused_at 3 1)
    ∷ raw (59 ∷ 245 ∷ 128 ∷ 128 ∷ 128 ∷ 10 ∷ []) (refused_at 3 1)
    ∷ raw (59 ∷ 194 ∷ 10 ∷ []) (refused_at 3 1)
    ∷ raw (59 ∷ 225 ∷ 128 ∷ 10 ∷ []) (refused_at 3 1)
    ∷ raw (59 ∷ 194 ∷ 128 ∷ 191 ∷ 10 ∷ []) (refused_at 3 3)
    ∷ raw (59 ∷ 241 ∷ 128 ∷ 128 ∷ 10 ∷ []) (refused_at 3 1)
    ∷ case "%0:1 = buf $\n\r" (refused_at 3 13)
    ∷ raw (59 ∷ 225 ∷ 128 ∷ 13 ∷ 10 ∷ []) (refused_at 3 1)
    ∷ raw (59 ∷ 244 ∷ 143 ∷ 191 ∷ 191 ∷ 10 ∷ []) accepted
    ∷ raw (59 ∷ 237 ∷ 159 ∷ 191 ∷ 238 ∷ 128 ∷ 128 ∷ 10 ∷ []) accepted
    ∷ raw (59 ∷ 224 ∷ 160 ∷ 128 ∷ 240 ∷ 144 ∷ 128 ∷ 128 ∷ 223 ∷ 191 ∷ 10 ∷ []) accepted
    ∷ case "\r\n" accepted
    ∷ case ";\n" accepted
    ∷ case " \n" accepted
    ∷ case "\t;\r\n" accepted
    ∷ case "%0:1 = buf 1" (refused_at 4 12)
    ∷ case ";a" (refused_at 4 2)
    ∷ case "\n " (refused_at 4 2)
    ∷ case ";\n;\r\n;" (refused_at 4 6)
    ∷ case "$\n" (refused_at 5 0)
    ∷ case ".\n" (refused_at 5 0)
    ∷ case "\u{b}\n" (refused_at 5 0)
    ∷ case "%0:1 = buf 1*\n" (refused_at 5 11)
    ∷ case "%0:1 = buf X*_\n" (refused_at 5 11)
    ∷ case "%0:1 = buf %0+\n" (refused_at 5 11)
    ∷ case "%0:1 = buf %0:\n" (refused_at 5 11)
    ∷ case "%0:1 = buf %0+1:\n" (refused_at 5 11)
    ∷ case "%0:1 = buf %0+:1\n" (refused_at 5 11)
    ∷ case "%0:1 = buf %\n" (refused_at 5 11)
    ∷ case "%0:1 = buf %:_\n" (refused_at 5 11)
    ∷ case "%0:1 = buf %+1\n" (refused_at 5 11)
    ∷ case "%0:1 = buf %0:1*\n" (refused_at 5 11)
    ∷ case "%0:1 = buf %0* 1\n" (refused_at 5 11)
    ∷ case "%0:1 = buf %0_\n" (refused_at 5 13)
    ∷ case "%0:1 = buf [$]\n" (refused_at 5 12)
    ∷ case "%0:1 = buf [1 *2]\n" (refused_at 5 14)
    ∷ case "!0 = scope #\n" (refused_at 5 11)
    ∷ case "!0 = scope #-\n" (refused_at 5 11)
    ∷ case "!0 = scope #--1\n" (refused_at 5 11)
    ∷ case "!0 = scope #1-\n" (refused_at 5 13)
    ∷ case "!\n" (refused_at 5 0)
    ∷ case "! 0 = scope #0\n" (refused_at 5 0)
    ∷ case "&\n" (refused_at 5 0)
    ∷ case "&a\n" (refused_at 5 0)
    ∷ case "&\":1 = io\n" (refused_at 5 0)
    ∷ case "&\"a\": = io\n" (refused_at 5 0)
    ∷ case "&\"a\"+ = io\n" (refused_at 5 0)
    ∷ case "&_: = io\n" (refused_at 5 0)
    ∷ case "& \"a\":1 = io\n" (refused_at 5 0)
    ∷ case "!0:1 = scope #0\n" (refused_at 5 2)
    ∷ case "%0:1 = buf %0*65536\n" (refused_at 6 11)
    ∷ case "%0:1 = buf %0+65536\n" (refused_at 6 11)
    ∷ case "%0:1 = buf 1*65536\n" (refused_at 6 11)
    ∷ case "%0:65536 = buf 1\n" (refused_at 6 0)
    ∷ case "!65536 = scope #0\n" (refused_at 6 0)
    ∷ case "!0 = scope #2147483648\n" (refused_at 6 11)
    ∷ case "!0 = scope #-0002147483649\n" (refused_at 6 11)
    ∷ case "&\"a\":65536 = io\n" (refused_at 6 0)
    ∷ case "&_:65536 = io\n" (refused_at 6 0)
    ∷ case "%0:1 = buf [%65536:_]\n" (refused_at 6 12)
    ∷ case "%0:1 = buf 1 !65536\n" (refused_at 6 13)
    ∷ case "%0:1 = buf %0 %99999999999999999999\n" (refused_at 6 14)
    ∷ case "!65535 = scope #2147483647\n!065534 = scope #-2147483648\n" accepted
    ∷ case "%65535:1 = buf 1\n%0:1 = buf %65535\n" accepted
    ∷ case "!0 = scope #-00\n" accepted
    ∷ case "]\n" (refused_at 7 0)
    ∷ case "=\n" (refused_at 7 0)
    ∷ case ",\n" (refused_at 7 0)
    ∷ case "1\n" (refused_at 7 0)
    ∷ case "\"a\"\n" (refused_at 7 0)
    ∷ case "#1\n" (refused_at 7 0)
    ∷ case "&_\n" (refused_at 7 0)
    ∷ case "&\"a\"+1 = io\n" (refused_at 7 0)
    ∷ case "%0*2 = buf 1\n" (refused_at 7 0)
    ∷ case "in\n" (refused_at 7 0)
    ∷ case "io\n" (refused_at 7 0)
    ∷ case "%0:1\n" (refused_at 7 4)
    ∷ case "%0:1 =\n" (refused_at 7 6)
    ∷ case "%0:1 = ;c\n" (refused_at 7 7)
    ∷ case "%0:1 buf 1\n" (refused_at 7 5)
    ∷ case "%0:1 %0:_\n" (refused_at 7 5)
    ∷ case "%0:1 = %0:_\n" (refused_at 7 7)
    ∷ case "%0:1 = =\n" (refused_at 7 7)
    ∷ case "&\"a\":1 = %0:_\n" (refused_at 7 9)
    ∷ case "&\"a\":1 = {\n" (refused_at 7 9)
    ∷ case "!0 = [\n" (refused_at 7 5)
    ∷ case "!0 = (\n" (refused_at 7 5)
    ∷ case "!0 = 1\n" (refused_at 7 5)
    ∷ case "!0 =\r\n" (refused_at 7 4)
    ∷ case "!0 = \n{}\n" (refused_at 7 5)
    ∷ case "%0:1 = set 1\n" (refused_at 8 7)
    ∷ case "%0:1 = instance \"a\"\n" (refused_at 8 7)
    ∷ case "!0 = io\n" (refused_at 8 5)
    ∷ case "!0 = set\n" (refused_at 8 5)
    ∷ case "&\"a\":1 = foo\n" (refused_at 8 9)
    ∷ case "&\"a\":1 = input \"a\"\n" (refused_at 8 9)
    ∷ case "\n\n set\n" (refused_at 8 3)
    ∷ case "!0 = sources \"f\"\n" (refused_at 8 5)
    ∷ case "%0:1 = bu 1\n" (refused_at 8 7)
    ∷ case "%0:1 = bufs 1\n" (refused_at 8 7)
    ∷ case "%1:_ = input \"a\"\n" (refused_at 8 0)
    ∷ case "%0:1 = and 1 %0:_\n" (refused_at 8 13)
    ∷ case "%0:1 = mux 1 [0 %0:_] 1\n" (refused_at 8 16)
    ∷ case "set\"\n" (refused_at 8 0)
    ∷ case "&\"a\":256 = io\n&\"b\":1=io;\n" accepted
    ∷ case "&\"a\":1 = io !0\n" (refused_at 7 12)
    ∷ case "&\"a\":1 = io 1\n" (refused_at 7 12)
    ∷ case "&\"a\":1 io\n" (refused_at 7 7)
    ∷ case "&\"a\":257 = io\n" (refused_at 12 0)
    ∷ case "&\"a\":65535 = io\n" (refused_at 12 0)
    ∷ case "&\"a\":1 = io\n&\"a\":0 = io\n" (refused_at 9 12)
    ∷ case "&\"\":0 = io\n" (refused_at 11 0)
    ∷ case "!1 = scope #1\n!2 = scope #2\n!3={!1 !2}\n%0:1 = buf 1 !3\n" accepted
    ∷ case "!1 = scope #1\n!2 = scope #2\n!3 = {\n!1\n!2 ;c }\r\n}\n" accepted
    ∷ case "!3={!1!2}\n" (refused_at 5 6)
    ∷ case "!0 = {!0 %0:_}\n" (refused_at 7 9)
    ∷ case "!0 = {[}\n" (refused_at 7 6)
    ∷ case "!0 = {!0 )\n" (refused_at 7 9)
    ∷ case "!0 = {!0 !0\n" (refused_at 7 12)
    ∷ case "!0 = {!0} !1\n" (refused_at 7 10)
    ∷ case "!0 = {#1}\n" (refused_at 7 6)
    ∷ case "!0 = scope #0\n!1 = {!0 !1}\n" (refused_at 10 23)
    ∷ case "!0 = scope #0\n!1 = {!0 !0 !7 !8}\n" (refused_at 10 26)
    ∷ case "!0 = scope #0\n!5 = {!0 !0}\n!6 = {!5}\n" (refused_at 10 33)
    ∷ case "!0 = source (#1 #2) (#3 #4)\n" (refused_at 7 12)
    ∷ case "!0 = source \"f\" #1 #2\n" (refused_at 7 16)
    ∷ case "!0 = source \"f\" (#1 #2 #3) (#4 #5)\n" (refused_at 7 23)
    ∷ case "!0 = source \"f\" (#1) (#2 #3)\n" (refused_at 7 19)
    ∷ case "!0 = source \"f\" (#1, #2) (#3 #4)\n" (refused_at 7 19)
    ∷ case "!0 = source \"f\" (#1 1) (#2 #3)\n" (refused_at 7 20)
    ∷ case "!0 = source \"f\" (#1 #2)\n" (refused_at 7 23)
    ∷ case "!0 = source \"f\" (#1 #2) (#3 #4) in=!0\n" (refused_at 7 32)
    ∷ case "!0 = source \"f\" (#1 #2) (#3 #4\n" (refused_at 7 31)
    ∷ case "!0 = source \"f\"\n(#1 #2) (#3 #4)\n" (refused_at 7 15)
    ∷ case "!0 = source \"f\" (#1 #2] (#3 #4)\n" (refused_at 7 22)
    ∷ case "!0 = source \"f\" (#1#2) (#3 #4)\n" (refused_at 5 19)
    ∷ case "!0 = source\"f\" (#1 #2) (#3 #4)\n" (refused_at 5 11)
    ∷ case "!0 = source \"f\"(#1 #2)(#3 #4)\n" accepted
    ∷ case "!0 = source \"f\" ( #1 ;c)\n #2 ) ( #3\r\n#4\n)\n" accepted
    ∷ case "!0 = source \"f\" (#5 #6) (#5 #6)\n" accepted
    ∷ case "!0 = source \"f\" (#2147483647 #2147483647) (#2147483647 #2147483647)\n" accepted
    ∷ case "!0 = source \"\" (#0 #0) (#0 #0)\n" (refused_at 11 0)
    ∷ case "!0 = source \"f\" (#2 #0) (#1 #9)\n" (refused_at 11 0)
    ∷ case "!0 = source \"f\" (#-2147483648 #0) (#1 #9)\n" (refused_at 11 0)
    ∷ case "!0 = source \"f\" (#0 #0) (#0 #-1)\n" (refused_at 11 0)
    ∷ case "!0 = source \"f\" (#0 #0) (#-1 #0)\n" (refused_at 11 0)
    ∷ case "!0 = scope in=!0\n" (refused_at 7 11)
    ∷ case "!0 = scope\n" (refused_at 7 10)
    ∷ case "!0 = scope \"a\" src\n" (refused_at 7 18)
    ∷ case "!0 = scope \"a\" src=1\n" (refused_at 7 19)
    ∷ case "!0 = scope \"a\" src=!0 in=!0\n" (refused_at 7 22)
    ∷ case "!0 = scope \"a\" in=!0 in=!0\n" (refused_at 7 21)
    ∷ case "!0 = scope \"a\" in=!0 src=!0 !0\n" (refused_at 7 28)
    ∷ case "!0 = scope \"a\" inn=!0\n" (refused_at 7 15)
    ∷ case "!0 = scope \"a\" in !0\n" (refused_at 7 18)
    ∷ case "!0 = scope 1\n" (refused_at 7 11)
    ∷ case "!0 = scope \"a\" #1\n" (refused_at 7 15)
    ∷ case "!0 = ident #1 in=!0\n" (refused_at 7 11)
    ∷ case "!0 = ident \"a\" src=!0\n" (refused_at 7 15)
    ∷ case "!0 = ident \"a\" in=!0 in=!0\n" (refused_at 7 21)
    ∷ case "!0 = attr #1 \"a\"\n" (refused_at 7 10)
    ∷ case "!0 = attr \"a\"\n" (refused_at 7 13)
    ∷ case "!0 = attr \"a\" !0\n" (refused_at 7 14)
    ∷ case "!0 = attr \"a\" x\n" (refused_at 7 14)
    ∷ case "!0 = attr \"a\" &\"a\"\n" (refused_at 7 14)
    ∷ case "!0 = attr \"a\" X*0\n" (refused_at 7 14)
    ∷ case "!0 = attr \"a\" #1 #2\n" (refused_at 7 17)
    ∷ case "!0 = scope \"a\"in=!0\n" (refused_at 5 14)
    ∷ case "!0 = scope #1in=!0\n" (refused_at 5 13)
    ∷ case "!0 = attr \"a\" #1*2\n" (refused_at 5 16)
    ∷ case "!0 = attr \"a\" 12\n" (refused_at 5 15)
    ∷ case "!0 = attr \"a\"\"b\"\n" (refused_at 5 13)
    ∷ case "!1=scope#0\n" (refused_at 5 8)
    ∷ case "!0 = attr \"a\" \"\\gg\"\n" (refused_at 5 14)
    ∷ case "!0 = source \"f\" (#0 #0) (#0 #0)\n!1 = scope \"a\" in=!0\n" (refused_at 10 50)
    ∷ case "!0 = scope \"a\"\n!1 = scope \"b\" in=!0 src=!0\n" (refused_at 10 40)
    ∷ case "!0 = scope \"a\"\n!1 = ident \"b\" in=!0\n!2 = ident \"c\" in=!1\n" (refused_at 10 54)
    ∷ case "!0 = ident \"\" in=!5\n" (refused_at 10 17)
    ∷ case "!0 = scope \"\" src=!1\n" (refused_at 10 18)
    ∷ case "!0 = scope #0\n!1 = {!0 !0}\n!2 = scope #0 in=!1\n" (refused_at 10 44)
    ∷ case "!7 = source \"f\" (#0 #0) (#0 #0)\n!1 = scope \"a\" src=!7\n!2 = scope #7 in=!1 src=!7\n!3 = ident \"x\" in=!2\n!4 = attr \"a\" 01X\n!5 = attr \"b\" #-5\n!6 = attr \"c\" \"\\00\"\n!8 = {!7 !1 !3 !4 !5 !6}\n%0:1 = buf 1 !4\n" accepted
    ∷ case "!0 = scope \"\"\n" (refused_at 11 0)
    ∷ case "!0 = scope #0\n!1 = ident \"\" in=!0\n" (refused_at 11 14)
    ∷ case "!0 = attr \"\" 1\n" (refused_at 11 0)
    ∷ case "%0:1 = input \"\"\n" (refused_at 11 0)
    ∷ case "%0:0 = output \"\" 1\n" (refused_at 11 0)
    ∷ case "%0:300 = input \"\"\n" (refused_at 11 0)
    ∷ case "!0 = attr \"\" 00000000000000000000000000000000000000000000000000000000000000000000000000000000000000000000000000000000000000000000000000000000000000000000000000000000000000000000000000000000000000000000000000000000000000000000000000000000000000000000000000000000000000000\n" (refused_at 11 0)
    ∷ case "!0 = attr \"a\" 00000000000000000000000000000000000000000000000000000000000000000000000000000000000000000000000000000000000000000000000000000000000000000000000000000000000000000000000000000000000000000000000000000000000000000000000000000000000000000000000000000000000000000\n" (refused_at 12 0)
    ∷ case "!0 = attr \"a\" XXXXXXXXXXXXXXXXXXXXXXXXXXXXXXXXXXXXXXXXXXXXXXXXXXXXXXXXXXXXXXXXXXXXXXXXXXXXXXXXXXXXXXXXXXXXXXXXXXXXXXXXXXXXXXXXXXXXXXXXXXXXXXXXXXXXXXXXXXXXXXXXXXXXXXXXXXXXXXXXXXXXXXXXXXXXXXXXXXXXXXXXXXXXXXXXXXXXXXXXXXXXXXXXXXXXXXXXXXXXXXXXXXXXXXXXXXXXXXXXXXXXXXXXXXXXXXXX\n" accepted
    ∷ case "!1 = scope #0\n!01 = {!9}\n" (refused_at 9 14)
    ∷ case "%0:1 = buf 1\n%0:1 = input \"\"\n" (refused_at 9 13)
    ∷ case "%0:1 = input \"a\"\n%1:300 = input \"a\" !5\n" (refused_at 9 17)
    ∷ case "%0:0 = output \"a\" 1\n%1:0 = output \"\\61\" 1\n" (refused_at 9 20)
    ∷ case "%0:2 = not 1X\n" accepted
    ∷ case "%0:2 = and 11 0X\n" accepted
    ∷ case "%0:2 = or 11 0X\n" accepted
    ∷ case "%0:2 = xor 11 [0 X]\n" accepted
    ∷ case "%0:2 = mux X 11 00\n" accepted
    ∷ case "%0:2 = adc 1 0 X\n" accepted
    ∷ case "%0:256 = adc X*255 0*255 1\n" accepted
    ∷ case "%0:1 = eq X*256 0*256\n" accepted
    ∷ case "%0:1 = ult 1 0\n" accepted
    ∷ case "%0:1 = slt 0*256 1*256\n" accepted
    ∷ case "%0:0 = output \"y\" X*256\n" accepted
    ∷ case "%0:1 = buf [1 %0:0]\n" accepted
    ∷ case "%0:256 = buf [%0:128*2]\n" accepted
    ∷ case "%0:3 = buf [1*3 X*0 %0:0*9 %0+3:0]\n" accepted
    ∷ case "%0:1=and[1][0]\n" accepted
    ∷ case "%0:1 = and 1[0]\n" accepted
    ∷ case "%0:1\t=\tbuf\t1\t\n" accepted
    ∷ case "%0:2 = not 1\n" (refused_at 12 0)
    ∷ case "%0:1 = and 1 11\n" (refused_at 12 0)
    ∷ case "%0:2 = or 1 1\n" (refused_at 12 0)
    ∷ case "%0:1 = xor 1 []\n" (refused_at 12 0)
    ∷ case "%0:1 = mux 11 1 0\n" (refused_at 12 0)
    ∷ case "%0:1 = mux 1 1 00\n" (refused_at 12 0)
    ∷ case "%0:1 = mux 1 00 1\n" (refused_at 12 0)
    ∷ case "%0:1 = adc 1 0 X\n" (refused_at 12 0)
    ∷ case "%0:2 = adc 1 0 11\n" (refused_at 12 0)
    ∷ case "%0:2 = adc 1 00 1\n" (refused_at 12 0)
    ∷ case "%0:256 = adc X*256 X*256 1\n" (refused_at 12 0)
    ∷ case "%0:1 = adc [] [] 1\n" (refused_at 12 0)
    ∷ case "%0:1 = eq X*257 X*257\n" (refused_at 12 0)
    ∷ case "%0:2 = eq 1 1\n" (refused_at 12 0)
    ∷ case "%0:1 = eq 1 11\n" (refused_at 12 0)
    ∷ case "%0:0 = ult 1 1\n" (refused_at 12 0)
    ∷ case "%0:1 = ult [] []\n" (refused_at 12 0)
    ∷ case "%0:1 = slt 1 11\n" (refused_at 12 0)
    ∷ case "%0:1 = output \"y\" 1\n" (refused_at 12 0)
    ∷ case "%0:0 = output \"y\" X*257\n" (refused_at 12 0)
    ∷ case "%0:0 = buf []\n" (refused_at 12 0)
    ∷ case "%0:0 = input \"a\"\n" (refused_at 12 0)
    ∷ case "%0:257 = buf X*257\n" (refused_at 12 0)
    ∷ case "%0:1 = and 1\n" (refused_at 7 12)
    ∷ case "%0:1 = and 1 ;x\n" (refused_at 7 13)
    ∷ case "%0:2 = mux 1 1 !0\n" (refused_at 7 15)
    ∷ case "%0:1 = buf !0\n" (refused_at 7 11)
    ∷ case "%0:1 = buf \"a\"\n" (refused_at 7 11)
    ∷ case "%0:1 = buf 1 =\n" (refused_at 7 13)
    ∷ case "%0:1 = buf 1 !0 !0\n" (refused_at 7 16)
    ∷ case "%0:1 = buf 1 [0]\n" (refused_at 7 13)
    ∷ case "%0:1 = buf (1)\n" (refused_at 7 11)
    ∷ case "%0:1 = input 1\n" (refused_at 7 13)
    ∷ case "%0:1 = input \"a\" 1\n" (refused_at 7 17)
    ∷ case "%0:1 = input \"a\" %0:_\n" (refused_at 7 17)
    ∷ case "%0:1 = input \"a\" \"b\"\n" (refused_at 7 17)
    ∷ case "%0:0 = output 1\n" (refused_at 7 14)
    ∷ case "%0:0 = output \"a\"\n" (refused_at 7 17)
    ∷ case "%0:1 = buf [1 &_]\n" (refused_at 7 14)
    ∷ case "%0:1 = buf [1 ,0]\n" (refused_at 7 14)
    ∷ case "%0:1 = buf [1 (0)]\n" (refused_at 7 14)
    ∷ case "%0:1 = buf [!0]\n" (refused_at 7 12)
    ∷ case "%0:1 = buf [#1]\n" (refused_at 7 12)
    ∷ case "%0:1 = buf [\"a\"]\n" (refused_at 7 12)
    ∷ case "%0:1 = buf [a]\n" (refused_at 7 12)
    ∷ case "%0:1 = buf [=]\n" (refused_at 7 12)
    ∷ case "%0:1 = buf [1}\n" (refused_at 7 13)
    ∷ case "%0:1 = buf 1 in=!0\n" (refused_at 7 13)
    ∷ case "%0:1 = buf [1]]\n" (refused_at 7 14)
    ∷ case "%0:1 = buf [;]\n;]\n1\n" (refused_at 7 20)
    ∷ case "%0:1 = buf \r\n[1]\n" (refused_at 7 11)
    ∷ case "%0:1 = buf 1!0\n" (refused_at 5 12)
    ∷ case "%0:1 = buf 1%0\n" (refused_at 5 12)
    ∷ case "%0:1 = buf [1%0]\n" (refused_at 5 13)
    ∷ case "%0:1 = buf [%0%1]\n" (refused_at 5 14)
    ∷ case "%0:1 = buf %0\"a\"\n" (refused_at 5 13)
    ∷ case "%0:1 = buf%0\n" (refused_at 5 10)
    ∷ case "%0:1 = buf [1X2]\n" (refused_at 5 14)
    ∷ case "%0:1 = buf 1buf\n" (refused_at 5 12)
    ∷ case "%0:1 = input \"a\"!0\n" (refused_at 5 16)
    ∷ case "%0:1 = buf \"a\n" (refused_at 5 11)
    ∷ case "%0:1 = input \"\\0A\"\n" (refused_at 5 13)
    ∷ case "%0:1 = input \"\\0\"\n" (refused_at 5 13)
    ∷ case "%0:1 = input \"\\\"\n" (refused_at 5 13)
    ∷ case "%0:1 = input \"\t\"\n" (refused_at 5 13)
    ∷ case "%0:1 = input \"\u{1f}\"\n" (refused_at 5 13)
    ∷ case "%0:1 = input \"a\"b\"\n" (refused_at 5 16)
    ∷ case "%0:1 = buf [1 \"a\n]\n" (refused_at 5 14)
    ∷ case "%0:2 = buf [1\r\n0]\r\n" accepted
    ∷ case "%0:2 = buf [1 ;]\r\n0]\n" accepted
    ∷ case "%0:1 = input \"\\22\\5c ~;[]\"\n" accepted
    ∷ raw (37 ∷ 48 ∷ 58 ∷ 49 ∷ 32 ∷ 61 ∷ 32 ∷ 105 ∷ 110 ∷ 112 ∷ 117 ∷ 116 ∷ 32 ∷ 34 ∷ 194 ∷ 128 ∷ 195 ∷ 191 ∷ 34 ∷ 10 ∷ []) accepted
    ∷ case "%0:1 = input \"a\" ;x\n%1:1 = input \"A\"\n" accepted
    ∷ case " %0:1 = buf 1\n\t%1:1 = buf 1;\n;\n\n" accepted
    ∷ case "%0:1 = buf %9 !0\n" (refused_at 10 14)
    ∷ case "%0:2 = buf 1 !0\n" (refused_at 10 13)
    ∷ case "!0 = scope #0\n%0:1 = buf [1]!1\n" (refused_at 10 28)
    ∷ case "%0:1 = and %0 %9\n%1:1 = buf %8\n" (refused_at 14 14)
    ∷ case "%0:1 = buf %1+1\n%1:1 = buf %7\n" (refused_at 14 11)
    ∷ case "%0:1 = buf [1 %5*0]\n" (refused_at 14 14)
    ∷ case "%0:1 = buf [1 %5:0]\n" (refused_at 14 14)
    ∷ case "%0:1 = mux %0 %0 [%0+1]\n" (refused_at 14 18)
    ∷ case "%0:2 = buf [%1 %1+1:1]\n%1:1 = buf 1\n" (refused_at 14 15)
    ∷ case "%1:2 = input \"a\"\n%0:2 = buf %1+1:2\n" (refused_at 14 28)
    ∷ case "%0:256 = input \"a\"\n%1:1 = buf %0+256\n" (refused_at 14 30)
    ∷ case "%0:1 = buf %9\n%1:2 = buf 1\n" (refused_at 12 14)
    ∷ case "%0:1 = buf %9\n%1:1 = buf $\n" (refused_at 5 25)
    ∷ case "%0:256 = input \"a\"\n%1:1 = buf %0+255\n%2:1 = buf [%0+256:0 %0*1]\n" accepted
    ∷ case "%1:1 = buf %2\n%2:1 = buf %1\n" accepted
    ∷ []

answered : map (λ (c : Case). answer_of (reading c.text)) texts ≡ map (λ (c : Case). c.answer) texts
unfolding every all_of total joined up_from updated zeros blank fits pad over part bytes same kind_at class_from class_of classes_from table tail_of bad_from ends_in_feed whole_of span_end comment_end inside_end digits_from numeral_at suffix_at string_from quoted_at meta_of number_of constant_of cell_of io_of word_of long_of follows token_from token_at inside_at numbered next_part concat_from operand_at parts_from parts_at next_member set_from members_from set_form point_at source_form link_at option_at scope_form ident_form attr_form meta_form io_form operand_if meta_if wiring_form named_form cell_form body_form open_form form_at form_of falling known_bits cut longest taken distinct names_as roomy metas_sound valid row_from copies operand_runs operand_pieces said_by added first_misnamed ruled_out declarations_from first_unresolved netlist_of read_sound reading
answered = refl
