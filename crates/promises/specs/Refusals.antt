-- A worked case for each refusal number that a text, a netlist or a list can meet: document 01, Refusal numbers.
use Rattle.std.specs.Prelude.{ℕ, List, [], ◌∷◌, ◌++◌, replicate}
use Rattle.ground.specs.Text.{bytes}
use Rattle.promises.specs.Asking.{Line, line, to_read, to_print, to_name, to_find, to_evaluate, to_translate, to_list, to_run, accepted, refused_at, gives}
use Rattle.promises.specs.Lines.{fifteen, loaded, record8}

abbrev names : List ℕ
names = bytes "!0 = scope \"top\"\n!1 = scope #-3 in=!0\n!2 = ident \"clk\" in=!1\n&\"pin\":8 = io\n&\"gpio\":4 = io\n"

abbrev inverted : List ℕ
inverted = bytes "%0:2 = input \"a\"\n%2:2 = not %0:2\n%4:0 = output \"y\" %2:2\n"

abbrev pub refusals : List Line
refusals =
    -- 2 text too long, 3 not UTF-8 or CR without LF, 4 the last byte is no LF
    line (to_read (replicate 65537 10)) (refused_at 2 65536)
    ∷ line (to_read (bytes "\n;" ++ (0xed ∷ 0xa0 ∷ 0x80 ∷ 10 ∷ []))) (refused_at 3 2)
    ∷ line (to_read (bytes "\n;\r;\n")) (refused_at 3 2)
    ∷ line (to_read (bytes "$ ")) (refused_at 4 2)
    -- 5 malformed token, 6 number too large, 7 token not allowed there, 8 unknown word
    ∷ line (to_read (bytes "%0:1 = buf %0:1+2\n")) (refused_at 5 15)
    ∷ line (to_read (bytes "%65536:1 = buf 1\n")) (refused_at 6 0)
    ∷ line (to_read (bytes "!0 = attr \"a\" X*4\n")) (refused_at 7 14)
    ∷ line (to_read (bytes "%0:1 = dff 1\n")) (refused_at 8 7)
    -- 9 declared twice, 10 reference, 11 short set, 12 width, 13 a string of 256 bytes, 14 piece
    ∷ line (to_read (bytes "%1:1 = buf 1\n%01:1 = buf 1\n")) (refused_at 9 13)
    ∷ line (to_read (bytes "%0:1 = input \"a\"\n%1:1 = input \"a\"\n")) (refused_at 9 17)
    ∷ line (to_read (bytes "!0 = {!1 !2}\n")) (refused_at 10 6)
    ∷ line (to_read (bytes "!0 = {}\n")) (refused_at 11 0)
    ∷ line (to_read (bytes "%0:0 = output \"\" 1\n")) (refused_at 11 0)
    ∷ line (to_read (bytes "%0:2 = buf 1\n")) (refused_at 12 0)
    ∷ line (to_read (bytes "!0 = attr \"a\" " ++ (replicate 256 48 ++ bytes "\n"))) accepted
    ∷ line (to_read (bytes "!0 = attr \"a\" " ++ (replicate 257 48 ++ bytes "\n"))) (refused_at 12 0)
    ∷ line (to_read (bytes "%0:1 = input \"" ++ (replicate 255 97 ++ bytes "\"\n"))) accepted
    ∷ line (to_read (bytes "%0:1 = input \"" ++ (replicate 256 97 ++ bytes "\"\n"))) (refused_at 13 0)
    ∷ line (to_read (bytes "%0:1 = buf [1 %0+65535:65535*0]\n")) (refused_at 14 14)
    -- 16 no ident, 18 no such I/O name
    ∷ line (to_name 10 names 2) (gives 10 (bytes "top/-3/clk"))
    ∷ line (to_name 10 names 1) (refused_at 16 0)
    ∷ line (to_name 10 names 3) (refused_at 16 0)
    ∷ line (to_find names (bytes "gpio")) (gives 1 (4 ∷ []))
    ∷ line (to_find names (bytes "gpi")) (refused_at 18 0)
    -- 20 ring, 21 more than 8,192 records, 22 bad list, 23 assignment, 24 room
    ∷ line (to_evaluate 9 (bytes "%0:2 = buf [%0+0 1]\n") []) (refused_at 20 0)
    ∷ line (to_translate 0 (fifteen "254")) (refused_at 21 0)
    ∷ line (to_run 1 (0x47 ∷ 0x53 ∷ 4 ∷ 0 ∷ 0 ∷ 0 ∷ 0 ∷ 0 ∷ []) []) (refused_at 22 0)
    ∷ line (to_run 2 loaded (1 ∷ 3 ∷ [])) (refused_at 23 0)
    ∷ line (to_evaluate 2 inverted (1 ∷ [])) (refused_at 23 0)
    ∷ line (to_run 1 loaded (1 ∷ 1 ∷ [])) (refused_at 24 0)
    ∷ line (to_print 55 inverted) (refused_at 24 0)
    ∷ line (to_translate 71 inverted) (refused_at 24 0)
    -- two grounds at once: the smaller number
    ∷ line (to_run 0 (0x47 ∷ 0x53 ∷ 4 ∷ 0 ∷ 0 ∷ 0 ∷ 0 ∷ 0 ∷ []) (3 ∷ [])) (refused_at 22 0)
    ∷ line (to_run 0 loaded (1 ∷ 3 ∷ [])) (refused_at 23 0)
    ∷ line (to_evaluate 0 (bytes "%0:1 = input \"a\"\n%1:1 = buf %1\n%2:0 = output \"y\" %0\n") (3 ∷ [])) (refused_at 20 0)
    ∷ line (to_evaluate 0 inverted (1 ∷ [])) (refused_at 23 0)
    ∷ line (to_translate 0 (bytes "%0:1 = buf %0\n")) (refused_at 20 0)
    -- a begun record; two inputs and one output
    ∷ line (to_run 2 (loaded ++ (0x47 ∷ [])) (1 ∷ 1 ∷ [])) (refused_at 22 104)
    ∷ line (to_run 1 (record8 0 0 0 ++ (record8 1 0 0 ++ (record8 2 0 0 ++ (record8 3 0 0 ++ (record8 3 1 0 ++ record8 8 3 0))))) (1 ∷ 2 ∷ [])) (gives 1 (1 ∷ []))
    ∷ line (to_list (0x47 ∷ [])) (refused_at 22 0)
    ∷ line (to_list (loaded ++ (0x47 ∷ []))) (refused_at 22 104)
    -- and where nothing is refused
    ∷ line (to_list loaded) (gives 2 (2 ∷ []))
    ∷ line (to_run 2 loaded (1 ∷ 1 ∷ [])) (gives 2 (0 ∷ 1 ∷ []))
    ∷ line (to_evaluate 3 inverted (1 ∷ 2 ∷ [])) (gives 2 (0 ∷ 2 ∷ 0 ∷ []))
    ∷ []
