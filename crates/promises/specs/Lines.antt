-- Document 01, Lines between yes and no.
use Rattle.std.specs.Prelude.{ℕ, List, [], ◌∷◌, ◌++◌}
use Prim.Native.String.{String}
use Rattle.ground.specs.Lists.{joined}
use Rattle.ground.specs.Text.{bytes}
use Rattle.promises.specs.Asking.{Line, line, to_read, to_print, to_show, to_evaluate, to_translate, to_count, accepted, refused_at, gives, counts}

-- the netlist of the second and third line, with an operand of its output
abbrev sized : String → List ℕ
sized operand = bytes "%0:4 = input \"size\"\n%4:0 = output \"y\" " ++ (bytes operand ++ bytes "\n")

-- the value of a cell without inputs, shown at an output of its width: bit 0 first
abbrev valued : String → String → List ℕ
valued cell shown = bytes "%0:" ++ (bytes cell ++ (bytes "\n%9:0 = output \"y\" " ++ (bytes shown ++ bytes "\n")))

-- THE LINES MARKED P, in order
abbrev pub marked_lines : List Line
marked_lines =
    -- "P empty: 4 at 0. P one LF: accepted, prints one LF."
    line (to_read []) (refused_at 4 0)
    ∷ line (to_read (bytes "\n")) accepted
    ∷ line (to_print 1 (bytes "\n")) (gives 1 (bytes "\n"))
    -- "then `%4:0 = output "y" %0+2:3`: 14 at 38. P With `%0+1:3`: accepted."
    ∷ line (to_read (sized "%0+2:3")) (refused_at 14 38)
    ∷ line (to_read (sized "%0+1:3")) accepted
    -- "P there, `[%0+4:0 %0]` accepted, `[%0+5:0 %0]` refused 14."
    ∷ line (to_read (sized "[%0+4:0 %0]")) accepted
    ∷ line (to_read (sized "[%0+5:0 %0]")) (refused_at 14 39)
    -- "P `%0:1 = buf %0`: reads; translation 20."
    ∷ line (to_read (bytes "%0:1 = buf %0\n")) accepted
    ∷ line (to_translate 65536 (bytes "%0:1 = buf %0\n")) (refused_at 20 0)
    -- "P `"\5c"` one byte; `"\5C"` 5. Width 256 accepted, 257 refused 12."
    ∷ line (to_show (bytes "%0:1 = input \"\\5c\"\n") 0) (gives 0 (0x5c ∷ []))
    ∷ line (to_read (bytes "%0:1 = input \"\\5C\"\n")) (refused_at 5 13)
    ∷ line (to_read (bytes "%0:256 = input \"a\"\n")) accepted
    ∷ line (to_read (bytes "%0:257 = input \"a\"\n")) (refused_at 12 0)
    -- "P mux X 1 1 = X. P eq 1X 0X = 0; eq 1X 10 = X. P ult 0X 10 = 1; slt 10 01 = 1. P adc 0 X 0 = 0X."
    ∷ line (to_evaluate 1 (valued "1 = mux X 1 1" "%0") []) (gives 1 (2 ∷ []))
    ∷ line (to_evaluate 1 (valued "1 = eq 1X 0X" "%0") []) (gives 1 (0 ∷ []))
    ∷ line (to_evaluate 1 (valued "1 = eq 1X 10" "%0") []) (gives 1 (2 ∷ []))
    ∷ line (to_evaluate 1 (valued "1 = ult 0X 10" "%0") []) (gives 1 (1 ∷ []))
    ∷ line (to_evaluate 1 (valued "1 = slt 10 01" "%0") []) (gives 1 (1 ∷ []))
    ∷ line (to_evaluate 2 (valued "2 = adc 0 X 0" "%0:2") []) (gives 2 (2 ∷ 0 ∷ []))
    ∷ []

-- THE OTHER LINES: a program runs them
-- "One 256-bit input, fifteen eq of it with itself, an output of 253 bits: 8,192 records. 254: 21."
abbrev eqs : List String
eqs = "1" ∷ "2" ∷ "3" ∷ "4" ∷ "5" ∷ "6" ∷ "7" ∷ "8" ∷ "9" ∷ "10" ∷ "11" ∷ "12" ∷ "13" ∷ "14" ∷ "15" ∷ []

abbrev pub fifteen : String → List ℕ
fifteen width =
    bytes "%0:256 = input \"a\"\n"
    ++ (joined (λ n. bytes "%" ++ (bytes n ++ bytes ":1 = eq %0:256 %0:256\n")) eqs
    ++ (bytes "%16:0 = output \"y\" %0:" ++ (bytes width ++ bytes "\n")))

-- the text that the listing program reads, and what it prints: the canonical text, and the list
abbrev pub listed : List ℕ
listed = bytes "%9:1 = input \"a\"\n%3:1 = input \"b\"\n%0:2 = adc %9 %3 0\n%7:0 = output \"sum\" [%0+1 %0+0]\n"

abbrev pub listing : List ℕ
listing = bytes "%0:1 = input \"a\"\n%1:1 = input \"b\"\n%2:2 = adc %0 %1 0\n%4:0 = output \"sum\" %2:2\n"

abbrev pub record8 : ℕ → ℕ → ℕ → List ℕ
record8 op first second = 0x47 ∷ 0x53 ∷ op ∷ 0 ∷ first ∷ 0 ∷ second ∷ 0 ∷ []

abbrev pub loaded : List ℕ
loaded =
    record8 0 0 0 ++ (record8 1 0 0 ++ (record8 2 0 0 ++ (record8 3 0 0 ++ (record8 3 1 0
    ++ (record8 7 3 4 ++ (record8 7 5 0 ++ (record8 5 3 4 ++ (record8 6 3 4 ++ (record8 5 8 0 ++ (record8 6 7 9
    ++ (record8 8 6 0 ++ record8 8 10 1)))))))))))

abbrev pub other_lines : List Line
other_lines =
    line (to_count 65536 (fifteen "253")) (counts 8192)
    ∷ line (to_count 65536 (fifteen "254")) (refused_at 21 0)
    ∷ line (to_print 78 listed) (gives 78 listing)
    ∷ line (to_translate 104 listed) (gives 13 loaded)
    ∷ []
