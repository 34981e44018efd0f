-- Lists with the place of their first bad record, and runs with their slots and outputs, computed.
use Prim.Native.Nat.{ℕ}
use mathlib.Core.Path.{◌≡◌, refl}
use mathlib.Core.List.{List, [], ◌∷◌, ◌++◌, map}
use mathlib.Core.Option.{Option, none, some}
use lib.ListN.{replicate}
use Rattle.ground.specs.Lists.{every, total, joined}
use Rattle.trit.specs.Trit.{not_of, and_of, or_of, xor_of}
use Rattle.loadlist.specs.Records.{rec, list_bytes, records_in}
use Rattle.loadlist.specs.Check.{good_record, bad_record_from, bad_record}
use Rattle.loadlist.specs.Run.{slots_from, outputs_in, slots, outputs}
use Rattle.loadlist.specs.declared.Record.{Record}

pub record Checking : Type 0 where
  pub list : List ℕ
  pub bad : Option ℕ

abbrev checking : List ℕ → Option ℕ → Checking
checking l b = record { list = l; bad = b }

abbrev records : List Record → Option ℕ → Checking
records rs b = checking (list_bytes rs) b

-- two inputs, a not, an and, an output
abbrev nand : List Record
nand = rec 3 0 0 ∷ rec 3 1 0 ∷ rec 5 0 1 ∷ rec 4 2 0 ∷ rec 8 3 0 ∷ []

checkings : List Checking
checkings =
    -- an empty list is good; a constant may come anywhere, and an output's slot may be used
    checking [] none
    ∷ records nand none
    ∷ records (nand ++ (rec 2 0 0 ∷ rec 7 4 5 ∷ rec 8 6 1 ∷ [])) none
    -- a part of a record, a wrong mark, a fourth byte that is not 0
    ∷ checking (list_bytes nand ++ (0x47 ∷ [])) (some 40)
    ∷ checking (0x47 ∷ 0x54 ∷ 0 ∷ 0 ∷ 0 ∷ 0 ∷ 0 ∷ 0 ∷ []) (some 0)
    ∷ checking (0x47 ∷ 0x53 ∷ 0 ∷ 1 ∷ 0 ∷ 0 ∷ 0 ∷ 0 ∷ []) (some 0)
    -- no such operation; fields of a constant, an input and a not that are not 0
    ∷ records (rec 9 0 0 ∷ []) (some 0)
    ∷ records (rec 0 1 0 ∷ []) (some 0)
    ∷ records (rec 2 0 1 ∷ []) (some 0)
    ∷ records (rec 3 0 1 ∷ []) (some 0)
    ∷ records (rec 1 0 0 ∷ rec 4 0 1 ∷ []) (some 8)
    -- a slot that is its own or later; inputs and outputs out of order
    ∷ records (rec 4 0 0 ∷ []) (some 0)
    ∷ records (rec 0 0 0 ∷ rec 5 0 1 ∷ []) (some 8)
    ∷ records (rec 3 1 0 ∷ []) (some 0)
    ∷ records (rec 3 0 0 ∷ rec 3 0 0 ∷ []) (some 8)
    ∷ records (rec 0 0 0 ∷ rec 8 0 0 ∷ rec 8 1 0 ∷ []) (some 16)
    -- 8,192 records are good, and the next one is not
    ∷ records (replicate 8192 (rec 0 0 0)) none
    ∷ records (replicate 8193 (rec 0 0 0)) (some 65536)
    ∷ []

checked_right : map (λ (c : Checking). bad_record c.list) checkings ≡ map (λ (c : Checking). c.bad) checkings
unfolding checkings every total joined good_record bad_record_from bad_record
checked_right = refl

pub record Running : Type 0 where
  pub ins : List ℕ
  pub slots : List ℕ
  pub outs : List ℕ

abbrev running : List ℕ → List ℕ → List ℕ → Running
running i s o = record { ins = i; slots = s; outs = o }

-- the outputs of the nand, and of its and
abbrev list : List ℕ
list = list_bytes (nand ++ (rec 2 0 0 ∷ rec 6 2 5 ∷ rec 8 6 1 ∷ []))

runnings : List Running
runnings =
    running (1 ∷ 1 ∷ []) (1 ∷ 1 ∷ 1 ∷ 0 ∷ 0 ∷ 2 ∷ 1 ∷ 1 ∷ []) (0 ∷ 1 ∷ [])
    ∷ running (0 ∷ 2 ∷ []) (0 ∷ 2 ∷ 0 ∷ 1 ∷ 1 ∷ 2 ∷ 2 ∷ 2 ∷ []) (1 ∷ 2 ∷ [])
    ∷ running (2 ∷ 1 ∷ []) (2 ∷ 1 ∷ 2 ∷ 2 ∷ 2 ∷ 2 ∷ 2 ∷ 2 ∷ []) (2 ∷ 2 ∷ [])
    ∷ []

ran_right : map (λ (r : Running). running r.ins (slots list r.ins) (outputs list r.ins)) runnings ≡ runnings
unfolding runnings every total joined not_of and_of or_of xor_of records_in slots_from outputs_in
ran_right = refl
