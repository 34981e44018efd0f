-- How rules 9 to 13 come out for a declaration, and what is said with one row more.
use Rattle.std.specs.Prelude.{ℕ, ◌+◌, ◌<◌, ◌≤◌, not, List, [], ◌∷◌, ◌++◌, Result, Ok, Err}
use Rattle.std.proofs.Math.Option.{Option, none, some}
use Rattle.ground.specs.Choice.{pick}
use Rattle.ground.specs.Refusals.{refusal}
use Rattle.ground.specs.declared.Place.{Place}
use Rattle.ground.specs.declared.Refusal.{Refusal}
use Rattle.brackets.specs.declared.Str.{Str}
use Rattle.form.specs.declared.Decl.TheVariants as decl
use Rattle.form.specs.declared.Declared.{Declared}
use Rattle.kinds.specs.Kinds.{wide}
use Rattle.netlist.specs.Netlist.{Meta, Io, Netlist}
use Rattle.netlist.specs.Rules.{taken, io_names, is_empty, roomy}
use Rattle.saying.specs.Values.{string_in}
use Rattle.saying.specs.Rules.{Sofar}
use Rattle.noting.specs.Noted.{Noted}
use Rattle.noting.specs.declared.Tally.{Tally}

abbrev pub ruling_of : Option Refusal → Result (Unit {0}) Refusal
ruling_of none = Ok tt
ruling_of (some g) = Err g

abbrev pub io_more : Netlist → Io → Netlist
io_more N i = record { metas = N.metas; ios = N.ios ++ (i ∷ []); cells = N.cells }

abbrev pub meta_more : Netlist → Meta → Netlist
meta_more N m = record { metas = N.metas ++ (m ∷ []); ios = N.ios; cells = N.cells }

-- an I/O declaration has no index
abbrev pub io_declared : Place → ℕ → Str → ℕ → Declared
io_declared place index name width = record { place = place; index = index; decl = decl.Io name width }

-- rules 11 to 13, and rules 9 to 13, for an I/O declaration: it has no references, so rule 10 asks nothing
abbrev pub io_limits : Netlist → Io → Place → Option Refusal
io_limits N i place =
    pick (is_empty i.name) (some (refusal 11 place))
    (pick (not (wide i.width)) (some (refusal 12 place))
    (pick (not (roomy (io_more N i))) (some (refusal 13 place))
    none))

abbrev pub io_rules : Netlist → Io → Place → Option Refusal
io_rules N i place = pick (taken i.name (io_names N.ios)) (some (refusal 9 place)) (io_limits N i place)

abbrev pub io_in : List ℕ → Str → ℕ → Io
io_in text name width = record { name = string_in text name; width = width }

-- the tally of one row more
abbrev pub io_tally : Tally → ℕ → Tally
io_tally n size = record {
  metas = n.metas;
  ios = n.ios + 1;
  cells = n.cells;
  members = n.members;
  trits = n.trits;
  runs = n.runs;
  known = n.known;
  declared = n.declared;
  outputs = n.outputs;
  strings = n.strings + size;
  bare = n.bare;
}

-- room for an I/O row more
pub record IoRoom (name : Str) (n : Tally) : Type 0 where
  pub room : n.ios < 64
  pub from : name.from < 4294967296
  pub size : name.size ≤ 255
  pub strings : n.strings + name.size ≤ 16384

-- tables that note something said, the trits and the work space out of sight
pub record SomeNoted (text : List ℕ) (n : Tally) (rows : List ℕ) : Type 0 where
  pub bits : List ℕ
  pub work : List ℕ
  pub so : Sofar
  pub noted : Noted text so n rows bits work
