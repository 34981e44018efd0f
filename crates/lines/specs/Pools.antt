-- Tables of which the pools of metadata and I/O alone count: all that a row needs to be read.
use Rattle.std.specs.Prelude.{List, [], ℕ}
use Rattle.netlist.specs.Tables.{Tables}

abbrev pub pools : List ℕ → List ℕ → List ℕ → Tables
pools strings members trits = record { meta_count = 0; io_count = 0; cell_count = 0; metas = []; members = members; ios = []; cells = []; runs = []; strings = strings; attr_bits = trits; run_bits = [] }
