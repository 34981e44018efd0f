use native.Mathlib.Omega.{arith}
use mathlib.Core.Path.{sym, ◌∙◌}
use Rattle.std.proofs.lemmas.Result.{err_from_is_err_and}
use Rattle.netlist.specs.Good.{lookup_of}
use Rattle.checking.proofs.Top.{checked_good, found_named, found_is}
use Rattle.checking.proofs.lookup_io.Goals as goal

pub word_of-requires : goal.word_of-requires
word_of-requires c = let a = c.args in let k = (checked_good a.rows.now a.strings.now a.bits.now (sym c.check_tables.ensures ∙ c.in_ok-check_tables.was)).0 in omega (arith, k.rows_long)

pub find_io-requires : goal.find_io-requires
find_io-requires c = let a = c.args in found_named a.rows.now a.strings.now a.bits.now (sym c.check_tables.ensures ∙ c.in_ok-check_tables.was) (λ i. (c.type_inv.strings i).fits) (λ i. (c.type_inv.rows i).fits) _ _ _ c.ios_of.ensures c.strings_of.ensures c.word_of.ensures.0

pub returns-in_err-check_tables : goal.returns-in_err-check_tables
unfolding lookup_of
returns-in_err-check_tables c = let p = err_from_is_err_and c.from_residual.result c.from_residual.ensures.1 in rw (p.1, p.2, sym c.check_tables.ensures ∙ c.in_err-check_tables.was)

pub returns : goal.returns
returns c = let a = c.args in c.find_io.ensures ∙ found_is a.rows.now a.strings.now a.bits.now (sym c.check_tables.ensures ∙ c.in_ok-check_tables.was) (λ i. (c.type_inv.strings i).fits) (λ i. (c.type_inv.rows i).fits) _ _ _ c.ios_of.ensures c.strings_of.ensures c.word_of.ensures.0 a.name.now
