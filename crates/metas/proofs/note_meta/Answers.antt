use Rattle.std.proofs.lemmas.Result.{err_from_is_err_and}
use Rattle.metas.proofs.MetaTop.{meta_room, few_trits, meta_adds, meta_after}
use Rattle.noting.proofs.Passing.{refused_some}
use Rattle.saying.specs.Rules.{ruled_out}
use Rattle.netlist.proofs.Laying.{roomy_is}
use mathlib.Core.Path.{sym, ◌∙◌}
use native.Mathlib.Omega.{arith}
use Rattle.metas.proofs.note_meta.Goals as goal

pub ruled_in-requires : goal.ruled_in-requires
ruled_in-requires c = let s = c in let p = s.requires.1 in let r = roomy_is p.so.netlist p.noted.tally.roomy in
    (s.requires.0, p.noted.long_rows, p.noted.long_work, s.requires.2, s.requires.3, omega (arith, r.strings, p.noted.tally.strings), omega (arith, r.members, p.noted.tally.members))

pub add_meta-requires : goal.add_meta-requires
add_meta-requires c = let s = c in let a = s.args in let p = s.requires.1 in
    let w = c.row_in-row.ensures p.so.meta_numbers p.noted.metas.maps in
    let g = sym (c.ruled_in.ensures p.so _ _ p.noted.metas p.noted.tally w) ∙ c.in_ok-ruled_in.was in
    (s.requires.0, s.requires.2, meta_adds a.text.now p.so a.n a.rows.now a.bits.now a.work.now a.d _ p.noted s.requires.2 s.requires.3 w g)

pub meta_more-requires : goal.meta_more-requires
meta_more-requires c = let s = c in let a = s.args in let p = s.requires.1 in
    let w = c.row_in-row.ensures p.so.meta_numbers p.noted.metas.maps in
    let g = sym (c.ruled_in.ensures p.so _ _ p.noted.metas p.noted.tally w) ∙ c.in_ok-ruled_in.was in
    let f = few_trits a.text.now p.so a.n a.rows.now a.bits.now a.work.now a.d _ p.noted s.requires.2 s.requires.3 w g in
    (meta_room a.text.now p.so a.n a.rows.now a.bits.now a.work.now a.d _ p.noted s.requires.2 s.requires.3 w g, omega (arith, f))

pub returns-in_err-ruled_in : goal.returns-in_err-ruled_in
returns-in_err-ruled_in c = let s = c in let a = s.args in let q = err_from_is_err_and c.from_residual.result c.from_residual.ensures.1 in λ so d.
    let w = c.row_in-row.ensures so.meta_numbers d.metas.maps in
    rw (q.1, q.2) (refused_some (ruled_out a.text.now so a.d) _ (sym (c.ruled_in.ensures so _ _ d.metas d.tally w) ∙ c.in_err-ruled_in.was))

pub returns : goal.returns
returns c = let s = c in let a = s.args in λ so d.
    let w = c.row_in-row.ensures so.meta_numbers d.metas.maps in
    let g = sym (c.ruled_in.ensures so _ _ d.metas d.tally w) ∙ c.in_ok-ruled_in.was in
    rw c.meta_more.ensures (meta_after a.text.now so a.n a.rows.now a.bits.now a.work.now a.d _ d s.requires.2 s.requires.3 w g _ _ _ c.add_meta.ensures)
