use Rattle.wiring.proofs.CellRules.{wiring_in, cells_count, cells_noted, metas_count, asked_twice, asked_meta, asked_name, asked_tight, out_twice, fresh, out_misnamed, out_incomplete, out_misfit, out_cramped, kept_after}
use Rattle.wiring.proofs.CellFits.{fitting}
use Rattle.netlist.proofs.Laying.{roomy_is}
use borrow.Author.Tests.{not-false}
use mathlib.Core.Bool.{true, false}
use mathlib.Core.Path.{sym, ◌∙◌}
use native.Mathlib.Omega.{arith}
use Rattle.wiring.proofs.note_cell.Goals as goal

pub is_twice-requires : goal.is_twice-requires
is_twice-requires c = let s = c in let a = s.args in let e = s.requires.3 in let i = wiring_in a.text.now a.d a.w e s.requires.2.decl in let some = s.requires.1 in (some.noted.long_rows, some.noted.long_work, cells_noted a.text.now some.so a.n a.rows.now a.bits.now a.work.now some.noted a.w, i.name, s.requires.4)

pub returns-then-is_twice : goal.returns-then-is_twice
returns-then-is_twice c = let s = c in let a = s.args in let e = s.requires.3 in let i = wiring_in a.text.now a.d a.w e s.requires.2.decl in λ so h. out_twice a.text.now so a.d a.w e (asked_twice a.text.now so a.n a.rows.now a.bits.now a.work.now h a.w a.d.index _ (c.is_twice.ensures so.cell_numbers h.cells.notes h.cells.maps s.requires.2.index h.cells.rows (cells_count a.text.now so a.n a.rows.now a.bits.now a.work.now h a.w) h.cells.spelled) ∙ c.if-is_twice.true)

pub returns-then-is_misnamed : goal.returns-then-is_misnamed
returns-then-is_misnamed c = let s = c in let a = s.args in let e = s.requires.3 in let i = wiring_in a.text.now a.d a.w e s.requires.2.decl in λ so h. out_misnamed a.text.now so a.d a.w e (asked_twice a.text.now so a.n a.rows.now a.bits.now a.work.now h a.w a.d.index _ (c.is_twice.ensures so.cell_numbers h.cells.notes h.cells.maps s.requires.2.index h.cells.rows (cells_count a.text.now so a.n a.rows.now a.bits.now a.work.now h a.w) h.cells.spelled) ∙ c.if-is_twice.false) (asked_meta a.text.now so a.n a.rows.now a.bits.now a.work.now h a.w _ (c.is_misnamed.ensures h.metas.notes so.meta_numbers h.metas.rows (metas_count a.text.now so a.n a.rows.now a.bits.now a.work.now h a.w) h.metas.maps i.meta.small) ∙ c.if-is_misnamed.true)

pub returns-then-is_nameless : goal.returns-then-is_nameless
returns-then-is_nameless c = let s = c in let a = s.args in let e = s.requires.3 in let i = wiring_in a.text.now a.d a.w e s.requires.2.decl in λ so h. out_incomplete a.text.now so a.d a.w e (asked_twice a.text.now so a.n a.rows.now a.bits.now a.work.now h a.w a.d.index _ (c.is_twice.ensures so.cell_numbers h.cells.notes h.cells.maps s.requires.2.index h.cells.rows (cells_count a.text.now so a.n a.rows.now a.bits.now a.work.now h a.w) h.cells.spelled) ∙ c.if-is_twice.false) (asked_meta a.text.now so a.n a.rows.now a.bits.now a.work.now h a.w _ (c.is_misnamed.ensures h.metas.notes so.meta_numbers h.metas.rows (metas_count a.text.now so a.n a.rows.now a.bits.now a.work.now h a.w) h.metas.maps i.meta.small) ∙ c.if-is_misnamed.false) (asked_name a.text.now so a.n a.rows.now a.bits.now a.work.now h a.w i _ c.is_nameless.ensures ∙ c.if-is_nameless.true)

pub returns-then-is_misfit : goal.returns-then-is_misfit
returns-then-is_misfit c = let s = c in let a = s.args in let e = s.requires.3 in let i = wiring_in a.text.now a.d a.w e s.requires.2.decl in λ so h. out_misfit a.text.now so a.d a.w e (asked_twice a.text.now so a.n a.rows.now a.bits.now a.work.now h a.w a.d.index _ (c.is_twice.ensures so.cell_numbers h.cells.notes h.cells.maps s.requires.2.index h.cells.rows (cells_count a.text.now so a.n a.rows.now a.bits.now a.work.now h a.w) h.cells.spelled) ∙ c.if-is_twice.false) (asked_meta a.text.now so a.n a.rows.now a.bits.now a.work.now h a.w _ (c.is_misnamed.ensures h.metas.notes so.meta_numbers h.metas.rows (metas_count a.text.now so a.n a.rows.now a.bits.now a.work.now h a.w) h.metas.maps i.meta.small) ∙ c.if-is_misnamed.false) (asked_name a.text.now so a.n a.rows.now a.bits.now a.work.now h a.w i _ c.is_nameless.ensures ∙ c.if-is_nameless.false) (sym c.is_misfit.ensures ∙ c.if-is_misfit.true)

pub is_tight-requires : goal.is_tight-requires
is_tight-requires c = let s = c in let a = s.args in let e = s.requires.3 in let i = wiring_in a.text.now a.d a.w e s.requires.2.decl in let some = s.requires.1 in let t = some.noted.tally in let r = roomy_is some.so.netlist t.roomy in (omega (arith, t.declared, r.bits), omega (arith, t.outputs, r.outputs), omega (arith, t.strings, r.strings), (fitting a.text.now a.w i (not-false _ (sym c.is_misfit.ensures ∙ c.if-is_misfit.false))).a_most)

pub returns-then-is_tight : goal.returns-then-is_tight
returns-then-is_tight c = let s = c in let a = s.args in let e = s.requires.3 in let i = wiring_in a.text.now a.d a.w e s.requires.2.decl in λ so h. out_cramped a.text.now so a.d a.w e (asked_twice a.text.now so a.n a.rows.now a.bits.now a.work.now h a.w a.d.index _ (c.is_twice.ensures so.cell_numbers h.cells.notes h.cells.maps s.requires.2.index h.cells.rows (cells_count a.text.now so a.n a.rows.now a.bits.now a.work.now h a.w) h.cells.spelled) ∙ c.if-is_twice.false) (asked_meta a.text.now so a.n a.rows.now a.bits.now a.work.now h a.w _ (c.is_misnamed.ensures h.metas.notes so.meta_numbers h.metas.rows (metas_count a.text.now so a.n a.rows.now a.bits.now a.work.now h a.w) h.metas.maps i.meta.small) ∙ c.if-is_misnamed.false) (asked_name a.text.now so a.n a.rows.now a.bits.now a.work.now h a.w i _ c.is_nameless.ensures ∙ c.if-is_nameless.false) (sym c.is_misfit.ensures ∙ c.if-is_misfit.false) (asked_tight a.text.now so a.n a.rows.now a.bits.now a.work.now h a.w i (sym c.is_tight.ensures ∙ c.if-is_tight.true))

pub keep_cell-requires : goal.keep_cell-requires
keep_cell-requires c = let s = c in let a = s.args in let e = s.requires.3 in let i = wiring_in a.text.now a.d a.w e s.requires.2.decl in (s.requires.0, s.requires.1, s.requires.2.index, i, record { named = sym c.is_nameless.ensures ∙ c.if-is_nameless.false; fits = (not-false _ (sym c.is_misfit.ensures ∙ c.if-is_misfit.false)); room = (sym c.is_tight.ensures ∙ c.if-is_tight.false) })

pub returns : goal.returns
returns c = let s = c in let a = s.args in let e = s.requires.3 in let i = wiring_in a.text.now a.d a.w e s.requires.2.decl in λ so h. kept_after a.text.now so a.d a.w e (asked_twice a.text.now so a.n a.rows.now a.bits.now a.work.now h a.w a.d.index _ (c.is_twice.ensures so.cell_numbers h.cells.notes h.cells.maps s.requires.2.index h.cells.rows (cells_count a.text.now so a.n a.rows.now a.bits.now a.work.now h a.w) h.cells.spelled) ∙ c.if-is_twice.false) (asked_meta a.text.now so a.n a.rows.now a.bits.now a.work.now h a.w _ (c.is_misnamed.ensures h.metas.notes so.meta_numbers h.metas.rows (metas_count a.text.now so a.n a.rows.now a.bits.now a.work.now h a.w) h.metas.maps i.meta.small) ∙ c.if-is_misnamed.false) (asked_name a.text.now so a.n a.rows.now a.bits.now a.work.now h a.w i _ c.is_nameless.ensures ∙ c.if-is_nameless.false) (sym c.is_misfit.ensures ∙ c.if-is_misfit.false) c.keep_cell.result c.keep_cell.new.rows c.keep_cell.new.bits c.keep_cell.new.work (c.keep_cell.ensures so h (fresh a.text.now so a.d a.w e (asked_twice a.text.now so a.n a.rows.now a.bits.now a.work.now h a.w a.d.index _ (c.is_twice.ensures so.cell_numbers h.cells.notes h.cells.maps s.requires.2.index h.cells.rows (cells_count a.text.now so a.n a.rows.now a.bits.now a.work.now h a.w) h.cells.spelled) ∙ c.if-is_twice.false)))
