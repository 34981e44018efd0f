use mathlib.Core.List.{[]}
use Rattle.wiring.proofs.CellKeep.{keep_held, keep_room, keep_fits, keep_loose, keep_places, keep_row, keep_full, keep_more}
use mathlib.Core.Path.{◌∙◌}
use native.Mathlib.Omega.{arith}
use Rattle.wiring.proofs.keep_cell.Goals as goal

pub lay_runs-laying-requires : goal.lay_runs-laying-requires
lay_runs-laying-requires c = let s = c in let a = s.args in let some = s.requires.1 in (s.requires.0, some.noted.long_rows, some.noted.long_bits, keep_held a.text.now some.so a.n a.rows.now a.bits.now a.work.now some.noted a.w s.requires.3 s.requires.0 s.requires.4, keep_room a.text.now some.so a.n a.rows.now a.bits.now a.work.now some.noted a.w s.requires.3 s.requires.0 s.requires.4)

pub returns-in_default : goal.returns-in_default
returns-in_default c = let s = c in let a = s.args in let some = s.requires.1 in let l = rw c.in_default.is at c.lay_runs-laying.ensures in λ so h fresh. keep_full a.text.now so a.n a.rows.now a.bits.now a.work.now h a.w s.requires.3 s.requires.0 s.requires.4 _ _ a.index a.place l []

pub note_row-requires : goal.note_row-requires
note_row-requires c = let s = c in let a = s.args in let some = s.requires.1 in let l = rw c.in-Some.is at c.lay_runs-laying.ensures in (l.kept_rows.long ∙ some.noted.long_rows, (keep_loose a.text.now some.so a.n a.rows.now a.bits.now a.work.now some.noted a.w s.requires.3 s.requires.0 s.requires.4).cells, keep_row a.text.now some.so a.n a.rows.now a.bits.now a.work.now some.noted a.w s.requires.3 s.requires.0 s.requires.4 _ _ _ l)

pub note_work-requires : goal.note_work-requires
note_work-requires c = let s = c in let a = s.args in let some = s.requires.1 in (some.noted.long_work, (keep_loose a.text.now some.so a.n a.rows.now a.bits.now a.work.now some.noted a.w s.requires.3 s.requires.0 s.requires.4).cells, s.requires.2, keep_places a.text.now some.so a.n a.rows.now a.bits.now a.work.now some.noted a.w s.requires.3 s.requires.0 s.requires.4)

pub tally_with-requires : goal.tally_with-requires
tally_with-requires c = let s = c in let a = s.args in let some = s.requires.1 in let o = keep_loose a.text.now some.so a.n a.rows.now a.bits.now a.work.now some.noted a.w s.requires.3 s.requires.0 s.requires.4 in (omega (arith, o.cells), omega (arith, o.bits), omega (arith, o.outputs), omega (arith, o.strings), (keep_fits a.text.now some.so a.n a.rows.now a.bits.now a.work.now some.noted a.w s.requires.3 s.requires.0 s.requires.4).a_most, o.name)

pub returns : goal.returns
returns c = let s = c in let a = s.args in let some = s.requires.1 in let l = rw c.in-Some.is at c.lay_runs-laying.ensures in λ so h fresh. rw c.tally_with.ensures (keep_more a.text.now so a.n a.rows.now a.bits.now a.work.now h a.w s.requires.3 s.requires.0 s.requires.4 _ _ _ l a.index s.requires.2 a.place fresh _ (c.meta_row-meta.ensures so.meta_numbers h.metas.maps s.requires.3.meta.small) _ _ c.note_row.ensures.0 c.note_row.ensures.1 c.note_work.ensures)
