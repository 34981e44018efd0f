use Rattle.metas.proofs.MetaAfter.{meta_twice, meta_misnamed, meta_named}
use Rattle.metas.proofs.MetaNotes.{held_count}
use Rattle.metas.proofs.MetaLaws.{row_says}
use Rattle.metas.specs.MetaRows.{RowSays, meta_said, misnaming_for}
use Rattle.saying.specs.Values.{row_of}
use Rattle.netlist.specs.Netlist.{Meta}
use mathlib.Core.Path.{sym, ap, subst, ◌∙◌}
use mathlib.Core.List.{List, map}
use Prim.Native.Nat.{◌<◌, ◌≤◌}
use Rattle.metas.proofs.meta_ruled.Goals as goal

pub returns-then-row_of-ge1 : goal.returns-then-row_of-ge1
returns-then-row_of-ge1 c = let s = c in let a = s.args in λ so pool trits h t w. let r : 1 ≤ row_of so.meta_numbers a.d.index = subst (λ k. 1 ≤ k) (c.row_of.ensures.1 so.meta_numbers h.maps s.requires.1.index) c.if-row_of-ge1.true in c.refuse.ensures ∙ meta_twice a.text.now so a.d s.requires.2 r

pub returns-in-Some : goal.returns-in-Some
returns-in-Some c = let q = c in let s = q in let a = s.args in λ so pool trits h t w. let r : row_of so.meta_numbers a.d.index < 1 = subst (λ k. k < 1) (q.row_of.ensures.1 so.meta_numbers h.maps s.requires.1.index) q.if-row_of-ge1.false in let f = q.misnaming_for.ensures h.notes so.meta_numbers h.rows (t.metas ∙ sym (held_count h)) h.maps ∙ ap (λ (ms : List Meta). misnaming_for a.text.now (map (λ (m : Meta). m.kind) ms) so.meta_numbers a.d.decl) h.said in c.refuse-in-Some.ensures ∙ meta_misnamed a.text.now so a.d s.requires.2 r _ f _ c.in-Some.is

pub returns-in-None : goal.returns-in-None
returns-in-None c = let q = c in let s = q in let a = s.args in λ so pool trits h t w. let r : row_of so.meta_numbers a.d.index < 1 = subst (λ k. k < 1) (q.row_of.ensures.1 so.meta_numbers h.maps s.requires.1.index) q.if-row_of-ge1.false in let f = q.misnaming_for.ensures h.notes so.meta_numbers h.rows (t.metas ∙ sym (held_count h)) h.maps ∙ ap (λ (ms : List Meta). misnaming_for a.text.now (map (λ (m : Meta). m.kind) ms) so.meta_numbers a.d.decl) h.said in let m = meta_said a.text.now so.meta_numbers a.d.decl in let y = subst (λ r. RowSays a.text.now r m) (sym w) (row_says a.text.now so.meta_numbers a.d.decl s.requires.2 s.requires.1.decl) in c.meta_limits.ensures a.text.now so.netlist m t y ∙ meta_named a.text.now so a.d s.requires.2 r _ f c.in-None.is
