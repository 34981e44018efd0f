use Prim.Native.Nat.{◌*◌}
use lib.ListN.{length-drop}
use Prim.Native.Nat.{◌-◌}
use native.Mathlib.Omega.{arith}
use mathlib.Core.Path.{◌≡◌, sym, ◌∙◌}
use Rattle.checkmeta.proofs.Laws.{rest_all, walking_on, walk_off, walk_end}
use Rattle.checkmeta.proofs.rows.metas_good.Goals as goal

pub loop-i-init : goal.loop-i-init
loop-i-init c = let a = c.args in record { row = omega arith; s_room = omega arith; m_room = omega arith; b_room = omega arith; is = let e : a.n - 0 ≡ a.n = omega arith in rw e }

pub meta_good-requires : goal.meta_good-requires
meta_good-requires c = let a = c.args in let v = c.loop-i.invariant in (omega (arith, c.requires), rw (rest_all a.metas.now (c.loop-i.i * 16), length-drop) (omega (arith, c.requires)), c.requires.1, c.requires.2, v.s_room, v.m_room, v.b_room)

pub loop-i-preserved : goal.loop-i-preserved
loop-i-preserved c = let a = c.args in walking_on c.loop-i.invariant c.loop-i-test.true (rw (rest_all a.metas.now (c.loop-i.i * 16)) at (sym c.meta_good.ensures ∙ c.if-not-meta_good.false)) _ _ _ _ c.word_of.ensures.0 c.word_of-in-loop-i.ensures.0 c.word_of-m.ensures.0 c.word_of-b.ensures.0

pub returns-then-not-meta_good : goal.returns-then-not-meta_good
returns-then-not-meta_good c = let a = c.args in let p = c.loop-i in (walk_off a.members.now a.bits.now a.metas.now p.i p.s p.m p.b a.n c.loop-i-test.true (rw (rest_all a.metas.now (p.i * 16)) at (sym c.meta_good.ensures ∙ c.if-not-meta_good.true)) ∙ p.invariant.is, omega arith)

pub returns-then-blank_words : goal.returns-then-blank_words
returns-then-blank_words c = let a = c.args in let p = c.loop-i in let e : p.i ≡ a.n = omega arith in ((rw (sym (rw (← e) at c.blank_words.ensures) ∙ c.if-blank_words.true) at (walk_end a.members.now a.bits.now a.metas.now p.i p.s p.m p.b a.n c.loop-i-test.false)) ∙ p.invariant.is, p.invariant.s_room)

pub returns : goal.returns
returns c = let a = c.args in let p = c.loop-i in let e : p.i ≡ a.n = omega arith in ((rw (sym (rw (← e) at c.blank_words.ensures) ∙ c.if-blank_words.false) at (walk_end a.members.now a.bits.now a.metas.now p.i p.s p.m p.b a.n c.loop-i-test.false)) ∙ p.invariant.is, omega arith)
