use borrow.Author.Tests.{ne_eqb}
use Rattle.scanning.specs.Modes.{lack, lacking}
use Rattle.scanning.proofs.scan.past.Goals as goal

pub returns-then-mode-eq0 : goal.returns-then-mode-eq0
unfolding lack lacking
returns-then-mode-eq0 c = rw c.if-mode-eq0.true c.lead.ensures

pub returns-then-mode-eq1 : goal.returns-then-mode-eq1
unfolding lack lacking
returns-then-mode-eq1 c = rw c.if-mode-eq1.true c.behind.ensures

pub returns-then-mode-eq2 : goal.returns-then-mode-eq2
unfolding lack lacking
returns-then-mode-eq2 c = rw c.if-mode-eq2.true c.behind-then-mode-eq2.ensures

pub returns-then-mode-eq3 : goal.returns-then-mode-eq3
unfolding lack lacking
returns-then-mode-eq3 c = rw c.if-mode-eq3.true c.behind-then-mode-eq3.ensures

pub returns-then-mode-eq4 : goal.returns-then-mode-eq4
unfolding lack lacking
returns-then-mode-eq4 c = rw c.if-mode-eq4.true c.behind-then-mode-eq4.ensures

pub returns-then-mode-eq5 : goal.returns-then-mode-eq5
unfolding lack lacking
returns-then-mode-eq5 c = rw c.if-mode-eq5.true c.behind-then-mode-eq5.ensures

pub returns-then-mode-eq6 : goal.returns-then-mode-eq6
unfolding lack lacking
returns-then-mode-eq6 c = rw c.if-mode-eq6.true c.behind-then-mode-eq6.ensures

pub returns-then-mode-eq7 : goal.returns-then-mode-eq7
unfolding lack lacking
returns-then-mode-eq7 c = rw c.if-mode-eq7.true c.behind-then-mode-eq7.ensures

pub returns : goal.returns
unfolding lack lacking
returns c = simp (ne_eqb _ 0 c.if-mode-eq0.false, ne_eqb _ 1 c.if-mode-eq1.false, ne_eqb _ 2 c.if-mode-eq2.false, ne_eqb _ 3 c.if-mode-eq3.false, ne_eqb _ 4 c.if-mode-eq4.false, ne_eqb _ 5 c.if-mode-eq5.false, ne_eqb _ 6 c.if-mode-eq6.false, ne_eqb _ 7 c.if-mode-eq7.false) c.behind-2.ensures
