use Rattle.netlist.specs.Good.{short}
use borrow.Author.Tests.{lt-ltb, le-ltb}
use Rattle.checking.proofs.is_short.Goals as goal

pub returns-then-rows-lt26307-clause-is : goal.returns-then-rows-lt26307-clause-is
unfolding short
returns-then-rows-lt26307-clause-is c = rw (lt-ltb _ 26307 c.if-rows-lt26307.true)

pub returns-then-strings-lt16384-clause-is : goal.returns-then-strings-lt16384-clause-is
unfolding short
returns-then-strings-lt16384-clause-is c = rw (le-ltb _ 26307 c.if-rows-lt26307.false, lt-ltb _ 16384 c.if-strings-lt16384.true)

pub returns-clause-is : goal.returns-clause-is
unfolding short
returns-clause-is c = rw (le-ltb _ 26307 c.if-rows-lt26307.false, le-ltb _ 16384 c.if-strings-lt16384.false)
