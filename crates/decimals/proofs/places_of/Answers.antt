use native.Mathlib.Omega.{arith}
use Rattle.ground.specs.Lists.{every}
use Rattle.writing.specs.Decimal.{places}
use Rattle.writing.proofs.Digits.{reached, reached_all, unreached_all}
use mathlib.Core.Path.{refl, sym}
use Rattle.decimals.proofs.places_of.Goals as goal

pub returns-then-x-lt10 : goal.returns-then-x-lt10
unfolding places every
returns-then-x-lt10 c = (sym (unreached_all _ _ _ (omega arith) refl), omega arith, omega arith)

pub returns-then-x-lt100 : goal.returns-then-x-lt100
unfolding places every
returns-then-x-lt100 c = (sym (reached _ _ _ _ (omega arith) (unreached_all _ _ _ (omega arith) refl)), omega arith, omega arith)

pub returns-then-x-lt1000 : goal.returns-then-x-lt1000
unfolding places every
returns-then-x-lt1000 c = (sym (reached _ _ _ _ (omega arith) (reached _ _ _ _ (omega arith) (unreached_all _ _ _ (omega arith) refl))), omega arith, omega arith)

pub returns-then-x-lt10000 : goal.returns-then-x-lt10000
unfolding places every
returns-then-x-lt10000 c = (sym (reached _ _ _ _ (omega arith) (reached _ _ _ _ (omega arith) (reached _ _ _ _ (omega arith) (unreached_all _ _ _ (omega arith) refl)))), omega arith, omega arith)

pub returns-then-x-lt100000 : goal.returns-then-x-lt100000
unfolding places every
returns-then-x-lt100000 c = (sym (reached _ _ _ _ (omega arith) (reached _ _ _ _ (omega arith) (reached _ _ _ _ (omega arith) (reached _ _ _ _ (omega arith) (unreached_all _ _ _ (omega arith) refl))))), omega arith, omega arith)

pub returns-then-x-lt1000000 : goal.returns-then-x-lt1000000
unfolding places every
returns-then-x-lt1000000 c = (sym (reached _ _ _ _ (omega arith) (reached _ _ _ _ (omega arith) (reached _ _ _ _ (omega arith) (reached _ _ _ _ (omega arith) (reached _ _ _ _ (omega arith) (unreached_all _ _ _ (omega arith) refl)))))), omega arith, omega arith)

pub returns-then-x-lt10000000 : goal.returns-then-x-lt10000000
unfolding places every
returns-then-x-lt10000000 c = (sym (reached _ _ _ _ (omega arith) (reached _ _ _ _ (omega arith) (reached _ _ _ _ (omega arith) (reached _ _ _ _ (omega arith) (reached _ _ _ _ (omega arith) (reached _ _ _ _ (omega arith) (unreached_all _ _ _ (omega arith) refl))))))), omega arith, omega arith)

pub returns-then-x-lt100000000 : goal.returns-then-x-lt100000000
unfolding places every
returns-then-x-lt100000000 c = (sym (reached _ _ _ _ (omega arith) (reached _ _ _ _ (omega arith) (reached _ _ _ _ (omega arith) (reached _ _ _ _ (omega arith) (reached _ _ _ _ (omega arith) (reached _ _ _ _ (omega arith) (reached _ _ _ _ (omega arith) (unreached_all _ _ _ (omega arith) refl)))))))), omega arith, omega arith)

pub returns-then-x-lt1000000000 : goal.returns-then-x-lt1000000000
unfolding places every
returns-then-x-lt1000000000 c = (sym (reached _ _ _ _ (omega arith) (reached _ _ _ _ (omega arith) (reached _ _ _ _ (omega arith) (reached _ _ _ _ (omega arith) (reached _ _ _ _ (omega arith) (reached _ _ _ _ (omega arith) (reached _ _ _ _ (omega arith) (reached _ _ _ _ (omega arith) (unreached_all _ _ _ (omega arith) refl))))))))), omega arith, omega arith)

pub returns : goal.returns
unfolding places every
returns c = (sym (reached _ _ _ _ (omega arith) (reached _ _ _ _ (omega arith) (reached _ _ _ _ (omega arith) (reached _ _ _ _ (omega arith) (reached _ _ _ _ (omega arith) (reached _ _ _ _ (omega arith) (reached _ _ _ _ (omega arith) (reached _ _ _ _ (omega arith) (reached _ _ _ _ (omega arith) (reached_all _)))))))))), omega arith, omega arith)
