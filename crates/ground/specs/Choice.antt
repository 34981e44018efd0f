-- A choice by a test. For definitions that do not call themselves: a recursion stands under `elim` instead.
use Rattle.std.specs.Prelude.{Bool, true, false}

abbrev pub pick : {A : Type 0} → Bool → A → A → A
pick true x y = x
pick false x y = y
