-- A declaration by its form and the reader past it; nothing at the end of the text; or a refusal with its place.
use Rattle.std.specs.Prelude.{Result, Option}
use Rattle.ground.specs.declared.Refusal.{Refusal}
use Rattle.lexis.specs.declared.Reader.{Reader}
use Rattle.form.specs.declared.Declared.{Declared}

abbrev pub Form : Type 0
Form = Result (Option (Declared × Reader)) Refusal
