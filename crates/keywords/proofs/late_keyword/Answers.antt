use Rattle.keywords.proofs.Letters.{here, behind, nowhere}
use Rattle.kinds.specs.Kinds.{kind_at}
use Rattle.ground.specs.Text.{bytes}
use mathlib.Core.Path.{◌∙◌}
use Rattle.keywords.proofs.late_keyword.Goals as goal

pub returns-then-same_bytes : goal.returns-then-same_bytes
unfolding kind_at bytes
returns-then-same_bytes c = here _ "xor" _ _ c.same_bytes.ensures c.if-same_bytes.true

pub returns-then-same_bytes-2 : goal.returns-then-same_bytes-2
unfolding kind_at bytes
returns-then-same_bytes-2 c = here _ "mux" _ _ c.same_bytes-2.ensures c.if-same_bytes-2.true ∙ behind _ "xor" _ _ c.same_bytes.ensures c.if-same_bytes.false

pub returns-then-same_bytes-3 : goal.returns-then-same_bytes-3
unfolding kind_at bytes
returns-then-same_bytes-3 c = here _ "adc" _ _ c.same_bytes-3.ensures c.if-same_bytes-3.true ∙ behind _ "mux" _ _ c.same_bytes-2.ensures c.if-same_bytes-2.false ∙ behind _ "xor" _ _ c.same_bytes.ensures c.if-same_bytes.false

pub returns-then-same_bytes-4 : goal.returns-then-same_bytes-4
unfolding kind_at bytes
returns-then-same_bytes-4 c = here _ "eq" _ _ c.same_bytes-4.ensures c.if-same_bytes-4.true ∙ behind _ "adc" _ _ c.same_bytes-3.ensures c.if-same_bytes-3.false ∙ behind _ "mux" _ _ c.same_bytes-2.ensures c.if-same_bytes-2.false ∙ behind _ "xor" _ _ c.same_bytes.ensures c.if-same_bytes.false

pub returns-then-same_bytes-5 : goal.returns-then-same_bytes-5
unfolding kind_at bytes
returns-then-same_bytes-5 c = here _ "ult" _ _ c.same_bytes-5.ensures c.if-same_bytes-5.true ∙ behind _ "eq" _ _ c.same_bytes-4.ensures c.if-same_bytes-4.false ∙ behind _ "adc" _ _ c.same_bytes-3.ensures c.if-same_bytes-3.false ∙ behind _ "mux" _ _ c.same_bytes-2.ensures c.if-same_bytes-2.false ∙ behind _ "xor" _ _ c.same_bytes.ensures c.if-same_bytes.false

pub returns-then-same_bytes-6 : goal.returns-then-same_bytes-6
unfolding kind_at bytes
returns-then-same_bytes-6 c = here _ "slt" _ _ c.same_bytes-6.ensures c.if-same_bytes-6.true ∙ behind _ "ult" _ _ c.same_bytes-5.ensures c.if-same_bytes-5.false ∙ behind _ "eq" _ _ c.same_bytes-4.ensures c.if-same_bytes-4.false ∙ behind _ "adc" _ _ c.same_bytes-3.ensures c.if-same_bytes-3.false ∙ behind _ "mux" _ _ c.same_bytes-2.ensures c.if-same_bytes-2.false ∙ behind _ "xor" _ _ c.same_bytes.ensures c.if-same_bytes.false

pub returns : goal.returns
unfolding kind_at bytes
returns c = nowhere _ _ ∙ behind _ "slt" _ _ c.same_bytes-6.ensures c.if-same_bytes-6.false ∙ behind _ "ult" _ _ c.same_bytes-5.ensures c.if-same_bytes-5.false ∙ behind _ "eq" _ _ c.same_bytes-4.ensures c.if-same_bytes-4.false ∙ behind _ "adc" _ _ c.same_bytes-3.ensures c.if-same_bytes-3.false ∙ behind _ "mux" _ _ c.same_bytes-2.ensures c.if-same_bytes-2.false ∙ behind _ "xor" _ _ c.same_bytes.ensures c.if-same_bytes.false
