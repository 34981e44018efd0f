use Rattle.keywords.proofs.Letters.{here, behind}
use Rattle.kinds.specs.Kinds.{kind_at}
use Rattle.ground.specs.Text.{bytes}
use mathlib.Core.Path.{◌∙◌}
use Rattle.keywords.proofs.keyword.Goals as goal

pub returns-then-same_bytes : goal.returns-then-same_bytes
unfolding kind_at bytes
returns-then-same_bytes c = here _ "input" _ _ c.same_bytes.ensures c.if-same_bytes.true

pub returns-then-same_bytes-2 : goal.returns-then-same_bytes-2
unfolding kind_at bytes
returns-then-same_bytes-2 c = here _ "output" _ _ c.same_bytes-2.ensures c.if-same_bytes-2.true ∙ behind _ "input" _ _ c.same_bytes.ensures c.if-same_bytes.false

pub returns-then-same_bytes-3 : goal.returns-then-same_bytes-3
unfolding kind_at bytes
returns-then-same_bytes-3 c = here _ "buf" _ _ c.same_bytes-3.ensures c.if-same_bytes-3.true ∙ behind _ "output" _ _ c.same_bytes-2.ensures c.if-same_bytes-2.false ∙ behind _ "input" _ _ c.same_bytes.ensures c.if-same_bytes.false

pub returns-then-same_bytes-4 : goal.returns-then-same_bytes-4
unfolding kind_at bytes
returns-then-same_bytes-4 c = here _ "not" _ _ c.same_bytes-4.ensures c.if-same_bytes-4.true ∙ behind _ "buf" _ _ c.same_bytes-3.ensures c.if-same_bytes-3.false ∙ behind _ "output" _ _ c.same_bytes-2.ensures c.if-same_bytes-2.false ∙ behind _ "input" _ _ c.same_bytes.ensures c.if-same_bytes.false

pub returns-then-same_bytes-5 : goal.returns-then-same_bytes-5
unfolding kind_at bytes
returns-then-same_bytes-5 c = here _ "and" _ _ c.same_bytes-5.ensures c.if-same_bytes-5.true ∙ behind _ "not" _ _ c.same_bytes-4.ensures c.if-same_bytes-4.false ∙ behind _ "buf" _ _ c.same_bytes-3.ensures c.if-same_bytes-3.false ∙ behind _ "output" _ _ c.same_bytes-2.ensures c.if-same_bytes-2.false ∙ behind _ "input" _ _ c.same_bytes.ensures c.if-same_bytes.false

pub returns-then-same_bytes-6 : goal.returns-then-same_bytes-6
unfolding kind_at bytes
returns-then-same_bytes-6 c = here _ "or" _ _ c.same_bytes-6.ensures c.if-same_bytes-6.true ∙ behind _ "and" _ _ c.same_bytes-5.ensures c.if-same_bytes-5.false ∙ behind _ "not" _ _ c.same_bytes-4.ensures c.if-same_bytes-4.false ∙ behind _ "buf" _ _ c.same_bytes-3.ensures c.if-same_bytes-3.false ∙ behind _ "output" _ _ c.same_bytes-2.ensures c.if-same_bytes-2.false ∙ behind _ "input" _ _ c.same_bytes.ensures c.if-same_bytes.false

pub returns : goal.returns
unfolding kind_at bytes
returns c = c.late_keyword.ensures ∙ behind _ "or" _ _ c.same_bytes-6.ensures c.if-same_bytes-6.false ∙ behind _ "and" _ _ c.same_bytes-5.ensures c.if-same_bytes-5.false ∙ behind _ "not" _ _ c.same_bytes-4.ensures c.if-same_bytes-4.false ∙ behind _ "buf" _ _ c.same_bytes-3.ensures c.if-same_bytes-3.false ∙ behind _ "output" _ _ c.same_bytes-2.ensures c.if-same_bytes-2.false ∙ behind _ "input" _ _ c.same_bytes.ensures c.if-same_bytes.false
