-- `merging::own` meets its contract. Assumes nothing.
use Rattle.merging.proofs.MergeLaws.{no_rule, own_rule}
use Rattle.merging.proofs.own.Goals as goal

pub returns-then-rule-eq0 : goal.returns-then-rule-eq0
returns-then-rule-eq0 c = no_rule _ _ _ c.if-rule-eq0.true

pub returns-else-rule-eq0 : goal.returns-else-rule-eq0
returns-else-rule-eq0 c = own_rule _ _ _ c.if-rule-eq0.false
