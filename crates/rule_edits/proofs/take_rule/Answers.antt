-- `rule_edits::take_rule` meets its contract, by `taken_rule`. Assumes nothing.
use mathlib.Core.Path.{◌∙◌}
use Rattle.rule_edits.proofs.RuleEditLaws.{taken_rule}
use Rattle.rule_edits.proofs.take_rule.Goals as goal

pub returns : goal.returns
returns c = c.change_rule.ensures ∙ taken_rule _ _ _ _ _ _
