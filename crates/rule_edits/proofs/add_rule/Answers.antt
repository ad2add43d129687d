-- `rule_edits::add_rule` meets its contract, by `added_rule`. Assumes nothing.
use mathlib.Core.Path.{◌∙◌}
use Rattle.rule_edits.proofs.RuleEditLaws.{added_rule}
use Rattle.rule_edits.proofs.add_rule.Goals as goal

pub returns : goal.returns
returns c = c.change_rule.ensures ∙ added_rule _ _ _ _ _ _ _
