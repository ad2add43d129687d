-- The law is `add_rule_edits`.
use Rattle.tables.proofs.EditLaws as laws
use Rattle.promises.proofs.add_rule_edits.Goals as goal

pub returns : goal.returns
returns c = laws.add_rule_edits
