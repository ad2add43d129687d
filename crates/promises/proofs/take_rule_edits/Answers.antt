-- The law is `take_rule_edits`.
use Rattle.tables.proofs.EditLaws as laws
use Rattle.promises.proofs.take_rule_edits.Goals as goal

pub returns : goal.returns
returns c = laws.take_rule_edits
