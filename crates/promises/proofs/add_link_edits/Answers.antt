-- The law is `add_link_edits`.
use Rattle.tables.proofs.EditLaws as laws
use Rattle.promises.proofs.add_link_edits.Goals as goal

pub returns : goal.returns
returns c = laws.add_link_edits
