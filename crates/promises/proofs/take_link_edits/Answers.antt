-- The law is `take_link_edits`.
use Rattle.tables.proofs.EditLaws as laws
use Rattle.promises.proofs.take_link_edits.Goals as goal

pub returns : goal.returns
returns c = laws.take_link_edits
