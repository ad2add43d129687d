-- The law is `list_whole`.
use Rattle.tables.proofs.ListStepLaws as laws
use Rattle.promises.proofs.list_whole.Goals as goal

pub returns : goal.returns
returns c = laws.list_whole
