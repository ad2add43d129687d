-- The law is `list_stopped`.
use Rattle.tables.proofs.ListStepLaws as laws
use Rattle.promises.proofs.list_stopped.Goals as goal

pub returns : goal.returns
returns c = laws.list_stopped
