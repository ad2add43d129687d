-- The law is `refresh_renews`.
use Rattle.tables.proofs.EditLaws as laws
use Rattle.promises.proofs.refresh_renews.Goals as goal

pub returns : goal.returns
returns c = laws.refresh_renews
