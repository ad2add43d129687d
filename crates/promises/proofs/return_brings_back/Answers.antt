-- The law is `return_brings_back`.
use Rattle.stores.proofs.ReturnLaws as laws
use Rattle.promises.proofs.return_brings_back.Goals as goal

pub returns : goal.returns
returns c = laws.return_brings_back
