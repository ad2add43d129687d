-- The law is `return_never_5`.
use Rattle.stores.proofs.StoredNeverLaws.{return_never_5}
use Rattle.promises.proofs.return_never_refused_unsound.Goals as goal

pub returns : goal.returns
returns c = return_never_5
