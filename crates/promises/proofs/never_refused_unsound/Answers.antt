-- The law is `stays_never_5`.
use Rattle.stores.proofs.StoredNeverLaws.{stays_never_5}
use Rattle.promises.proofs.never_refused_unsound.Goals as goal

pub returns : goal.returns
returns c = stays_never_5
