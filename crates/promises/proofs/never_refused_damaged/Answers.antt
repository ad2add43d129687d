-- The law is `stays_never_10`.
use Rattle.stores.proofs.StoredNeverLaws.{stays_never_10}
use Rattle.promises.proofs.never_refused_damaged.Goals as goal

pub returns : goal.returns
returns c = stays_never_10
