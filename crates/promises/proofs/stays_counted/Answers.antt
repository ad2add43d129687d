-- The law is `stays_counted`.
use Rattle.stores.proofs.StoredBookLaws as laws
use Rattle.promises.proofs.stays_counted.Goals as goal

pub returns : goal.returns
returns c = laws.stays_counted
