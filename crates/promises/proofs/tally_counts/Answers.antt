-- The law is `tally_counts`.
use Rattle.stores.proofs.StoredTallyLaws as laws
use Rattle.promises.proofs.tally_counts.Goals as goal

pub returns : goal.returns
returns c = laws.tally_counts
