-- The law is `state_is_last_saved`.
use Rattle.stores.proofs.SavedLaws as laws
use Rattle.promises.proofs.state_is_last_saved.Goals as goal

pub returns : goal.returns
returns c = laws.state_is_last_saved
