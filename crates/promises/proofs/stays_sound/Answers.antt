-- The law is `stays_sound`.
use Rattle.stores.proofs.StoredBookLaws as laws
use Rattle.promises.proofs.stays_sound.Goals as goal

pub returns : goal.returns
returns c = laws.stays_sound
