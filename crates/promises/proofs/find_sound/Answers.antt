-- The law is `find_sound`, and its words for what is found are the same.
use Rattle.tables.proofs.CallLaws as laws
use Rattle.promises.proofs.find_sound.Goals as goal

pub returns : goal.returns
returns c = laws.find_sound
