-- The law is `inspect_sound`.
use Rattle.tables.proofs.CallLaws as laws
use Rattle.promises.proofs.inspect_sound.Goals as goal

pub returns : goal.returns
returns c = laws.inspect_sound
