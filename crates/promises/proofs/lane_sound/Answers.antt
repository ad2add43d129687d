-- The law is `lane_sound`.
use Rattle.tables.proofs.ControllerLaws as laws
use Rattle.promises.proofs.lane_sound.Goals as goal

pub returns : goal.returns
returns c = laws.lane_sound
