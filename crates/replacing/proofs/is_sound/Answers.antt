-- `replacing::is_sound` meets its contract: it is what `examine` answers on scratch that is blank. Assumes nothing.
use Rattle.replacing.proofs.is_sound.Goals as goal

pub examine-requires-clause-blank : goal.examine-requires-clause-blank
examine-requires-clause-blank c = (c.empty-prepared.ensures.rows, c.empty-prepared.ensures.reach, c.empty-prepared.ensures.ruled)
