-- `lane::word` meets its contract: two bytes make one number, by `joined_at`. Assumes nothing.
use mathlib.Core.Path.{sym}
use Rattle.tables.proofs.ByteLaws.{joined_at}
use Rattle.lane.proofs.word.Goals as goal

pub returns : goal.returns
returns c = sym (joined_at 256 c.args.bytes.now c.args.i c.requires)
