use Rattle.std.proofs.Common.{rules}
use Rattle.stream.proofs.BufferLaws.{added}
use Rattle.stream.proofs.buffers.add.Goals as goal

pub returns : goal.returns
returns c = added _ _ _ c.remaining_capacity.ensures c.min-more.ensures (search rules)
