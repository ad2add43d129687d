-- `KindSet::min` meets its contract, by `lowest`. Assumes nothing.
use Rattle.std.proofs.Common.{arith}
use Rattle.relation.proofs.Walking.{none_before}
use Rattle.relation.proofs.KindSet.min.Goals as goal

pub returns : goal.returns
returns c = none_before (omega arith) c.lowest-kind.ensures (omega arith) (omega arith)
