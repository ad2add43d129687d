-- `KindSet::first` meets its contract: what is found from `end` on counts for nothing. Assumes nothing.
use Rattle.std.proofs.Common.{arith}
use Rattle.relation.proofs.Walking.{found_before, none_before}
use Rattle.relation.proofs.KindSet.first.Goals as goal

pub returns-then-kind-end : goal.returns-then-kind-end
returns-then-kind-end c = (found_before (omega arith) c.next-kind.ensures c.if-kind-end.true, c.if-kind-end.true)

pub returns : goal.returns
returns c = none_before (omega arith) c.next-kind.ensures (omega arith) (omega arith)
