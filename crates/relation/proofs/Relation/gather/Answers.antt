-- `Relation::gather` meets its contract. Assumes nothing.
use Rattle.std.proofs.Common.{arith}
use Rattle.relation.proofs.Gathering.{gathered_none, gathered_more}
use Rattle.relation.proofs.Relation.gather.Goals as goal

pub loop-row-init : goal.loop-row-init
loop-row-init c = gathered_none _ _

pub loop-row-preserved : goal.loop-row-preserved
loop-row-preserved c = gathered_more _ _ _ (omega arith) c.loop-row.invariant c.union-parents.ensures
