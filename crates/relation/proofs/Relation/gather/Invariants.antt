-- `Relation::gather` meets its contract. The loop's invariant: the kinds of the rows gone through are gathered. Assumes nothing.
use Rattle.relation.specs.Closed.{ParentsGathered}
use Rattle.relation.proofs.Relation.gather.Given as goal

abbrev pub invariant-loop-row : goal.invariant-loop-row
invariant-loop-row l = ParentsGathered l.row-index l.self l.parents
