-- `Relation::close` meets its contract. The loop's invariant: the rows are closed over chains through kinds below k. Assumes nothing.
use Rattle.relation.specs.Closed.{Closed}
use Rattle.relation.proofs.Relation.close.Given as goal

abbrev pub invariant-loop-k : goal.invariant-loop-k
invariant-loop-k l = Closed l.n l.k l.initial.self l.self
