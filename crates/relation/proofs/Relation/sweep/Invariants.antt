-- `Relation::sweep` meets its contract. The loop's invariant: the stage has been through the rows below c. Assumes nothing.
use Rattle.relation.specs.Closed.{Swept}
use Rattle.relation.proofs.Relation.sweep.Given as goal

abbrev pub invariant-loop-c : goal.invariant-loop-c
invariant-loop-c l = Swept l.k l.c l.initial.self l.self
