-- `Relation::turn` meets its contract. The loop's invariant: the rows below c are turned, and nothing else is there. Assumes nothing.
use Rattle.relation.specs.Turned.{Turned}
use Rattle.relation.proofs.Relation.turn.Given as goal

abbrev pub invariant-loop-c : goal.invariant-loop-c
invariant-loop-c l = Turned l.c l.rows l.self
