-- `deciding::decide_eight` meets its contract. The loop's invariant: the marks from `from` to below j are decided, the others as they were. Assumes nothing.
use Rattle.deciding.specs.Deciding.{apart, decided_at}
use Rattle.deciding.specs.Row.{Changed}
use Rattle.deciding.proofs.decide_eight.Given as goal

abbrev pub invariant-loop-j : goal.invariant-loop-j
invariant-loop-j l = Changed l.from l.j (λ i x. apart l.c x (decided_at l.prepared l.c i)) l.initial.out l.out
