-- `deciding::decide_row` meets its contract. The loop's invariant: the marks of the groups below q are decided, those from 8 * q on as they were. Assumes nothing.
use Rattle.std.proofs.Common.{◌*◌, ◌/◌}
use Rattle.deciding.specs.Deciding.{apart, decided_at}
use Rattle.deciding.proofs.Rows.{Progress}
use Rattle.deciding.proofs.decide_row.Given as goal

abbrev pub invariant-loop-q : goal.invariant-loop-q
invariant-loop-q l = Progress (8 * (l.fn.marks.lo / 8)) (8 * l.q) (λ i x. apart l.c x (decided_at l.prepared l.c i)) l.initial.out l.out
