-- `merging::take_row` meets its contract. The loop's invariant: the marks below j are taken, the others as they were. Assumes nothing.
use Rattle.std.proofs.Common.{get_or, ◌+◌}
use Rattle.deciding.proofs.Rows.{Progress}
use Rattle.merging.proofs.take_row.Given as goal

abbrev pub invariant-loop-j : goal.invariant-loop-j
invariant-loop-j l = Progress l.fn.marks.lo l.j (λ i x. get_or l.entries (l.row + i) 0) l.initial.out l.out
