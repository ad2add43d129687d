-- `merging::merge_row` meets its contract. The loop's invariant: the marks below j are merged, the others as they were. Assumes nothing.
use Rattle.std.proofs.Common.{get_or, ◌+◌}
use Rattle.merging.specs.Merged.{merged}
use Rattle.deciding.proofs.Rows.{Progress}
use Rattle.merging.proofs.merge_row.Given as goal

abbrev pub invariant-loop-j : goal.invariant-loop-j
invariant-loop-j l = Progress l.fn.marks.lo l.j (λ i x. merged l.c x (get_or l.entries (l.row + i) 0)) l.initial.out l.out
