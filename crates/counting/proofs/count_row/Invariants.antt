-- `counting::count_row` meets its contract. The loop's invariant: the entries of the marks below j are counted in. Assumes nothing.
use Rattle.counting.specs.Counting.{Counting}
use Rattle.counting.proofs.count_row.Given as goal

abbrev pub invariant-loop-j : goal.invariant-loop-j
invariant-loop-j l = Counting l.c l.j l.m l.entries l.counts
