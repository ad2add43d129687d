-- `writing::write_row` meets its contract. The loop's invariant: the marks below j are written, and the counts are those of the entries. Assumes nothing.
use Prim.Native.Nat.{◌≤◌}
use lib.ListN.{get_or}
use Rattle.counting.specs.Counting.{Counted}
use Rattle.writing.specs.Written.{Written}
use Rattle.writing.proofs.write_row.Given as goal

abbrev pub invariant-loop-j : goal.invariant-loop-j
invariant-loop-j l =
    (l.fn.marks.lo ≤ l.j) × (l.j ≤ l.fn.marks.hi) × (l.count ≤ l.j) × Written l.m l.fn.marks.lo l.j l.c (λ i. get_or l.out i 0) l.initial.entries l.entries l.count × Counted l.m l.entries l.disputes
