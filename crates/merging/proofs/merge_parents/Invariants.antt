-- `merging::merge_parents` meets its contract. The loop's invariant: the row has what the parents before some place give, and those from it on are
-- left. Assumes nothing.
use Rattle.std.proofs.Common.{ℕ, ◌≤◌}
use Rattle.relation.specs.Bit.{bit}
use Rattle.relation.proofs.Taking.{Rest, left}
use Rattle.deciding.specs.Row.{Row}
use Rattle.merging.specs.Merged.{given}
use Rattle.merging.proofs.merge_parents.Given as goal

abbrev pub invariant-loop-p : goal.invariant-loop-p
invariant-loop-p l = (i : ℕ) × (i ≤ l.marks.size.n) × Rest (bit l.rows l.c) i l.rest × Row l.marks.lo l.marks.hi (given l.marks.size.m (bit l.rows) l.entries l.c i) l.out

abbrev pub decreases-loop-p : goal.decreases-loop-p
decreases-loop-p l = left l.rest
