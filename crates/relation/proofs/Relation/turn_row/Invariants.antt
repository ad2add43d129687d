-- `Relation::turn_row` meets its contract. The loop's invariant: c is added to the rows of the kinds before some place, and those from it on are left.
-- Assumes nothing.
use Rattle.std.proofs.Common.{ℕ, ◌≤◌}
use Rattle.relation.specs.Bit.{holds, Added}
use Rattle.relation.proofs.Taking.{Rest, left}
use Rattle.relation.proofs.Turning.{below}
use Rattle.relation.proofs.Relation.turn_row.Given as goal

abbrev pub invariant-loop-p : goal.invariant-loop-p
invariant-loop-p l = (i : ℕ) × (i ≤ 128) × Rest (holds l.fn.row) i l.rest × Added l.initial.self l.self (below l.c (holds l.fn.row) i)

abbrev pub decreases-loop-p : goal.decreases-loop-p
decreases-loop-p l = left l.rest
