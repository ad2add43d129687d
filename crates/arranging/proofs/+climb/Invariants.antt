-- The measure of `climb` is the count of kinds not yet visited: it falls where c is marked, and no kind is unvisited again.
-- The loop's invariant: the parents before some place are gone through, and those from it on are left. Assumes nothing.
use Rattle.std.proofs.Common.{ℕ}
use Rattle.inheritance.specs.Above.{count}
use Rattle.relation.specs.Bit.{bit}
use Rattle.relation.proofs.Taking.{Rest, left}
use Rattle.arranging.specs.Arranged.{unvisited}
use Rattle.arranging.proofs.Climbing.{Climbing}
use Rattle.arranging.proofs.+climb.Given as goal

abbrev pub decreases-climb : goal.decreases-climb
decreases-climb l = count (unvisited l.states.now) l.n

abbrev pub invariant-loop-parent : goal.invariant-loop-parent
invariant-loop-parent l =
    (p : ℕ) × Rest (bit l.rows l.c) p l.rest
    × Climbing l.n (bit l.rows) l.c p l.k l.good l.above l.initial.states l.states l.order l.initial.reach l.reach

abbrev pub decreases-loop-parent : goal.decreases-loop-parent
decreases-loop-parent l = left l.rest
