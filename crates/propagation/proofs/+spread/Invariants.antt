-- The measure of `spread` is the count of kinds not yet visited: it falls where k is visited, and the set only grows.
-- The loop's invariant: the walk from k has passed the children before some place, and those from it on are left. Assumes nothing.
use Rattle.std.proofs.Common.{ℕ}
use Rattle.relation.specs.Bit.{bit}
use Rattle.relation.proofs.Taking.{Rest, left}
use Rattle.propagation.specs.Spread.{under, stop, unvisited}
use Rattle.propagation.proofs.Walk.{Passing}
use Rattle.propagation.proofs.+spread.Given as goal

abbrev pub decreases-spread : goal.decreases-spread
decreases-spread l = unvisited l.n l.before

abbrev pub invariant-loop-c : goal.invariant-loop-c
invariant-loop-c l =
    (i : ℕ) × Rest (bit l.onward l.k) i l.rest × Passing l.n (under l.onward) (stop l.stops) l.k l.initial.visited l.visited i

abbrev pub decreases-loop-c : goal.decreases-loop-c
decreases-loop-c l = left l.rest
