-- `settling::settle` meets its contract. The loop's invariant: the kinds at the last t places are worked out, and the counts are those of the entries.
-- Assumes nothing.
use Prim.Native.Nat.{◌≤◌}
use Rattle.counting.specs.Counting.{Counted}
use Rattle.relation.specs.Bit.{bit}
use Rattle.settling.specs.Settled.{Settling}
use Rattle.settling.proofs.settle.Given as goal

abbrev pub invariant-loop-t : goal.invariant-loop-t
invariant-loop-t l =
    (l.t ≤ l.n) × Settling l.n l.marks.size.m l.marks.lo l.marks.hi (bit l.prepared.order.rows) l.rules l.visited l.prepared.order.kinds l.t l.initial.entries l.entries l.count × Counted l.marks.size.m l.entries l.disputes
