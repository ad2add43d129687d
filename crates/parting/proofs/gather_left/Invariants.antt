-- `parting::gather_left` meets its contract. The loop's invariant: the places below i are gone through. Assumes nothing.
use Rattle.parting.specs.Parting.{LeftGathered}
use Rattle.parting.proofs.gather_left.Given as goal

abbrev pub invariant-loop-i : goal.invariant-loop-i
invariant-loop-i l = LeftGathered l.n l.order.kinds l.order.reach l.prepared.ruled l.c l.j l.i l.left l.above
