-- `ruling::mark_octets` meets its contract. The loop's invariant: the marks below j are gone through. Assumes nothing.
use Rattle.relation.specs.Bit.{Added}
use Rattle.ruling.proofs.RulingLaws.{eights}
use Rattle.ruling.proofs.mark_octets.Given as goal

abbrev pub invariant-loop-j : goal.invariant-loop-j
invariant-loop-j l = Added l.initial.ruled l.ruled (eights l.q l.bits l.j)
