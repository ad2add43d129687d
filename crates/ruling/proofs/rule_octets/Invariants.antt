-- `ruling::rule_octets` meets its contract. The loop's invariant: the marks below j have their bits. Assumes nothing.
use Rattle.ruling.specs.Ruling.{Octets}
use Rattle.ruling.proofs.rule_octets.Given as goal

abbrev pub invariant-loop-j : goal.invariant-loop-j
invariant-loop-j l = Octets l.j l.m l.rules l.order l.i l.bits
