-- `ruling::rule_rest` meets its contract. The loop's invariant: the places below i are gone through. Assumes nothing.
use Rattle.ruling.specs.Ruling.{Ruled}
use Rattle.ruling.proofs.rule_rest.Given as goal

abbrev pub invariant-loop-i : goal.invariant-loop-i
invariant-loop-i l = Ruled l.i l.size.m l.rules l.order l.ruled
