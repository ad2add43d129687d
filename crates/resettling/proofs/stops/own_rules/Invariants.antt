-- `resettling::stops::own_rules` meets its contract. The loop's invariant: the kinds below c are stops where they have their own rule, and no other
-- kind is. Assumes nothing.
use Rattle.resettling.proofs.StopLaws.{Stopping}
use Rattle.resettling.proofs.stops.own_rules.Given as goal

abbrev pub invariant-loop-c : goal.invariant-loop-c
invariant-loop-c l = Stopping l.c l.m l.rules l.j l.stops
