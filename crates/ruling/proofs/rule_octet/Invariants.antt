-- `ruling::rule_octet` meets its contract. The loop's invariant: the bits of the first k places are there. Assumes nothing.
use Rattle.std.proofs.Common.{get_or, ◌+◌}
use Rattle.tables.specs.Tables.{own_of}
use Rattle.relation.specs.Bit.{Octet}
use Rattle.ruling.proofs.rule_octet.Given as goal

abbrev pub invariant-loop-k : goal.invariant-loop-k
invariant-loop-k l = Octet (λ p. own_of l.m l.rules l.j (get_or l.order (l.i + p) 0)) l.k l.bits
