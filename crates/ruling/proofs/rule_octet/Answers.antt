-- `ruling::rule_octet` meets its contract. The loop's invariant: the bits of the first k places are there. Assumes nothing.
use Rattle.std.proofs.Common.{arith}
use Rattle.relation.proofs.Octets.{octet_none, octet_more}
use Rattle.ruling.proofs.rule_octet.Goals as goal

pub loop-k-init : goal.loop-k-init
loop-k-init c = octet_none _

pub loop-k-preserved : goal.loop-k-preserved
loop-k-preserved c = rw c.from-in-loop-k.ensures (octet_more _ _ _ (omega arith) (rw c.from.ensures at c.has_rule.ensures) c.loop-k.invariant)
