-- `KindSet::lowest` meets its contract: the low word has the first kind, or else the high one. Assumes nothing.
use Rattle.std.proofs.Common.{arith}
use Rattle.relation.proofs.Walking.{set_low, set_both}
use Rattle.relation.proofs.KindSet.lowest.Goals as goal

pub returns-then-low-lt64 : goal.returns-then-low-lt64
returns-then-low-lt64 c = set_low _ c.first_bit-low.ensures c.if-low-lt64.true

pub returns-else-low-lt64 : goal.returns-else-low-lt64
returns-else-low-lt64 c = set_both _ (omega arith) c.first_bit-low.ensures (omega arith) c.first_bit-high.ensures
