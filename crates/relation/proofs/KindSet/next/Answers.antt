-- `KindSet::next` meets its contract: the words are looked at in turn. Assumes nothing.
use Rattle.std.proofs.Common.{arith}
use Rattle.relation.proofs.Walking.{set_low, set_high, set_both}
use Rattle.relation.proofs.KindSet.next.Goals as goal

pub returns-then-from-ge64 : goal.returns-then-from-ge64
returns-then-from-ge64 c = set_high _ (omega arith) c.first_bit.ensures

pub returns-then-low-lt64 : goal.returns-then-low-lt64
returns-then-low-lt64 c = set_low _ c.first_bit-low.ensures c.if-low-lt64.true

pub returns : goal.returns
returns c = set_both _ (omega arith) c.first_bit-low.ensures (omega arith) c.first_bit-2.ensures
