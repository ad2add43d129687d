-- `KindSet::with_octet` meets its contract, by `octet_low` and `octet_high`. Assumes nothing.
use Rattle.std.proofs.Common.{arith}
use Rattle.relation.proofs.Octets.{octet_low, octet_high}
use Rattle.relation.proofs.KindSet.with_octet.Goals as goal

pub returns-then-q-lt8 : goal.returns-then-q-lt8
returns-then-q-lt8 c = octet_low c.args.self c.args.q c.args.bits (omega arith) (omega arith)

pub returns : goal.returns
returns c = octet_high c.args.self c.args.q c.args.bits (omega arith) (omega arith) (omega arith)
