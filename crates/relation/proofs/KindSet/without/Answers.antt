-- `KindSet::without` meets its contract, by `without_low` and `without_high`. Assumes nothing.
use Rattle.std.proofs.Common.{arith}
use Rattle.relation.proofs.BitLaws.{without_low, without_high}
use Rattle.relation.proofs.KindSet.without.Goals as goal

pub returns-then-kind-lt64 : goal.returns-then-kind-lt64
returns-then-kind-lt64 c = without_low c.args.self c.args.kind (omega arith)

pub returns : goal.returns
returns c = without_high c.args.self c.args.kind (omega arith) (omega arith)
