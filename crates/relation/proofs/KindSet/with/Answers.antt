-- `KindSet::with` meets its contract, by `with_low` and `with_high`. Assumes nothing.
use Rattle.std.proofs.Common.{arith}
use Rattle.relation.proofs.BitLaws.{with_low, with_high}
use Rattle.relation.proofs.KindSet.with.Goals as goal

pub returns-then-kind-lt64 : goal.returns-then-kind-lt64
returns-then-kind-lt64 c = with_low c.args.self c.args.kind (omega arith)

pub returns : goal.returns
returns c = with_high c.args.self c.args.kind (omega arith) (omega arith)
