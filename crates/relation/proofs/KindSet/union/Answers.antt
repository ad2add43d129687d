-- `KindSet::union` meets its contract, by `gains_all`. Assumes nothing.
use Rattle.relation.proofs.BitLaws.{gains_all}
use Rattle.relation.proofs.KindSet.union.Goals as goal

pub returns : goal.returns
returns c = gains_all c.args.self c.args.other
