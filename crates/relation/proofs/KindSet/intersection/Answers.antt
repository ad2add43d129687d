-- `KindSet::intersection` meets its contract, by `shared_all`. Assumes nothing.
use Rattle.relation.proofs.BitLaws.{shared_all}
use Rattle.relation.proofs.KindSet.intersection.Goals as goal

pub returns : goal.returns
returns c = shared_all c.args.self c.args.other
