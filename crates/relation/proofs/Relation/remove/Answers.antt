-- `Relation::remove` meets its contract, by `removed_row`. Assumes nothing.
use Rattle.std.proofs.Common.{arith}
use Rattle.relation.proofs.BitLaws.{removed_row}
use Rattle.relation.proofs.Relation.remove.Goals as goal

pub returns : goal.returns
returns c = removed_row _ _ (omega arith) _ c.without.ensures
