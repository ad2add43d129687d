-- `Relation::insert_all` meets its contract, by `added_row`. Assumes nothing.
use Rattle.std.proofs.Common.{arith}
use Rattle.relation.proofs.BitLaws.{added_row}
use Rattle.relation.proofs.Relation.insert_all.Goals as goal

pub returns : goal.returns
returns c = added_row _ _ (omega arith) _ c.union.ensures
