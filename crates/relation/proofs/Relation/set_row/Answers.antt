-- `Relation::set_row` meets its contract, by `row_set`. Assumes nothing.
use Rattle.std.proofs.Common.{arith}
use Rattle.relation.proofs.BitLaws.{row_set}
use Rattle.relation.proofs.Relation.set_row.Goals as goal

pub returns : goal.returns
returns c = row_set _ _ (omega arith) _
