-- `Relation::empty` meets its contract: a relation of empty sets is blank. Assumes nothing.
use Rattle.relation.proofs.Zeros.{blank_empty}
use Rattle.relation.proofs.Relation.empty.Goals as goal

pub returns : goal.returns
returns c = blank_empty 128
