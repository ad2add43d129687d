-- `parting::take_place` meets its contract: the row that is joined has the places above the kind. Assumes nothing.
use Rattle.parting.proofs.PartingLaws.{taken_above}
use Rattle.parting.proofs.take_place.Goals as goal

pub returns-clause-above : goal.returns-clause-above
returns-clause-above c = taken_above _ _ (rw c.from-o.ensures at c.row.ensures) c.union.ensures
