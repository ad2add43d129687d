-- `Relation::turn` meets its contract. Assumes nothing.
use Rattle.relation.specs.Bit.{bit}
use Rattle.relation.proofs.Turning.{turn_none, turn_more}
use Rattle.relation.proofs.Relation.turn.Goals as goal

pub loop-c-init : goal.loop-c-init
loop-c-init c = turn_none _ c.requires.1

pub loop-c-preserved : goal.loop-c-preserved
unfolding bit
loop-c-preserved c = turn_more _ _ c.loop-c.invariant c.turn_row.ensures
