-- `Relation::sweep` meets its contract. The loop's invariant: the stage has been through the rows below c. Assumes nothing.
use Rattle.std.proofs.Common.{arith, sym, ◌∙◌}
use Rattle.relation.specs.Bit.{bit}
use Rattle.relation.proofs.Warshall.{swept_keep, swept_join}
use Rattle.relation.proofs.Relation.sweep.Goals as goal
use Rattle.relation.proofs.Relation.sweep.Goals.{then-has, else-has}

pub loop-c-preserved : goal.loop-c-preserved
unfolding bit
loop-c-preserved c = elim c.if-has.branch [
  | then-has w ↦ rw w.self-is (swept_join _ _ _ _ _ (omega arith) c.loop-c.invariant (sym c.has.ensures ∙ w.if-has.true) w.insert_all.ensures)
  | else-has w ↦ rw w.self-is (swept_keep _ _ _ _ (omega arith) c.loop-c.invariant (sym c.has.ensures ∙ w.if-has.false))
]
