-- `deciding::decide_row` meets its contract. The loop's invariant: the marks of the groups below q are decided, those from 8 * q on as they were. Assumes nothing.
use Rattle.std.proofs.Common.{sym, ◌∙◌}
use Rattle.deciding.proofs.ApartLaws.{eight_kept}
use Rattle.deciding.proofs.Rows.{progress_kept, progress_changed}
use Rattle.deciding.proofs.decide_row.Goals as goal
use Rattle.deciding.proofs.decide_row.Goals.{then-not-eight_agreed, else-not-eight_agreed}

pub loop-q-preserved : goal.loop-q-preserved
loop-q-preserved c = elim c.if-not-eight_agreed.branch [
  | then-not-eight_agreed w ↦ rw w.out-is (progress_changed c.loop-q.q c.loop-q.invariant w.decide_eight.ensures)
  | else-not-eight_agreed w ↦ rw w.out-is (progress_kept c.loop-q.q c.loop-q.invariant (eight_kept _ _ c.loop-q.out _ (sym c.eight_agreed.ensures ∙ w.if-not-eight_agreed.false)))
]
