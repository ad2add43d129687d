-- `merging::own_row` meets its contract. The loop's invariant: the marks below j have their own rules, the others are as they were, and
-- `all` says whether no entry below j says that the parents differ. Assumes nothing.
use Rattle.std.proofs.Common.{ap, arith, ◌∙◌}
use Rattle.merging.specs.Merged.{ruled}
use Rattle.deciding.proofs.Rows.{progress_none, progress_store}
use Rattle.merging.proofs.NarrowLaws.{agreed_none, agreed_more}
use Rattle.merging.proofs.own_row.Goals as goal

pub loop-j-init : goal.loop-j-init
loop-j-init c = (progress_none _ _ _ c.requires.1, agreed_none _ _ _)

pub loop-j-preserved : goal.loop-j-preserved
loop-j-preserved c = (
  progress_store _ c.loop-j.invariant.0 (omega arith) c.own-e.ensures,
  agreed_more _ _ _ c.loop-j.auto.j c.loop-j.invariant.1 (c.own-e.ensures ∙ ap (ruled _ _) (c.loop-j.invariant.0.left _ (omega arith))),
)
