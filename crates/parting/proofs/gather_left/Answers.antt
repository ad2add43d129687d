-- `parting::gather_left` meets its contract. The loop's invariant: the places below i are gone through. Assumes nothing.
use Rattle.std.proofs.Common.{ap₂, arith, sym, ◌∙◌}
use mathlib.Core.Bool.{◌&&◌}
use Rattle.parting.proofs.PartingLaws.{gathered_none, gathered_take, gathered_skip}
use Rattle.parting.proofs.gather_left.Goals as goal
use Rattle.parting.proofs.gather_left.Goals.{then-has, else-has}

pub loop-i-init : goal.loop-i-init
loop-i-init c = gathered_none c.args.prepared.now _ _ _ c.requires.3

pub loop-i-preserved : goal.loop-i-preserved
loop-i-preserved c =
    let tested = ap₂ ◌&&◌ (sym c.has.ensures) (sym c.has-in-loop-i.ensures) in
    elim c.if-has.branch [
      | then-has w ↦ rw (w.left-is, w.above-is)
          (gathered_take c.args.prepared.now _ _ _ c.requires.3 _ c.requires.0 (omega arith) (tested ∙ w.if-has.true) w.take_place.ensures.left w.take_place.ensures.above c.loop-i.invariant)
      | else-has w ↦ rw (w.left-is, w.above-is) (gathered_skip c.args.prepared.now _ _ _ c.requires.3 _ (omega arith) (tested ∙ w.if-has.false) c.loop-i.invariant)
    ]
