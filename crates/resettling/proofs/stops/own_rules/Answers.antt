-- `resettling::stops::own_rules` meets its contract. The loop's invariant: the kinds below c are stops where they have their own rule, and no other
-- kind is. Assumes nothing.
use Rattle.std.proofs.Common.{arith, ◌≡◌}
use Rattle.resettling.proofs.StopLaws.{has_own, no_own, stopping_none, stopping_with, stopping_keep}
use Rattle.resettling.proofs.stops.own_rules.Goals as goal
use Rattle.resettling.proofs.stops.own_rules.Goals.{then-rules-c-ne0, else-rules-c-ne0}

pub loop-c-init : goal.loop-c-init
loop-c-init c = stopping_none _ _ _

pub loop-c-preserved : goal.loop-c-preserved
loop-c-preserved c = elim c.if-rules-c-ne0.branch [
  | then-rules-c-ne0 w ↦ rw w.stops-is (stopping_with _ _ _ (omega arith) c.loop-c.invariant (has_own _ _ _ c.loop-c.c w.if-rules-c-ne0.true) w.with-stops.ensures)
  | else-rules-c-ne0 w ↦ rw w.stops-is (stopping_keep _ _ _ (omega arith) c.loop-c.invariant (no_own _ _ _ c.loop-c.c w.if-rules-c-ne0.false))
]

pub returns : goal.returns
returns c =
    let end : c.loop-c.c ≡ c.args.n = omega arith in
    (rw (end, c.from-j.ensures) at c.loop-c.invariant).done
