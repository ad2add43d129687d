-- `deciding::decide_eight` meets its contract. The loop's invariant: the marks from `from` to below j are decided, the others as they were. Assumes nothing.
use Rattle.std.proofs.Common.{ap, arith, ◌∙◌}
use Rattle.inheritance.specs.Entry.{entry_of}
use Rattle.deciding.proofs.ApartLaws.{apart_at, apart_keeps}
use Rattle.deciding.proofs.DecidingLaws.{deciding_fits, places_common, places_held}
use Rattle.deciding.proofs.Rows.{changed_store, changed_kept}
use Rattle.deciding.proofs.decide_eight.Goals as goal
use Rattle.deciding.proofs.decide_eight.Goals.{then-out-j, else-out-j}

pub decide-requires : goal.decide-requires
decide-requires c =
    (c.requires.0, places_held _ c.args.prepared.now.ruled _ c.loop-j.j _ (places_common _ _ _ _ _ c.row-reached.ensures c.row.ensures c.intersection-near.ensures) _ c.requires.3)

pub entry-requires : goal.entry-requires
entry-requires c =
    rw (c.decide.ensures c.args.prepared.now.ruled c.loop-j.j (places_common _ _ _ _ _ c.row-reached.ensures c.row.ensures c.intersection-near.ensures)) (deciding_fits _ _ _ _ _ c.requires.0 c.requires.3)

pub loop-j-preserved : goal.loop-j-preserved
loop-j-preserved c =
    elim c.if-out-j.branch [
      | then-out-j w ↦ rw w.out-is (changed_store _ c.loop-j.invariant (omega arith) (omega arith)
          (w.entry.ensures ∙ ap entry_of (w.decide.ensures c.args.prepared.now.ruled c.loop-j.j (places_common _ _ _ _ _ c.row-reached.ensures w.row.ensures w.intersection-near.ensures)) ∙ apart_at _ _ _ w.if-out-j.true))
      | else-out-j w ↦ rw w.out-is (changed_kept c.loop-j.invariant (apart_keeps _ _ _ w.if-out-j.false))
    ]
