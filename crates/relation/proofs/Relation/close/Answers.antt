-- `Relation::close` meets its contract. Assumes nothing.
use Rattle.std.proofs.Common.{arith, sym, ◌<◌, ◌∙◌}
use Rattle.relation.proofs.Warshall.{swept_past, closed_none, closed_more}
use Rattle.relation.proofs.Relation.close.Goals as goal
use Rattle.relation.proofs.Relation.close.Goals.{then-contains, else-contains}

pub loop-k-init : goal.loop-k-init
loop-k-init c = closed_none _ _

pub loop-k-preserved : goal.loop-k-preserved
loop-k-preserved c =
    let h : c.loop-k.k < c.args.n = omega arith in
    let s = c.loop-k.invariant in
    elim c.if-contains.branch [
      | then-contains w ↦ rw w.self-is (closed_more _ _ _ _ _ c.requires h s w.sweep.ensures)
      | else-contains w ↦ rw w.self-is (closed_more _ _ _ _ _ c.requires h s
          (swept_past _ _ _ _ c.requires h (λ d hd. c.gather-parents.ensures.none d c.loop-k.k hd (omega arith) (sym c.contains.ensures ∙ w.if-contains.false)) s))
    ]
