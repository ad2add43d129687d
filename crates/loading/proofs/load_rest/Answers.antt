-- `loading::load_rest` meets its contract. The loop's invariant: row c has its links below p. Assumes nothing.
use Rattle.std.proofs.Common.{arith, ◌≡◌}
use Rattle.loading.proofs.Filling.{filled_mark, filled_keep, filled_end}
use Rattle.loading.proofs.load_rest.Goals as goal
use Rattle.loading.proofs.load_rest.Goals.{then-links-c-eq1, else-links-c-eq1}

pub loop-p-preserved : goal.loop-p-preserved
loop-p-preserved c = elim c.if-links-c-eq1.branch [
  | then-links-c-eq1 w ↦ rw w.rows-is (filled_mark _ _ _ _ _ _ (omega arith) (omega arith) c.loop-p.invariant w.if-links-c-eq1.true w.insert.ensures)
  | else-links-c-eq1 w ↦ rw w.rows-is (filled_keep _ _ _ _ _ c.loop-p.invariant w.if-links-c-eq1.false)
]

pub returns : goal.returns
returns c =
    let end : c.loop-p.p ≡ c.args.n = omega arith in
    filled_end _ _ _ _ (rw end at c.loop-p.invariant)
