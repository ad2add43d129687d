-- `deciding::eight_agreed` meets its contract. The loop's invariant: `all` says so of the entries so far. Assumes nothing.
use Rattle.std.proofs.Common.{refl}
use Rattle.tables.specs.Tables.{all_below}
use Rattle.deciding.proofs.ApartLaws.{eight_more}
use Rattle.deciding.proofs.eight_agreed.Goals as goal

pub loop-entry-init : goal.loop-entry-init
loop-entry-init c = (refl, unfold all_below in refl)

pub loop-entry-preserved : goal.loop-entry-preserved
loop-entry-preserved c = (c.loop-entry.invariant.0, eight_more _ _ _ c.args.out.now c.loop-entry-test.true c.loop-entry.invariant.1)
