-- `counting::count_row` meets its contract. The loop's invariant: the entries of the marks below j are counted in. Assumes nothing.
use mathlib.Core.Path.{sym, subst}
use native.Mathlib.Omega.{arith}
use Rattle.counting.specs.Counting.{Counting}
use Rattle.counting.proofs.CountLaws.{counting_none, counting_store, counting_few, counting_row}
use Rattle.counting.proofs.count_row.Goals as goal

pub loop-j-init : goal.loop-j-init
loop-j-init c = counting_none _ _ _ _ c.requires.2

pub count_entry-requires : goal.count_entry-requires
count_entry-requires c =
    let inv = c.loop-j.invariant in
    (omega (arith, inv.size), omega (arith, c.requires.0, counting_few _ _ _ _ _ inv c.loop-j-test.true))

pub loop-j-preserved : goal.loop-j-preserved
loop-j-preserved c = subst (Counting _ _ _ _) (sym c.count_entry.ensures) (counting_store _ _ _ _ _ c.loop-j.invariant c.loop-j-test.true)

pub returns : goal.returns
returns c = counting_row _ _ _ c.loop-j.invariant c.loop-j-test.false
