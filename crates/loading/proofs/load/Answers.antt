-- `loading::load` meets its contract. The loop's invariant: the rows below c have their links, and nothing else is there.
-- Assumes nothing.
use Rattle.std.proofs.Common.{arith, ◌≡◌}
use Rattle.loading.proofs.Filling.{loaded}
use Rattle.loading.proofs.load.Goals as goal

pub returns : goal.returns
returns c =
    let end : c.loop-c.c ≡ c.args.n = omega arith in
    loaded _ _ _ (rw end at c.loop-c.invariant)
