-- `resettling::resettling::resettle` meets its contract, by `untouched_awaiting`. Assumes nothing.
use Rattle.resettling.proofs.ResettleLaws.{untouched_awaiting}
use Rattle.resettling.proofs.resettling.resettle.Goals as goal

pub settle-requires-clause-awaiting : goal.settle-requires-clause-awaiting
settle-requires-clause-awaiting c =
    untouched_awaiting _ _ _ _ _ _ _ _ _ c.args.stops _ c.args.marks.size.kinds c.turn.ensures (rw c.from-changed.ensures at c.touched-visited.ensures) c.requires.untouched
