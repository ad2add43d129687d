-- `resettling::resettling::resettle_rule` meets its contract: the stops are the kinds with an own rule. Assumes nothing.
use mathlib.Core.Path.{sym}
use Rattle.resettling.proofs.ResettleLaws.{untouched_stops}
use Rattle.resettling.proofs.resettling.resettle_rule.Goals as goal

pub resettle-requires-clause-untouched : goal.resettle-requires-clause-untouched
resettle-requires-clause-untouched c = rw c.from-j.ensures (untouched_stops _ _ _ _ _ _ _ _ _ _ (λ k h. sym (c.own_rules-stops.ensures.at k h)) c.requires.untouched)

pub returns : goal.returns
returns c = rw c.from-j.ensures at c.resettle.ensures
