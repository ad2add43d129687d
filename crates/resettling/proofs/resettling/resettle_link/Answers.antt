-- `resettling::resettling::resettle_link` meets its contract: no kind is a stop. Assumes nothing.
use mathlib.Core.Path.{sym}
use mathlib.Core.Bool.{false}
use Rattle.relation.proofs.Zeros.{holds_none}
use Rattle.resettling.proofs.ResettleLaws.{untouched_stops}
use Rattle.resettling.proofs.resettling.resettle_link.Goals as goal

pub resettle-requires-clause-untouched : goal.resettle-requires-clause-untouched
resettle-requires-clause-untouched c = untouched_stops _ _ _ _ _ _ _ _ (λ _. false) _ (λ k h. sym (holds_none k)) c.requires.untouched
