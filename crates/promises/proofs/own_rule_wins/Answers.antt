-- The law is `lookup_own`.
use Rattle.inheritance.proofs.LookupLaws.{lookup_own}
use Rattle.promises.proofs.own_rule_wins.Goals as goal

pub returns : goal.returns
returns c = lookup_own
