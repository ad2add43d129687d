-- The law is `same_left`.
use Rattle.inheritance.proofs.LookupLaws.{same_left}
use Rattle.promises.proofs.same_kinds_left.Goals as goal

pub returns : goal.returns
returns c = same_left
