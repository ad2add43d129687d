-- The law is `never_10`.
use Rattle.session.proofs.NeverLaws.{never_10}
use Rattle.promises.proofs.never_prints_damaged.Goals as goal

pub returns : goal.returns
returns c = never_10
