-- The law is `never_5`.
use Rattle.session.proofs.NeverLaws.{never_5}
use Rattle.promises.proofs.never_prints_unsound.Goals as goal

pub returns : goal.returns
returns c = never_5
