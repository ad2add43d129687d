-- The law is `never_13`.
use Rattle.session.proofs.NeverLaws.{never_13}
use Rattle.promises.proofs.never_prints_caller.Goals as goal

pub returns : goal.returns
returns c = never_13
