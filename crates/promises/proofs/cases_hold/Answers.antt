-- The law is `cases_hold`, whose table is the same.
use Rattle.session.proofs.Cases as laws
use Rattle.promises.proofs.cases_hold.Goals as goal

pub returns : goal.returns
returns c = laws.cases_hold
