-- The law is `program_alone`.
use Rattle.session.proofs.ProgramLaws as laws
use Rattle.promises.proofs.program_alone.Goals as goal

pub returns : goal.returns
returns c = laws.program_alone
