-- The law is `answer_short`.
use Rattle.stream.proofs.ShortLaws as laws
use Rattle.promises.proofs.answer_short.Goals as goal

pub returns : goal.returns
returns c = laws.answer_short
