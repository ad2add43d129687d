-- The laws are `stream_is_session` and `streaming_is_session`.
use Rattle.stream.proofs.StreamLaws as laws
use Rattle.stream.proofs.StreamLaws.{streaming_is_session}
use Rattle.promises.proofs.stream_is_session.Goals as goal

pub returns-clause-blocks : goal.returns-clause-blocks
returns-clause-blocks c = laws.stream_is_session

pub returns-clause-functions : goal.returns-clause-functions
returns-clause-functions c = λ desk blocks output fresh. streaming_is_session fresh
