-- `renewing::refreshing::refresh` meets its contract: a refused one leaves the tables. Assumes nothing.
use Rattle.tables.proofs.CallLaws.{refused_refresh}
use Rattle.tables.proofs.ReplyLaws.{kept_at_err}
use Rattle.renewing.proofs.refreshing.refresh.Goals as goal

pub returns-clause-refused : goal.returns-clause-refused
returns-clause-refused c = kept_at_err _ _ _ _ c.refresh_tables.ensures (refused_refresh _ _ _)
