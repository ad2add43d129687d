-- `loading::four` meets its contract, by `spaced_join`. Assumes nothing.
use Rattle.std.proofs.Common.{arith}
use Rattle.loading.proofs.Spacing.{spaced_join}
use Rattle.loading.proofs.four.Goals as goal

pub returns : goal.returns
returns c = spaced_join _ _ 2 _ _ (omega arith) c.two.ensures c.two-2.ensures
