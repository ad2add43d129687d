-- `loading::eight` meets its contract, by `spaced_join`. Assumes nothing.
use Rattle.std.proofs.Common.{arith}
use Rattle.loading.proofs.Spacing.{spaced_join}
use Rattle.loading.proofs.eight.Goals as goal

pub returns : goal.returns
returns c = spaced_join _ _ 4 _ _ (omega arith) c.four.ensures c.four-2.ensures
