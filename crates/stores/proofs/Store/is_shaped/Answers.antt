-- `Store::is_shaped` meets its contract: its tests are those of `stored`. Assumes nothing.
use Rattle.std.proofs.Common.{refl}
use Rattle.stores.specs.Store.{stored}
use Rattle.stores.proofs.Store.is_shaped.Goals as goal

pub returns : goal.returns
unfolding stored
returns c = rw (c.from-kinds.ensures, c.from-marks.ensures) refl
