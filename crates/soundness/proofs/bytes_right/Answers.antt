-- `soundness::bytes_right` meets its contract. The loop's invariant: `good` says so of the bytes passed. Assumes nothing.
use Rattle.std.proofs.Common.{refl}
use Rattle.tables.specs.Tables.{all_below}
use Rattle.tables.proofs.TableLaws.{below_suc}
use Rattle.soundness.proofs.bytes_right.Goals as goal

pub loop-byte-init : goal.loop-byte-init
loop-byte-init c = unfold all_below in refl

pub loop-byte-preserved : goal.loop-byte-preserved
loop-byte-preserved c = rw (below_suc, ← c.loop-byte.invariant) refl
