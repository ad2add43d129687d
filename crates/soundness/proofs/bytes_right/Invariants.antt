-- `soundness::bytes_right` meets its contract. The loop's invariant: `good` says so of the bytes passed. Assumes nothing.
use Rattle.std.proofs.Common.{◌≡◌}
use Rattle.tables.specs.Tables.{all_below, byte_right}
use Rattle.soundness.proofs.bytes_right.Given as goal

abbrev pub invariant-loop-byte : goal.invariant-loop-byte
invariant-loop-byte l = l.good ≡ all_below (byte_right l.links) l.byte-index
