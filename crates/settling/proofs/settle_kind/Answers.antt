-- `settling::settle_kind` meets its contract. Assumes nothing.
use Prim.Native.Nat.{◌+◌, ◌*◌, ◌<◌, ◌≤◌}
use native.Mathlib.Omega.{arith}
use lib.ListN.{length}
use Rattle.tables.proofs.TableLaws.{row_in}
use Rattle.writing.proofs.WriteLaws.{written_one}
use Rattle.settling.proofs.settle_kind.Goals as goal

pub returns-then-marks : goal.returns-then-marks
returns-then-marks c =
    let s = c.requires in
    let p = c.put_counted.ensures in
    let within : c.args.c * c.args.marks.size.m + c.args.marks.size.m ≤ length c.args.entries.now = row_in _ _ _ s.sized.entries_size s.kind_and_counts.0 in
    let one-within : c.args.c * c.args.marks.size.m + c.args.marks.lo < length c.args.entries.now = omega (arith, within, c.args.marks.high, c.if-marks.true) in
    (omega (arith, p.2), rw (c.if-marks.true, p.0, p.1) (written_one _ _ _ _ _ _ one-within c.inherit_entry-e.ensures), p.3)
