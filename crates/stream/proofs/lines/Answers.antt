-- A line more is answered, or no line ends any more.
use Rattle.std.proofs.Common.{refl}
use Rattle.stream.proofs.PassingLaws.{answered, finished}
use Rattle.stream.proofs.lines.Goals as goal

pub loop-next-preserved : goal.loop-next-preserved
loop-next-preserved c =
    let (found, held) = c.loop-next.invariant in
    let did = c.finish-waiting in
    (c.line_end-next-in-Some.ensures, rw did.ensures.empty (answered held (rw c.in-Some.is at found) did.ensures.replied did.auto.out))

pub returns : goal.returns
returns c = let (none, held) = c.loop-next.invariant in finished held (rw c.in_default.is at none) refl c.add.ensures
