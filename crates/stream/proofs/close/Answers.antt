-- The last line has a byte, or there is none.
use Rattle.stream.proofs.StreamLaws.{closed_line, closed_none}
use Rattle.stream.proofs.close.Goals as goal

pub returns-then-is_empty : goal.returns-then-is_empty
returns-then-is_empty c = closed_none _ c.args.carry.now.items _ c.if-is_empty.ensures

pub returns : goal.returns
returns c =
    closed_line _ c.args.carry.now.items c.if-is_empty.ensures (rw c.as_slice.ensures.value at c.answer.ensures)
