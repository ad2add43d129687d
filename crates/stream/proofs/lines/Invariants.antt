-- A line begins at `from`, `next` is where it ends, and what is written so far with what the rest of the block does is what the whole block does.
use Rattle.std.proofs.Common.{◌-◌, length}
use Rattle.stream.specs.Buffers.{LineEnd}
use Rattle.session.specs.Parts.{book_on}
use Rattle.stream.specs.Stream.{passed}
use Rattle.stream.proofs.PassingLaws.{Passing}
use Rattle.stream.proofs.lines.Given as goal

abbrev pub invariant-loop-next : goal.invariant-loop-next
invariant-loop-next l =
    LineEnd l.block l.from l.next
    × Passing l.block (passed (book_on l.initial.desk) l.initial.carry.items l.block) l.start l.initial.out (book_on l.desk) l.carry.items l.out l.waiting l.from

abbrev pub decreases-loop-next : goal.decreases-loop-next
decreases-loop-next l = length l.block - l.from
