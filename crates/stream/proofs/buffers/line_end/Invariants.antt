-- No line feed stands between the place where the search began and the byte that is next.
use Rattle.stream.specs.Buffers.{NoneBetween}
use Rattle.stream.proofs.buffers.line_end.Given as goal

abbrev pub invariant-loop-at : goal.invariant-loop-at
invariant-loop-at l = NoneBetween l.block l.from l.at
