-- `loading::word` meets its contract. The loop's invariant: the bits of the first 8 * q bytes are there. Assumes nothing.
use Rattle.std.proofs.Common.{◌*◌}
use Rattle.loading.specs.Loaded.{Word}
use Rattle.loading.proofs.word.Given as goal

abbrev pub invariant-loop-q : goal.invariant-loop-q
invariant-loop-q l = Word l.links l.i (8 * l.q) l.w
