-- `copying::copy_over` meets its contract. The loop's invariant: the elements before i are copied. Assumes nothing.
use Rattle.std.proofs.Common.{◌≡◌, length, take}
use Rattle.copying.proofs.copy_over.Given as goal

abbrev pub invariant-loop-i : goal.invariant-loop-i
invariant-loop-i g l = record {
  long : length l.to ≡ length l.from;
  copied : take l.i l.to ≡ take l.i l.from;
}
