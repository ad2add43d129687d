-- `copying::count_differing` meets its contract. The loop's invariant: what is counted and what differs in the rest are together what differs. Assumes nothing.
use Rattle.std.proofs.Common.{◌≡◌, ◌≤◌, ◌+◌, length}
use Rattle.tables.specs.Tables.{differing}
use Rattle.copying.proofs.count_differing.Given as goal

abbrev pub invariant-loop-was : goal.invariant-loop-was
invariant-loop-was l = record {
  so_far : l.count + differing l.was-iterator.a.rest.now l.was-iterator.b.rest.now ≡ differing l.old l.new;
  few : l.count + length l.was-iterator.a.rest.now ≤ length l.old;
}
