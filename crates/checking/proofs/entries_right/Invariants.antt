-- `checking::entries_right` meets its contract. The loop's invariant: `all` says so of the kinds below c, and their dispute
-- entries are counted. Assumes nothing.
use Rattle.std.proofs.Common.{◌≡◌, ◌≤◌, length}
use Rattle.tables.specs.Step.{kind_right}
use Rattle.tables.specs.Tables.{all_below, disputes_of}
use Rattle.relation.specs.Bit.{bit}
use Rattle.checking.proofs.entries_right.Given as goal

abbrev pub invariant-loop-c : goal.invariant-loop-c
invariant-loop-c l =
    (l.c ≤ l.size.n) × (length l.out ≡ 64) × (l.all ≡ all_below (kind_right l.size.n l.size.m (bit l.prepared.order.rows) l.rules l.entries) l.c) × (l.counts ≡ disputes_of l.c l.size.m l.entries)
