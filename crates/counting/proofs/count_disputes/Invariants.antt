-- `counting::count_disputes` meets its contract. The loop's invariant: the kinds below c are counted. Assumes nothing.
use Rattle.std.proofs.Common.{◌≡◌}
use Rattle.tables.specs.Tables.{disputes_of}
use Rattle.counting.proofs.count_disputes.Given as goal

abbrev pub invariant-loop-c : goal.invariant-loop-c
invariant-loop-c l = l.counts ≡ disputes_of l.c l.m l.entries
