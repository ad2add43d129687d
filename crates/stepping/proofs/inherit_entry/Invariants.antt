-- `stepping::inherit_entry` meets its contract. The loop's invariant: e is what the parents before some place give, and those from it on are left.
-- Assumes nothing.
use Rattle.std.proofs.Common.{ℕ, ◌≡◌, ◌≤◌}
use Rattle.relation.specs.Bit.{bit}
use Rattle.relation.proofs.Taking.{Rest, left}
use Rattle.merging.specs.Merged.{given}
use Rattle.stepping.proofs.inherit_entry.Given as goal

abbrev pub invariant-loop-p : goal.invariant-loop-p
invariant-loop-p l = (i : ℕ) × (i ≤ l.size.n) × Rest (bit l.prepared.order.rows l.c) i l.rest × (l.e ≡ given l.m (bit l.prepared.order.rows) l.entries l.c i l.j)

abbrev pub decreases-loop-p : goal.decreases-loop-p
decreases-loop-p l = left l.rest
