-- `merging::own_row` meets its contract. The loop's invariant: the marks below j have their own rules, the others are as they were, and
-- `all` says whether no entry below j says that the parents differ. Assumes nothing.
use Rattle.std.proofs.Common.{get_or, ◌+◌, ◌≡◌}
use Rattle.merging.specs.Merged.{ruled, agreed}
use Rattle.deciding.proofs.Rows.{Progress}
use Rattle.merging.proofs.own_row.Given as goal

abbrev pub invariant-loop-j : goal.invariant-loop-j
invariant-loop-j l =
    Progress l.fn.marks.lo l.j (λ i x. ruled l.c (get_or l.rules (l.row + i) 0) x) l.initial.out l.out
    × (l.all ≡ agreed l.c l.fn.marks.lo l.j (λ i. ruled l.c (get_or l.rules (l.row + i) 0) (get_or l.initial.out i 0)))
