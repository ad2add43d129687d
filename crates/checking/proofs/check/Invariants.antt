-- `checking::check` meets its contract. The loop's invariant: the marks below j are worked out, `all` says whether they are plain, and
-- their entries are counted in. Assumes nothing.
use mathlib.Core.Path.{◌≡◌}
use Prim.Native.Nat.{◌+◌, ◌*◌, ◌≤◌}
use lib.ListN.{get_or}
use Rattle.counting.specs.Counting.{Counting}
use Rattle.merging.specs.Merged.{merged, ruled}
use Rattle.checking.specs.Checked.{plain}
use Rattle.deciding.proofs.Rows.{Progress}
use Rattle.checking.proofs.check.Given as goal

abbrev pub invariant-loop-j : goal.invariant-loop-j
invariant-loop-j l =
    (l.j ≤ l.m) × Progress 0 l.j (λ a _. ruled l.c (get_or l.rules (l.c * l.m + a) 0) (merged l.c (get_or l.x (l.i + a) 0) (get_or l.y (l.k + a) 0))) l.initial.out l.out
    × (l.all ≡ plain l.m l.c l.rules l.entries (λ a. merged l.c (get_or l.x (l.i + a) 0) (get_or l.y (l.k + a) 0)) l.j)
    × Counting l.c l.j l.m l.entries l.counts
