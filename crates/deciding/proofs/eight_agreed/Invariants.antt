-- `deciding::eight_agreed` meets its contract. The loop's invariant: `all` says so of the entries so far. Assumes nothing.
use Rattle.std.proofs.Common.{eqb, get_or, ◌+◌, ◌≡◌}
use mathlib.Core.Bool.{not}
use Rattle.tables.specs.Tables.{all_below}
use Rattle.deciding.proofs.eight_agreed.Given as goal

abbrev pub invariant-loop-entry : goal.invariant-loop-entry
invariant-loop-entry l = (l.apart ≡ 257 + l.c) × (l.all ≡ all_below (λ i. not (eqb (get_or l.out (l.from + i) 0) (257 + l.c))) l.entry-index)
