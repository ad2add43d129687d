-- `loading::load` meets its contract. The loop's invariant: the rows below c have their links, and nothing else is there.
-- Assumes nothing.
use Rattle.loading.specs.Loaded.{Filled, rows_before}
use Rattle.loading.proofs.load.Given as goal

abbrev pub invariant-loop-c : goal.invariant-loop-c
invariant-loop-c l = Filled (rows_before l.c) l.n l.links l.rows
