-- `loading::load_rest` meets its contract. The loop's invariant: row c has its links below p. Assumes nothing.
use Rattle.loading.specs.Loaded.{Filled, before}
use Rattle.loading.proofs.load_rest.Given as goal

abbrev pub invariant-loop-p : goal.invariant-loop-p
invariant-loop-p l = Filled (before l.c l.p) l.n l.links l.rows
