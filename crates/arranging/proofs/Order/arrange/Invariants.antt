-- `arranging::Order::arrange` meets its contract. The loop's invariant: the kinds below c are visited. Assumes nothing.
use Rattle.std.proofs.Common.{◌≡◌}
use Rattle.relation.specs.Bit.{bit}
use Rattle.arranging.proofs.Arranging.{Arranging}
use Rattle.arranging.proofs.Order.arrange.Given as goal

abbrev pub invariant-loop-c : goal.invariant-loop-c
invariant-loop-c l = (l.self.rows ≡ l.initial.self.rows) × Arranging l.n (bit l.self.rows) l.c l.k l.states l.self.kinds l.self.reach
