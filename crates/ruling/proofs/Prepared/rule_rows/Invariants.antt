-- `ruling::Prepared::rule_rows` meets its contract. The loop's invariant: the first q times eight places are gone through. Assumes nothing.
use Rattle.std.proofs.Common.{length, ◌*◌, ◌≡◌}
use Rattle.ruling.specs.Ruling.{Ruled}
use Rattle.ruling.proofs.Prepared.rule_rows.Given as goal

abbrev pub invariant-loop-q : goal.invariant-loop-q
invariant-loop-q l = Ruled (8 * l.q) l.size.m l.rules l.order.kinds l.ruled × (length l.bits ≡ 64)
