-- `ruling::rule_row` meets its contract. The loop's invariant: the marks below j are gone through. Assumes nothing.
use Rattle.std.proofs.Common.{get_or}
use Rattle.relation.specs.Bit.{Added}
use Rattle.tables.specs.Tables.{own_of}
use Rattle.ruling.proofs.RulingLaws.{marks}
use Rattle.ruling.proofs.rule_row.Given as goal

abbrev pub invariant-loop-j : goal.invariant-loop-j
invariant-loop-j l = Added l.initial.ruled l.ruled (marks (λ d. own_of l.m l.rules d (get_or l.order l.i 0)) l.i l.j)
