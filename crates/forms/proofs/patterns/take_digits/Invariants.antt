-- What is left to read gives the same as all of it.
use Rattle.std.proofs.Common.{◌≡◌, ◌≤◌, drop}
use Rattle.forms.specs.Decimal.{further}
use Rattle.forms.proofs.patterns.take_digits.Given as goal

abbrev pub invariant-loop-at : goal.invariant-loop-at
invariant-loop-at l = record { same : further l.value (drop l.at l.line) ≡ further l.start (drop l.from l.line); small : l.value ≤ 65535 }
