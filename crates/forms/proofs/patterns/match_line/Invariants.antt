-- The part of the line that is read fits the part of the pattern that is passed.
use Rattle.forms.proofs.Matching.{Matching}
use Rattle.forms.proofs.patterns.match_line.Given as goal

abbrev pub invariant-loop-b : goal.invariant-loop-b
invariant-loop-b l = Matching l.pattern l.line l.b-index l.at l.next l.values
