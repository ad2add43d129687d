-- A line's answer is that of the call that it asks for.
use Rattle.session.proofs.TurnLaws.{by_call, unchanged}
use Rattle.session.proofs.line.Goals as goal

pub returns-in-Some : goal.returns-in-Some
returns-in-Some c = by_call _ c.in-Some.ensures.call c.carry.ensures

pub returns-in-None : goal.returns-in-None
returns-in-None c = by_call _ c.in-None.ensures.call (unchanged 12 _ c.print_refused.ensures)
