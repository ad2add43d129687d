-- `edits::make` meets its contract: each edit has the outcome of its definition, and a refused one leaves the tables. Assumes nothing.
use Rattle.tables.specs.Lists.{edit_outcome}
use Rattle.tables.proofs.CallLaws.{refused_add_rule, refused_take_rule, refused_add_link, refused_take_link}
use Rattle.tables.proofs.ReplyLaws.{kept_at_err}
use Rattle.edits.proofs.make.Goals as goal

pub returns-in-AddRule-clause-outcome : goal.returns-in-AddRule-clause-outcome
unfolding edit_outcome
returns-in-AddRule-clause-outcome c = rw c.in-AddRule.is c.add_rule.ensures

pub returns-in-AddRule-clause-refused : goal.returns-in-AddRule-clause-refused
returns-in-AddRule-clause-refused c = kept_at_err _ _ _ _ c.add_rule.ensures (refused_add_rule _ _ _ _ _ _ _)

pub returns-in-TakeRule-clause-outcome : goal.returns-in-TakeRule-clause-outcome
unfolding edit_outcome
returns-in-TakeRule-clause-outcome c = rw c.in-TakeRule.is c.take_rule.ensures

pub returns-in-TakeRule-clause-refused : goal.returns-in-TakeRule-clause-refused
returns-in-TakeRule-clause-refused c = kept_at_err _ _ _ _ c.take_rule.ensures (refused_take_rule _ _ _ _ _ _)

pub returns-in-AddLink-clause-outcome : goal.returns-in-AddLink-clause-outcome
unfolding edit_outcome
returns-in-AddLink-clause-outcome c = rw c.in-AddLink.is c.add_link.ensures

pub returns-in-AddLink-clause-refused : goal.returns-in-AddLink-clause-refused
returns-in-AddLink-clause-refused c = kept_at_err _ _ _ _ c.add_link.ensures (refused_add_link _ _ _ _ _ _)

pub returns-in-TakeLink-clause-outcome : goal.returns-in-TakeLink-clause-outcome
unfolding edit_outcome
returns-in-TakeLink-clause-outcome c = rw c.in-TakeLink.is c.take_link.ensures

pub returns-in-TakeLink-clause-refused : goal.returns-in-TakeLink-clause-refused
returns-in-TakeLink-clause-refused c = kept_at_err _ _ _ _ c.take_link.ensures (refused_take_link _ _ _ _ _ _)
