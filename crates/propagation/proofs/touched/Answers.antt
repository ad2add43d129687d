-- `propagation::touched` meets its contract: the walk starts with no kind visited. Assumes nothing.
use Rattle.relation.proofs.Zeros.{holds_none}
use Rattle.propagation.proofs.Walk.{touched}
use Rattle.propagation.proofs.touched.Goals as goal

pub spread-requires : goal.spread-requires
spread-requires c = record { kind_in = c.requires.0; room = c.requires.1; fresh = holds_none c.args.e }

pub returns : goal.returns
returns c = touched holds_none c.spread.ensures
