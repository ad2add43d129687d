-- A carried line is answered as the whole line is, by `cut_line`.
use Rattle.stream.proofs.StreamLaws.{cut_line}
use Rattle.stream.proofs.finish.Goals as goal

pub returns-clause-replied : goal.returns-clause-replied
returns-clause-replied c = rw (c.as_slice.ensures.value, c.add.ensures, cut_line) at c.answer-behind.ensures
