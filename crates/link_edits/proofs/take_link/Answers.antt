-- `link_edits::take_link` meets its contract, by `taken_link`. Assumes nothing.
use mathlib.Core.Path.{◌∙◌}
use Rattle.link_edits.proofs.LinkEditLaws.{taken_link}
use Rattle.link_edits.proofs.take_link.Goals as goal

pub returns : goal.returns
returns c = c.change_link.ensures ∙ taken_link _ _ _ _ _ _
