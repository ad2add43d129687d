-- `link_edits::add_link` meets its contract, by `added_link`. Assumes nothing.
use mathlib.Core.Path.{◌∙◌}
use Rattle.link_edits.proofs.LinkEditLaws.{added_link}
use Rattle.link_edits.proofs.add_link.Goals as goal

pub returns : goal.returns
returns c = c.change_link.ensures ∙ added_link _ _ _ _ _ _
