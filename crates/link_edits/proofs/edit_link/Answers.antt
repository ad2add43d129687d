-- `link_edits::edit_link` meets its contract: the tables are not sound, or all is known that `set_link` asks. Assumes nothing.
use mathlib.Core.Path.{sym, ◌∙◌}
use Rattle.tables.specs.Tables.{Tables, lent}
use Rattle.resettling.proofs.KnownLaws.{fits_sized}
use Rattle.link_edits.proofs.LinkEditLaws.{link_unsound}
use Rattle.link_edits.proofs.edit_link.Goals as goal

pub examine-sound-requires-clause-sized : goal.examine-sound-requires-clause-sized
examine-sound-requires-clause-sized c =
    let a = c.args in
    let t : Tables = lent a.links.now a.rules.now a.entries.now a.tally.now a.disputes.now in
    fits_sized _ _ t c.requires.shaped

pub examine-sound-requires-clause-blank : goal.examine-sound-requires-clause-blank
examine-sound-requires-clause-blank c = (c.empty-prepared.ensures.rows, c.empty-prepared.ensures.reach, c.empty-prepared.ensures.ruled)

pub returns-then-not-sound : goal.returns-then-not-sound
returns-then-not-sound c =
    let a = c.args in
    let t : Tables = lent a.links.now a.rules.now a.entries.now a.tally.now a.disputes.now in
    link_unsound _ _ t a.caller.0 _ _ a.adding (sym (c.examine-sound.ensures.answer a.tally.now) ∙ c.if-not-sound.true)
