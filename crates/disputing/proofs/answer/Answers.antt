-- `disputing::answer` meets its contract: the tests are those of refusals 5 and 11, and past both there are two kinds left, of which `left_pair` gives
-- the lowest.
-- Assumes nothing.
use mathlib.Core.Path.{◌≡◌, sym, ◌∙◌, ap}
use mathlib.Core.Bool.{true}
use Prim.Native.Nat.{◌+◌, ◌*◌, ◌≤◌}
use native.Mathlib.Omega.{arith}
use lib.ListN.{get_or}
use Rattle.parting.proofs.PartyLaws.{dispute_two, pair_lowest}
use Rattle.soundness.proofs.Soundness.{rows_links}
use Rattle.tables.specs.Reply.{replied_as, kinds_of}
use Rattle.tables.specs.Tables.{Tables, lent, sound}
use Rattle.disputing.proofs.PartyLaws.{unsound, no_dispute, disputed}
use Rattle.disputing.proofs.answer.Goals as goal

pub examine-sound-requires-clause-blank : goal.examine-sound-requires-clause-blank
examine-sound-requires-clause-blank c = (c.empty-prepared.ensures.rows, c.empty-prepared.ensures.reach, c.empty-prepared.ensures.ruled)

pub returns-then-not-sound : goal.returns-then-not-sound
returns-then-not-sound c = λ tally. unsound _ _ _ _ _ (sym (c.examine-sound.ensures.answer tally) ∙ c.if-not-sound.true)

pub returns-then-entries-place-lt257 : goal.returns-then-entries-place-lt257
returns-then-entries-place-lt257 c = λ tally. no_dispute _ _ _ _ _ (sym (c.examine-sound.ensures.answer tally) ∙ c.if-not-sound.false) (rw (← c.place.ensures) (omega (arith, c.if-entries-place-lt257.true)))

pub returns : goal.returns
returns c =
    λ tally.
    let a = c.args in
    let (within, _, counts) = c.requires in
    let t : Tables = lent a.links.now a.rules.now a.entries.now tally a.disputes.now in
    let found = c.if-not-sound.false in
    let prepared = c.examine-sound.ensures.prepared found in
    let is : sound a.size.n a.size.m t ≡ true = sym (c.examine-sound.ensures.answer tally) ∙ found in
    let is_dispute : 257 ≤ get_or a.entries.now (a.k.0 * a.size.m + a.j.0) 0 = rw (← c.place.ensures) (omega (arith, c.if-entries-place-lt257.false)) in
    ap (replied_as kinds_of) (c.left_pair.ensures _ _ _ prepared.arranged prepared.rule_kinds within.mark_in_range)
    ∙ pair_lowest _ _ t within.kind_in_range within.mark_in_range _ (rows_links _ _ _ within.sizes.kinds (c.examine-sound.ensures.loaded found))
    (dispute_two _ _ t within.kind_in_range within.mark_in_range within.sizes.kinds within.sizes.entries_size counts is is_dispute)
    ∙ disputed _ _ t _ _ is is_dispute
