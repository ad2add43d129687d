-- `deciding::decide_entry` meets its contract. Assumes nothing.
use Rattle.std.proofs.Common.{ap, ◌∙◌}
use Rattle.inheritance.specs.Entry.{entry_of}
use Rattle.deciding.proofs.ApartLaws.{apart_at, apart_keeps}
use Rattle.deciding.proofs.DecidingLaws.{deciding_fits, places_common, places_held}
use Rattle.deciding.proofs.decide_entry.Goals as goal

pub returns-then-e-c : goal.returns-then-e-c
returns-then-e-c c = apart_keeps _ _ _ c.if-e-c.true

pub decide-requires : goal.decide-requires
decide-requires c =
    (c.requires.0, places_held _ c.args.prepared.now.ruled _ c.args.j _ (places_common _ _ _ _ _ c.row.ensures c.row-2.ensures c.intersection-near.ensures) _ c.requires.2)

pub entry-requires : goal.entry-requires
entry-requires c =
    rw (c.decide.ensures c.args.prepared.now.ruled c.args.j (places_common _ _ _ _ _ c.row.ensures c.row-2.ensures c.intersection-near.ensures)) (deciding_fits _ _ _ _ _ c.requires.0 c.requires.2)

pub returns : goal.returns
returns c =
    c.entry.ensures ∙ ap entry_of (c.decide.ensures c.args.prepared.now.ruled c.args.j (places_common _ _ _ _ _ c.row.ensures c.row-2.ensures c.intersection-near.ensures)) ∙ apart_at _ _ _ c.if-e-c.false
