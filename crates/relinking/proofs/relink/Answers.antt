-- `relinking::relink` meets its contract, by `marked_reset` and `unmarked_reset`. Assumes nothing.
use Rattle.relinking.proofs.relink.Goals as goal

pub rule_rows-requires : goal.rule_rows-requires
rule_rows-requires c =
    record { rules = c.requires.0; kinds = (c.arrange-arranged.ensures.arranged.arranged c.if-arranged.true).kinds; blank = c.empty-prepared.ensures }
