-- `settling::settle_all` meets its contract: every kind is visited, so that every entry is settled; the counts are right from before on. Assumes nothing.
use mathlib.Core.Path.{◌∙◌}
use Rattle.counting.proofs.CountLaws.{counted, counts_of}
use Rattle.settling.proofs.Editing.{all_settled}
use Rattle.settling.proofs.WholeLaws.{all_visited}
use Rattle.settling.proofs.settle_all.Goals as goal

pub rule_rows-requires : goal.rule_rows-requires
rule_rows-requires c =
    let s = c.requires in
    record { rules = s.sized.0.rules_size; kinds = s.arranged.kinds; blank = c.empty-prepared.ensures }

pub settle-requires : goal.settle-requires
settle-requires c =
    let s = c.requires in
    record {
      sized = s.sized.0;
      ready = record { arranged = rw c.rule_rows.ensures.order s.arranged; rule_kinds = c.rule_rows.ensures.ruled };
      awaiting = all_visited _ _ _ c.args.entries.now c.args.size.kinds;
      counted = counted _ _ s.sized.0.entries_size c.args.size.kinds c.count_disputes.ensures;
    }

pub returns-clause-settled : goal.returns-clause-settled
returns-clause-settled c =
    let s = c.requires.sized in
    let done = rw c.rule_rows.ensures.order at c.settle.ensures in
    record {
      looked = (all_settled _ _ _ _ _ _ s.0.entries_size done.0).0;
      counted = done.0.counted;
      recounted = counts_of _ _ (done.0.size ∙ s.0.entries_size) s.1 done.1;
    }
