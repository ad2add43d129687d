-- The laws of entries are this.
use Rattle.inheritance.proofs.EntryLaws.{entry_lookup, coded_none, coded_rule, coded_dispute}
use Rattle.promises.proofs.entry_is_its_lookup.Goals as goal

pub returns : goal.returns
returns c = record { one_lookup = entry_lookup; of_none = coded_none; of_rule = coded_rule; of_dispute = coded_dispute }
