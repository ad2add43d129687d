-- `Lookup::from` meets its contract: each test picks a case of `lookup_of`. Assumes nothing.
use Rattle.std.proofs.Common.{arith, sym}
use Rattle.inheritance.proofs.EntryLaws.{lookup_none, lookup_rule, lookup_dispute}
use Rattle.inheritance.proofs.LookupFromU16.from.Goals as goal

pub returns-then-entry-gt256 : goal.returns-then-entry-gt256
returns-then-entry-gt256 c = sym (lookup_dispute _ (omega arith))

pub returns-then-entry-gt0 : goal.returns-then-entry-gt0
returns-then-entry-gt0 c = sym (lookup_rule _ (omega arith) (omega arith))

pub returns-else-entry-gt0 : goal.returns-else-entry-gt0
returns-else-entry-gt0 c = sym (lookup_none _ (omega arith))
