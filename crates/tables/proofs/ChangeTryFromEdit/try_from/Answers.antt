-- `Change::try_from` meets its contract: the number that led to a return says which case of `change_in` holds. Assumes nothing.
use Rattle.std.proofs.Common.{arith, refl}
use Rattle.tables.specs.Lists.{change_in}
use Rattle.tables.proofs.RecordLaws.{no_change}
use Rattle.tables.proofs.ChangeTryFromEdit.try_from.Goals as goal

pub returns-in-1 : goal.returns-in-1
unfolding change_in
returns-in-1 c = rw c.in-1.is refl

pub returns-in-2 : goal.returns-in-2
unfolding change_in
returns-in-2 c = rw c.in-2.is refl

pub returns-in-3 : goal.returns-in-3
unfolding change_in
returns-in-3 c = rw c.in-3.is refl

pub returns-in-4 : goal.returns-in-4
unfolding change_in
returns-in-4 c = rw c.in-4.is refl

pub returns-in_default : goal.returns-in_default
returns-in_default c = no_change _ (λ e. omega arith) (λ e. omega arith) (λ e. omega arith) (λ e. omega arith)
