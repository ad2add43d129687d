-- `resettling::tallying::count_edit` meets its contract, by `tally_next` and `tally_full`. Assumes nothing.
use mathlib.Core.Path.{sym}
use Rattle.tables.proofs.TableLaws.{tally_next, tally_full}
use Rattle.resettling.proofs.tallying.count_edit.Goals as goal

pub returns-then-edits-lt4294967295 : goal.returns-then-edits-lt4294967295
returns-then-edits-lt4294967295 c = let a = c.args in rw c.from-place.ensures (sym (tally_next a.caller.0 a.tally.now (rw c.from-place.ensures at c.if-edits-lt4294967295.true)))

pub returns-else-edits-lt4294967295 : goal.returns-else-edits-lt4294967295
returns-else-edits-lt4294967295 c = let a = c.args in sym (tally_full a.caller.0 a.tally.now (rw c.from-place.ensures at c.if-edits-lt4294967295.false))
