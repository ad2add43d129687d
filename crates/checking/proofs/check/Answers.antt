-- `checking::check` meets its contract. The loop's invariant: the marks below j are worked out, `all` says whether they are plain, and
-- their entries are counted in. Assumes nothing.
use mathlib.Core.Path.{◌≡◌, sym, ap, ◌∙◌, subst}
use native.Mathlib.Omega.{arith}
use Rattle.counting.specs.Counting.{Counting}
use Rattle.counting.proofs.CountLaws.{counting_none, counting_store, counting_few, counting_row}
use Rattle.merging.specs.Merged.{ruled}
use Rattle.deciding.proofs.Rows.{progress_none, progress_store, progress_row}
use Rattle.checking.proofs.CheckLaws.{plain_none, plain_more}
use Rattle.checking.proofs.check.Goals as goal

pub loop-j-init : goal.loop-j-init
loop-j-init c =
    let s = c.requires.parents_and_counts in
    (omega arith, progress_none _ _ _ s.2, plain_none _ _ _ _ _, counting_none _ _ _ _ s.3)

pub count_entry-requires : goal.count_entry-requires
count_entry-requires c =
    let counting = c.loop-j.invariant.3 in
    (omega (arith, counting.size), omega (arith, c.requires.kind_and_row.0, counting_few _ _ _ _ _ counting c.loop-j-test.true))

pub loop-j-preserved : goal.loop-j-preserved
loop-j-preserved c =
    let l = c.loop-j.invariant in
    let e = c.own-e.ensures ∙ ap (ruled _ _) c.merge.ensures in (
      omega arith,
      progress_store _ l.1 (omega (arith, c.requires.kind_and_row.1)) e,
      plain_more _ _ _ _ _ _ l.2 e,
      subst (Counting _ _ _ _) (sym c.count_entry.ensures) (counting_store _ _ _ _ _ l.3 c.loop-j-test.true),
    )

pub returns : goal.returns
returns c =
    let l = c.loop-j.invariant in
    let end : c.loop-j.j ≡ c.args.m = omega arith in
    (record { row = progress_row (rw end at l.1); answer = rw end at l.2 }, counting_row _ _ _ l.3 c.loop-j-test.false)
