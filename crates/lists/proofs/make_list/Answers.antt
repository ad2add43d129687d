-- `lists::make_list` meets its contract: by the loop's invariant, and what `begin` and `step` of `listing` promise. Assumes nothing.
use Rattle.std.proofs.Common.{arith, sym, ap, ◌∙◌, ◌+◌, drop}
use Rattle.books.specs.Lent.{tables_of}
use Rattle.tables.specs.Calls.{leaves}
use Rattle.tables.specs.Lists.{run, next_edit, make_list}
use Rattle.tables.specs.Reply.{Reply, Listing, listing_of}
use Rattle.tables.specs.Tables.{Tables}
use Rattle.tables.proofs.ReplyLaws.{passed_on_as}
use Rattle.lists.proofs.RunLaws.{run_more, run_end, goes_on, run_over, run_refused, same_book, same_then}
use Rattle.lists.proofs.make_list.Goals as goal

pub begin-requires : goal.begin-requires
begin-requires c = let blank = c.empty-prepared.ensures in (blank.rows, blank.reach, blank.ruled)

pub returns-in_err-listing-clause-outcome : goal.returns-in_err-listing-clause-outcome
unfolding make_list
returns-in_err-listing-clause-outcome c =
    let a = c.args in
    let t : Tables = tables_of a.book.now in
    ap (λ (reply : Reply Listing). leaves reply t) (passed_on_as _ _ c.from_residual.ensures.1 listing_of)
    ∙ sym (run_refused a.book.now.n a.book.now.m a.caller.0 a.edits.now t _) ∙ ap (run (next_edit a.book.now.n a.book.now.m a.caller.0) a.edits.now) c.in_err-listing.ensures.outcome

pub loop-edit-init : goal.loop-edit-init
unfolding make_list
loop-edit-init c =
    let a = c.args in
    let begun = c.in_ok-listing.ensures in
    record { book = same_book _; same = ap (run (next_edit a.book.now.n a.book.now.m a.caller.0) a.edits.now) begun.outcome; going = begun.ready.0; all = begun.ready.1; short = begun.ready.2 }

pub loop-edit-preserved : goal.loop-edit-preserved
loop-edit-preserved c =
    let l = c.loop-edit.invariant in
    let s = c.step-listing.ensures in
    let (going, one) = goes_on _ (sym c.is_some.ensures ∙ c.if-is_some.false) (rw (l.book.kinds, l.book.marks) at s.ready) in
    record {
      book = same_then l.book s.same;
      same = run_more _ _ _ _ c.loop-edit-test.true (rw (l.book.kinds, l.book.marks) at s.outcome) l.same;
      going = going;
      all = omega (arith, one, l.all);
      short = l.short;
    }

pub step-listing-requires : goal.step-listing-requires
step-listing-requires c =
    let l = c.loop-edit.invariant in
    record { going = rw (l.book.kinds, l.book.marks) l.going; room = omega (arith, l.all, l.short, c.loop-edit-test.true) }

pub returns-then-is_some-clause-same : goal.returns-then-is_some-clause-same
returns-then-is_some-clause-same c = same_then c.loop-edit.invariant.book c.step-listing.ensures.same

pub returns-then-is_some-clause-outcome : goal.returns-then-is_some-clause-outcome
returns-then-is_some-clause-outcome c =
    let a = c.args in
    let l = c.loop-edit.invariant in
    sym (run_over a.book.now.n a.book.now.m a.caller.0 (drop (c.loop-edit.edit-index + 1) a.edits.now) _ _ _ _ (sym c.is_some.ensures ∙ c.if-is_some.true))
    ∙ run_more _ _ _ _ c.loop-edit-test.true (rw (l.book.kinds, l.book.marks) at c.step-listing.ensures.outcome) l.same

pub returns-clause-outcome : goal.returns-clause-outcome
returns-clause-outcome c = sym (run_end _ _ _ _ c.loop-edit-test.false) ∙ c.loop-edit.invariant.same
