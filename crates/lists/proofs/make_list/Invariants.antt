-- `lists::make_list` meets its contract. The loop's invariant: from the record reached on, what comes out is what was to come out from the
-- start, the list goes on, and each record before was accepted. Assumes nothing.
use Rattle.std.proofs.Common.{◌≡◌, ◌≤◌, length, drop}
use Rattle.books.specs.Lent.{SameBook, tables_of}
use Rattle.tables.specs.Calls.{leaves}
use Rattle.tables.specs.Lists.{most_records, run, next_edit, make_list}
use Rattle.tables.specs.Reply.{given, listing_of}
use Rattle.lists.specs.Going.{Going}
use Rattle.lists.proofs.make_list.Given as goal

abbrev pub invariant-loop-edit : goal.invariant-loop-edit
invariant-loop-edit l = record {
  book : SameBook l.fn.book l.book;
  same : run (next_edit l.fn.book.n l.fn.book.m l.caller.0) (drop l.edit-index l.edits) (leaves (given (listing_of l.listing)) (tables_of l.book))
      ≡ make_list l.fn.book.n l.fn.book.m (tables_of l.fn.book) l.caller.0 l.edits;
  going : Going l.fn.book.n l.fn.book.m l.caller.0 (tables_of l.book) l.listing l.prepared;
  all : l.listing.accepted ≡ l.edit-index;
  short : length l.edits ≤ most_records;
}
