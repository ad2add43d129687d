-- The tables behind what a call is lent.
--     tables_of, tables_read    the tables of a book that is lent to write, or to read, as they are now
--     SameBook                  two books of one size that lend the same tables, whatever these hold
-- Assumes nothing.
use Rattle.std.specs.Prelude.{◌≡◌}
use Rattle.tables.specs.Tables.{Tables, lent}
use Rattle.books.specs.declared.Book.{Book}
use Rattle.books.specs.declared.Tables.{Tables as Reading}

abbrev pub tables_of : Book → Tables
tables_of b = lent b.links.now b.rules.now b.entries.now b.tally.now b.disputes.now

abbrev pub tables_read : Reading → Tables
tables_read t = lent t.links.now t.rules.now t.entries.now t.tally.now t.disputes.now

pub record SameBook (old new : Book) : Type 0 where
  pub kinds : new.n ≡ old.n
  pub marks : new.m ≡ old.m
  pub links : new.links.ghost_name ≡ old.links.ghost_name
  pub rules : new.rules.ghost_name ≡ old.rules.ghost_name
  pub entries : new.entries.ghost_name ≡ old.entries.ghost_name
  pub tally : new.tally.ghost_name ≡ old.tally.ghost_name
  pub disputes : new.disputes.ghost_name ≡ old.disputes.ghost_name
