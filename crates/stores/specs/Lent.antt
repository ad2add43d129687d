-- The tables behind a store that a call is lent.
--     store_of, store_read    the tables of a store that is lent to write, or to read, as they are now
--     SameStore               two stores that lend the same tables, whatever these hold
-- Assumes nothing.
use Rattle.std.specs.Prelude.{◌≡◌}
use Rattle.stores.specs.declared.Store.{Store as Reading}
use Rattle.stores.specs.declared.StoreMut.{StoreMut}
use Rattle.stores.specs.Store.{Store, lent_store}

abbrev pub store_of : StoreMut → Store
store_of s = lent_store s.flags.now s.links.now s.rules.now s.entries.now s.disputes.now

abbrev pub store_read : Reading → Store
store_read s = lent_store s.flags.now s.links.now s.rules.now s.entries.now s.disputes.now

pub record SameStore (old new : StoreMut) : Type 0 where
  pub flags : new.flags.ghost_name ≡ old.flags.ghost_name
  pub links : new.links.ghost_name ≡ old.links.ghost_name
  pub rules : new.rules.ghost_name ≡ old.rules.ghost_name
  pub entries : new.entries.ghost_name ≡ old.entries.ghost_name
  pub disputes : new.disputes.ghost_name ≡ old.disputes.ghost_name
