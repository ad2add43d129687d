-- What is known between two edits of a list.
--     Going     a list that goes on: the caller is one, all is known of the tables, no edit was refused, and the counts so far have room
-- Assumes nothing.
use Rattle.std.specs.Prelude.{◌≡◌, ℕ, ◌*◌, ◌<◌, ◌≤◌, None}
use Rattle.ruling.specs.declared.Prepared.{Prepared}
use Rattle.resettling.specs.Known.{Known}
use Rattle.tables.specs.declared.Listing.{Listing}
use Rattle.tables.specs.Caller.{callers}
use Rattle.tables.specs.Tables.{Tables}

-- an edit changes at most 128 × 64 entries
pub record Going (n m caller : ℕ) (t : Tables) (listing : Listing) (p : Prepared) : Type 0 where
  pub caller_in : caller < callers
  pub known : Known n m t p
  pub on : listing.stopped ≡ None
  pub small : listing.changed ≤ listing.accepted * 8192
