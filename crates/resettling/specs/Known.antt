-- What an edit knows once the tables are found sound.
--     Tracked    what is prepared has the links, and all is ready to settle
--     Known      .. and the tables have their lengths and are sound
-- Assumes nothing.
use Rattle.std.specs.Prelude.{◌≡◌, true, ℕ}
use Rattle.loading.specs.Loaded.{Loaded}
use Rattle.ruling.specs.declared.Prepared.{Prepared}
use Rattle.ruling.specs.Ready.{Ready}
use Rattle.tables.specs.Tables.{Tables, shaped, sound}

pub record Tracked (n m : ℕ) (t : Tables) (p : Prepared) : Type 0 where
  pub loaded : Loaded n t.links p.order.rows
  pub prepared : Ready n m t.rules p

pub record Known (n m : ℕ) (t : Tables) (p : Prepared) : Type 0 where
  pub fits : shaped n m t ≡ true
  pub is_sound : sound n m t ≡ true
  pub tracked : Tracked n m t p
