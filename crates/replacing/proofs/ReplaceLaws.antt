-- The tables of a book replaced by others.
--     replace_unsound, replace_done     refusal 5, and new tables that are sound
-- Assumes nothing.
use mathlib.Core.Path.{◌≡◌, refl}
use mathlib.Core.Bool.{true, false}
use mathlib.Core.List.{List}
use Prim.Native.Nat.{ℕ}
use Rattle.tables.specs.Calls.{leaves, check}
use Rattle.tables.specs.Reply.{refused, given}
use Rattle.tables.specs.Tables.{Tables, lent, sound, differing}
use Rattle.replacing.specs.Replaced.{replaced}

module _ (n m : ℕ) (t : Tables) (new : Tables) where
  pub replace_unsound : sound n m new ≡ false → leaves (refused 5) t ≡ replaced n m t new
  unfolding replaced check
  replace_unsound bad = rw bad refl

  pub replace_done : {links rules entries tally disputes : List ℕ} {count : ℕ} → sound n m new ≡ true → count ≡ differing t.entries new.entries
      → links ≡ new.links → rules ≡ new.rules → entries ≡ new.entries → tally ≡ new.tally → disputes ≡ new.disputes
      → leaves (given count) (lent links rules entries tally disputes) ≡ replaced n m t new
  unfolding replaced check
  replace_done good counted l r e y d = rw (good, counted, l, r, e, y, d) refl
