-- The tables of a book are replaced by others.
--     replaced    refusal 5, or the others: the count is of the places whose entry differs from before
-- Assumes nothing.
use Rattle.std.specs.Prelude.{ℕ}
use Rattle.tables.specs.Calls.{Outcome, leaves, check}
use Rattle.tables.specs.Reply.{given}
use Rattle.tables.specs.Tables.{Tables, sound, differing}

unfoldable pub replaced : (n m : ℕ) → (before after : Tables) → Outcome ℕ
replaced n m before after =
    check 5 (sound n m after) before
    (leaves (given (differing before.entries after.entries)) after)
