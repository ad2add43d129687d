-- Parties in the parts that the code has.
--     parties_at     parties from refusal 5 on, at a kind and a mark of the book
-- Assumes nothing.
use Rattle.std.specs.Prelude.{ℕ, ◌+◌, ◌*◌, get_or}
use Rattle.tables.specs.Calls.{Outcome, leaves, check, kinds_left, lowest_two}
use Rattle.tables.specs.Reply.{given, TwoKinds}
use Rattle.tables.specs.Tables.{Tables, is_dispute, sound}

unfoldable pub parties_at : (n m : ℕ) → Tables → (kind mark : ℕ) → Outcome TwoKinds
parties_at n m t kind mark =
    check 5 (sound n m t) t
    (check 11 (is_dispute (get_or t.entries (kind * m + mark) 0)) t
    (leaves (given (lowest_two (kinds_left n m t kind mark))) t))
