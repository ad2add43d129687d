-- An edit of a link as a whole.
--     link_call    the two edits in one
-- Assumes nothing.
use Rattle.std.specs.Prelude.{Bool, ◌&&◌, ℕ, ltb}
use Rattle.relinking.specs.Relinked.{link_edit}
use Rattle.tables.specs.Calls.{Outcome, check, by_caller}
use Rattle.tables.specs.Tables.{Tables}

unfoldable pub link_call : (n m : ℕ) → Tables → (caller child parent : ℕ) → (adding : Bool) → Outcome ℕ
link_call n m t caller child parent adding =
    by_caller n m t caller
    (check 2 (ltb child n && ltb parent n) t
    (link_edit n m t caller child parent adding))
