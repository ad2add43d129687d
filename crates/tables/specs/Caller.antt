-- Who enters an edit.
--     callers         the most callers: the tally has a number for each
--     caller          the caller with a number
--     caller_below    the caller with that number, if there is one
-- Assumes nothing.
use Rattle.std.specs.Prelude.{cond, ℕ, ltb, Option, Some, None}
use Rattle.tables.specs.declared.Caller.{Caller}

abbrev pub callers : ℕ
callers = 16

abbrev pub caller : ℕ → Caller
caller c = record { 0 = c }

abbrev pub caller_below : (number : ℕ) → Option Caller
caller_below number = cond (ltb number callers) (Some (caller number)) None
