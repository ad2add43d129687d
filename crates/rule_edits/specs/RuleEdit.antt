-- An edit of a rule as a whole.
--     rule_call    the two edits in one: one with a handling adds the rule, and is refused by 4 where that is 0; one without takes it
-- Assumes nothing.
use Rattle.std.specs.Prelude.{not, ℕ, ltb, Option, unwrap_or}
use Rattle.books.specs.Ask.{bare}
use Rattle.reruling.specs.Reruled.{rule_edit}
use Rattle.tables.specs.Calls.{Outcome, check, by_caller}
use Rattle.tables.specs.Tables.{Tables}

unfoldable pub rule_call : (n m : ℕ) → Tables → (caller kind mark : ℕ) → (handling : Option ℕ) → Outcome ℕ
rule_call n m t caller kind mark handling =
    by_caller n m t caller
    (check 2 (ltb kind n) t
    (check 3 (ltb mark m) t
    (check 4 (not (bare handling)) t
    (rule_edit n m t caller kind mark (unwrap_or handling 0)))))
