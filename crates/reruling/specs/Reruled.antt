-- The change of a rule in the parts that the code has.
--     stored           the rules with one stored: handling 0 takes it
--     rule_edit        the edit from refusal 5 on
--     RuleUntouched    what is known of the entries once the rule is stored: what it cannot touch has its lookup
--     Applied          the rule is stored, every entry for the mark is its lookup, one more edit of the caller is counted, and the dispute counts are
--                      those of the entries
-- Assumes nothing.
use Rattle.std.specs.Prelude.{◌≡◌, Bool, ◌&&◌, not, List, ℕ, ◌+◌, ◌*◌, eqb, get_or, set}
use Rattle.counting.specs.Counting.{Counted}
use Rattle.resettling.specs.Edits.{Untouched}
use Rattle.settling.specs.Settled.{Settled}
use Rattle.tables.specs.Calls.{Outcome, check, accepted}
use Rattle.tables.specs.Tables.{Tables, own_of, sound, tallied}

abbrev pub stored : (m : ℕ) → List ℕ → (kind mark handling : ℕ) → List ℕ
stored m rules kind mark handling = set rules (kind * m + mark) handling

unfoldable pub rule_edit : (n m : ℕ) → Tables → (caller kind mark handling : ℕ) → Outcome ℕ
rule_edit n m t caller kind mark handling =
    check 5 (sound n m t) t
    (check 6 (not (eqb handling 0 && eqb (get_or t.rules (kind * m + mark) 0) 0)) t
    (accepted n m t caller t.links (stored m t.rules kind mark handling)))

abbrev pub RuleUntouched : (n m kind mark : ℕ) (up : ℕ → ℕ → Bool) (rules entries : List ℕ) → Type 0
RuleUntouched n m kind mark up rules entries = Untouched n m mark (mark + 1) up (own_of m rules mark) kind rules entries

pub record Applied (n m caller kind mark : ℕ) (up : ℕ → ℕ → Bool) (ruled rules old entries before tally disputes : List ℕ) (count : ℕ) : Type 0 where
  pub rule : rules ≡ ruled
  pub settled : Settled n m mark (mark + 1) up ruled old entries count
  pub counted : tally ≡ tallied caller before
  pub counts : Counted m entries disputes
