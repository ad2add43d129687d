-- The refusals that a change begins with on sound tables, by what `Ask` gives, and what it sets where it is let through.
--     rule_asked, link_asked    a kind and a mark, or two kinds, with what is set there
--     asked_change              refusals 2, 3 and 4 of a change, each where its edit has it
-- Assumes nothing.
use Rattle.std.specs.Prelude.{Bool, true, false, ℕ, Some, None, Result}
use Rattle.inheritance.specs.declared.Kind.{Kind}
use Rattle.inheritance.specs.declared.Mark.{Mark}
use Rattle.inheritance.specs.Checked.{kind_below, mark_below}
use Rattle.books.specs.Ask.{asked_at, bare, asked_rule, asked_link}
use Rattle.tables.specs.declared.Change.{Change}
use Rattle.tables.specs.declared.Refusal.{Refusal}
use Rattle.known_edits.specs.declared.Assignment.{Assignment}

abbrev pub rule_asked : Result (Kind × Mark) Refusal → (handling : ℕ) → Result Assignment Refusal
rule_asked (Result.Ok (kind, mark)) handling = Result.Ok (Assignment.Rule kind mark handling)
rule_asked (Result.Err why) handling = Result.Err why

abbrev pub link_asked : Result (Kind × Kind) Refusal → (adding : Bool) → Result Assignment Refusal
link_asked (Result.Ok (child, parent)) adding = Result.Ok (Assignment.Link child parent adding)
link_asked (Result.Err why) adding = Result.Err why

abbrev pub asked_change : (n m : ℕ) → Change → Result Assignment Refusal
asked_change n m (Change.AddRule kind mark handling) = rule_asked (asked_rule (asked_at (kind_below n kind.0) (mark_below m mark.0)) (bare (Some handling))) handling
asked_change n m (Change.TakeRule kind mark) = rule_asked (asked_rule (asked_at (kind_below n kind.0) (mark_below m mark.0)) (bare None)) 0
asked_change n m (Change.AddLink child parent) = link_asked (asked_link (kind_below n child.0) (kind_below n parent.0)) true
asked_change n m (Change.TakeLink child parent) = link_asked (asked_link (kind_below n child.0) (kind_below n parent.0)) false
