-- What is promised of one call on any tables t of a book (docs/SCOPE.md, "The calls" and "What an edit can touch").
--     AddRuleEdits, TakeRuleEdits, AddLinkEdits, TakeLinkEdits    an accepted edit changes its one place, and what follows from it
--     RefreshRenews                  an accepted refresh leaves links, rules and tally, and sound tables
--     FindSound                      on sound tables find gives the lookup; found: what it gives for a lookup
--     FindNever10                    on sound tables, of any kind and mark, find is not refused by 10
--     LaneSound                      so does a lane's find, on the same tables in bytes
--     ListWhole, ListStopped         a list has made the edit of each record, or of those before the one at which it stopped
--     InspectSound                   inspect answers sound exactly if the tables are
--     PartiesDispute                 parties gives the two lowest kinds left; TwoLowest
-- Assumes nothing.
use Rattle.std.specs.Prelude.{◌≡◌, ◌≢◌, ◌↔◌, true, List, ℕ, ◌+◌, ◌*◌, ◌<◌, length, get_or}
use Rattle.inheritance.specs.declared.Kind.{Kind}
use Rattle.inheritance.specs.declared.Lookup.{Lookup}
use Rattle.inheritance.specs.declared.Lookup.TheVariants.{None, Rule, Dispute}
use Rattle.inheritance.specs.Lookup.{Left, lookup}
use Rattle.tables.specs.declared.Edit.{Edit}
use Rattle.tables.specs.Calls as calls
use Rattle.tables.specs.Controller.{shaped_bytes, words16, spelled, packed, find_packed}
use Rattle.tables.specs.Edit.{RuleEdited, LinkEdited, Refreshed}
use Rattle.tables.specs.Lists.{make_list}
use Rattle.tables.specs.ListSteps.{Steps, StoppedAt}
use Rattle.tables.specs.Reply.{refused, given, Finding, Fault, TwoKinds, whole, stopped}
use Rattle.tables.specs.Tables.{Tables, shaped, up_of, own_of, sound}

-- ---- the edits

abbrev pub AddRuleEdits : Type 0
AddRuleEdits = (n m : ℕ) (t : Tables) (caller kind mark handling returned : ℕ)
    → let o = calls.add_rule n m t caller kind mark handling in o.reply ≡ given returned → RuleEdited n m caller kind mark handling t o.tables returned

-- the rule that is taken becomes 0
abbrev pub TakeRuleEdits : Type 0
TakeRuleEdits = (n m : ℕ) (t : Tables) (caller kind mark returned : ℕ)
    → let o = calls.take_rule n m t caller kind mark in o.reply ≡ given returned → RuleEdited n m caller kind mark 0 t o.tables returned

-- the byte of the link becomes 1
abbrev pub AddLinkEdits : Type 0
AddLinkEdits = (n m : ℕ) (t : Tables) (caller child parent returned : ℕ)
    → let o = calls.add_link n m t caller child parent in o.reply ≡ given returned → LinkEdited n m caller child parent 1 t o.tables returned

-- the byte of the link becomes 0
abbrev pub TakeLinkEdits : Type 0
TakeLinkEdits = (n m : ℕ) (t : Tables) (caller child parent returned : ℕ)
    → let o = calls.take_link n m t caller child parent in o.reply ≡ given returned → LinkEdited n m caller child parent 0 t o.tables returned

abbrev pub RefreshRenews : Type 0
RefreshRenews = (n m : ℕ) (t : Tables) (returned : ℕ) → let o = calls.refresh n m t in o.reply ≡ given returned → Refreshed n m t o.tables returned

-- ---- find

-- none, the rule of a kind with its handling number, or the dispute at a kind, where `rule o` is the handling number of kind o
abbrev pub found : (rule : ℕ → ℕ) → Lookup → Finding
found rule None = Finding.none
found rule (Rule o) = Finding.rule o.0 (rule o.0)
found rule (Dispute x) = Finding.dispute x.0

abbrev pub FindSound : Type 0
FindSound = (n m : ℕ) (t : Tables) (kind mark : ℕ) → shaped n m t ≡ true → kind < n → mark < m → sound n m t ≡ true
    → (calls.find n m t kind mark).reply ≡ given (found (λ o. get_or t.rules (o * m + mark) 0) (lookup n (up_of n t.links) (own_of m t.rules mark) kind))

abbrev pub FindNever10 : Type 0
FindNever10 = (n m : ℕ) (t : Tables) (kind mark : ℕ) → sound n m t ≡ true → (calls.find n m t kind mark).reply ≢ refused 10

-- the tables are lent in bytes, and sound are those that the bytes spell
abbrev pub LaneSound : Type 0
LaneSound = (n m : ℕ) (bytes : Tables) (kind mark : ℕ) → shaped_bytes n m bytes ≡ true → kind < n → mark < m → sound n m (spelled bytes) ≡ true
    → let rules = words16 bytes.rules in
    find_packed n m bytes kind mark ≡ packed (given (found (λ o. get_or rules (o * m + mark) 0) (lookup n (up_of n bytes.links) (own_of m rules mark) kind)))

-- ---- lists

-- there are as many edits as records, and the sum is that of their counts
abbrev pub ListWhole : Type 0
ListWhole = (n m : ℕ) (t : Tables) (caller : ℕ) (records : List Edit) (accepted changed : ℕ)
    → let o = make_list n m t caller records in o.reply ≡ given (whole accepted changed)
    → (accepted ≡ length records) × Steps n m caller records t changed o.tables

-- fewer edits were made than there are records, and the edit of the next record, on the tables that the list leaves, is refused by the number
abbrev pub ListStopped : Type 0
ListStopped = (n m : ℕ) (t : Tables) (caller : ℕ) (records : List Edit) (accepted changed number : ℕ)
    → let o = make_list n m t caller records in o.reply ≡ given (stopped accepted changed number)
    → (accepted < length records) × StoppedAt n m caller records t accepted changed number o.tables

-- ---- inspect and parties

abbrev pub InspectSound : Type 0
InspectSound = (n m : ℕ) (t : Tables) → shaped n m t ≡ true → ((calls.inspect n m t).reply ≡ given Fault.sound) ↔ (sound n m t ≡ true)

-- the lowest of the kinds left, then the second lowest
pub record TwoLowest (IsLeft : ℕ → Type 0) (pair : TwoKinds) : Type 0 where
  pub one_left : IsLeft pair.one
  pub other_left : IsLeft pair.other
  pub in_order : pair.one < pair.other
  pub no_other : (o : ℕ) → IsLeft o → o < pair.other → o ≡ pair.one

abbrev pub PartiesDispute : Type 0
PartiesDispute = (n m : ℕ) (t : Tables) (kind mark : ℕ) → shaped n m t ≡ true → kind < n → mark < m → sound n m t ≡ true
    → let up = up_of n t.links in let own = own_of m t.rules mark in (x : Kind) → lookup n up own kind ≡ Dispute x
    → (pair : TwoKinds) × ((calls.parties n m t kind mark).reply ≡ given pair) × TwoLowest (Left n up own kind) pair
