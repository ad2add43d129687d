-- What each call answers and what it leaves in the tables, as docs/SCOPE.md has it, call by call. The checks of a call stand in its
-- order, each with the number of its refusal.
--     open_book, add_rule, take_rule, add_link, take_link, find, parties, inspect, refresh; by_caller: what every edit checks first
-- Assumes nothing.
use Rattle.std.specs.Prelude.{Bool, true, false, ◌&&◌, ◌||◌, not, List, ℕ, zero, suc, ◌+◌, ◌*◌, ◌-◌, eqb, leb, ltb, get_or, replicate, set}
use Rattle.inheritance.specs.Above.{above}
use Rattle.inheritance.specs.Lookup.{left, passing}
use Rattle.tables.specs.Reply.{Reply, refused, given, Finding, Fault, TwoKinds}
use Rattle.tables.specs.Caller.{callers}
use Rattle.tables.specs.Tables.{Tables, lent, shaped, up_of, own_of, entries_of, disputes_of, links_right, sound, differing, tallied}
use Rattle.tables.specs.Tables.{is_dispute, all_below, byte_right, kind_free, entry_right, count_right}

-- what a call replies, and the tables that it leaves: those of a book, or others that it writes
pub record OutcomeOn (T A : Type 0) : Type 0 where
  pub reply : Reply A
  pub tables : T

abbrev pub Outcome : Type 0 → Type 0
Outcome A = OutcomeOn Tables A

-- a call that replies so and leaves these tables
abbrev pub leaves : {T A : Type 0} → Reply A → T → OutcomeOn T A
leaves reply t = record { reply = reply; tables = t }

-- where the test fails the call is refused by this number and writes to no table
unfoldable pub check : {T A : Type 0} → ℕ → Bool → T → OutcomeOn T A → OutcomeOn T A
check number true t next = next
check number false t next = leaves (refused number) t

-- ---- Open

-- all five tables are 0
abbrev pub zeros : ℕ → ℕ → Tables
zeros n m = lent (replicate (n * n) 0) (replicate (n * m) 0) (replicate (n * m) 0) (replicate callers 0) (replicate m 0)

unfoldable pub open_book : (n m : ℕ) → Tables → Outcome (Unit {0})
open_book n m t =
    check 1 (shaped n m t) t
    (leaves (given tt) (zeros n m))

-- ---- The four edits

-- every edit begins so: the tables have their lengths, and the tally has a number for the caller
abbrev pub by_caller : {A : Type 0} → (n m : ℕ) → Tables → (caller : ℕ) → Outcome A → Outcome A
by_caller n m t caller next =
    check 1 (shaped n m t) t
    (check 13 (ltb caller callers) t
    next)

-- an accepted edit: the links and rules are as given, every entry is its lookup, the tally counts one more of the caller, and the dispute
-- counts are those of the entries; the count is of the places whose entry differs from before
unfoldable pub accepted : (n m : ℕ) → Tables → (caller : ℕ) → (links rules : List ℕ) → Outcome ℕ
accepted n m t caller links rules =
    let entries = entries_of n m (up_of n links) rules in
    leaves (given (differing t.entries entries))
    (lent links rules entries (tallied caller t.tally) (disputes_of n m entries))

unfoldable pub add_rule : (n m : ℕ) → Tables → (caller kind mark handling : ℕ) → Outcome ℕ
add_rule n m t caller kind mark handling =
    by_caller n m t caller
    (check 2 (ltb kind n) t
    (check 3 (ltb mark m) t
    (check 4 (not (eqb handling 0)) t
    (check 5 (sound n m t) t
    (accepted n m t caller t.links (set t.rules (kind * m + mark) handling))))))

unfoldable pub take_rule : (n m : ℕ) → Tables → (caller kind mark : ℕ) → Outcome ℕ
take_rule n m t caller kind mark =
    by_caller n m t caller
    (check 2 (ltb kind n) t
    (check 3 (ltb mark m) t
    (check 5 (sound n m t) t
    (check 6 (own_of m t.rules mark kind) t
    (accepted n m t caller t.links (set t.rules (kind * m + mark) 0))))))

unfoldable pub add_link : (n m : ℕ) → Tables → (caller child parent : ℕ) → Outcome ℕ
add_link n m t caller child parent =
    by_caller n m t caller
    (check 2 (ltb child n && ltb parent n) t
    (check 5 (sound n m t) t
    (check 7 (not (up_of n t.links child parent)) t
    (check 9 (not (eqb parent child || above n (up_of n t.links) parent child)) t
    (accepted n m t caller (set t.links (child * n + parent) 1) t.rules)))))

unfoldable pub take_link : (n m : ℕ) → Tables → (caller child parent : ℕ) → Outcome ℕ
take_link n m t caller child parent =
    by_caller n m t caller
    (check 2 (ltb child n && ltb parent n) t
    (check 5 (sound n m t) t
    (check 8 (up_of n t.links child parent) t
    (accepted n m t caller (set t.links (child * n + parent) 0) t.rules))))

-- ---- Find

-- a rule of kind o whose handling number is h; 10 where kind o has no own rule
abbrev pub handled : ℕ → ℕ → Reply Finding
handled o h = elim (eqb h 0) [ true ↦ refused 10 | false ↦ given (Finding.rule o h) ]

-- what the entry says on a book of n kinds, where `rule o` is what kind o's own rule for the mark holds; 10 where it is neither 0, nor 1 to n,
-- nor 257 to 256 + n
unfoldable pub finding_of : ℕ → (rule : ℕ → ℕ) → (entry : ℕ) → Reply Finding
finding_of n rule entry =
    elim (eqb entry 0) [
      | true ↦ given Finding.none
      | false ↦ elim (leb entry n) [
        | true ↦ handled (entry - 1) (rule (entry - 1))
        | false ↦ elim (leb 257 entry && leb entry (256 + n)) [
          | true ↦ given (Finding.dispute (entry - 257))
          | false ↦ refused 10
        ]
      ]
    ]

unfoldable pub find : (n m : ℕ) → Tables → (kind mark : ℕ) → Outcome Finding
find n m t kind mark =
    check 1 (shaped n m t) t
    (check 2 (ltb kind n) t
    (check 3 (ltb mark m) t
    (leaves (finding_of n (λ o. get_or t.rules (o * m + mark) 0) (get_or t.entries (kind * m + mark) 0)) t)))

-- ---- Parties

-- the kinds left at a kind, lowest first
abbrev pub kinds_left : (n m : ℕ) → Tables → (kind mark : ℕ) → List ℕ
kinds_left n m t kind mark = passing (left n (up_of n t.links) (own_of m t.rules mark) kind) n

-- the lowest of them, then the second lowest; at a dispute of sound tables there are two (`parties_dispute`)
abbrev pub lowest_two : List ℕ → TwoKinds
lowest_two kinds = record { one = get_or kinds 0 0; other = get_or kinds 1 0 }

unfoldable pub parties : (n m : ℕ) → Tables → (kind mark : ℕ) → Outcome TwoKinds
parties n m t kind mark =
    check 1 (shaped n m t) t
    (check 2 (ltb kind n) t
    (check 3 (ltb mark m) t
    (check 5 (sound n m t) t
    (check 11 (is_dispute (get_or t.entries (kind * m + mark) 0)) t
    (leaves (given (lowest_two (kinds_left n m t kind mark))) t)))))

-- ---- Inspect

-- the lowest number below k that fails the test; k where none does
unfoldable pub lowest : (ℕ → Bool) → ℕ → ℕ
lowest f zero = 0
lowest f (suc k) = elim (all_below f k) [ true ↦ elim (f k) [ true ↦ suc k | false ↦ k ] | false ↦ lowest f k ]

-- the first fault, where the tests say whether the link bytes, the kinds, the entries and the dispute counts are right, and the numbers which is
-- the lowest that is not
abbrev pub first_fault : (bytes kinds entries counts : Bool) → (byte kind entry mark : ℕ) → Fault
first_fault false kinds entries counts byte kind entry mark = Fault.link_byte byte
first_fault true false entries counts byte kind entry mark = Fault.above_itself kind
first_fault true true false counts byte kind entry mark = Fault.wrong_entry entry
first_fault true true true false byte kind entry mark = Fault.wrong_count mark
first_fault true true true true byte kind entry mark = Fault.sound

-- the lowest place of a link byte above 1; the lowest kind above itself; the lowest place whose entry is not its lookup; the lowest mark whose
-- dispute count is not that of its dispute entries
unfoldable pub fault_of : (n m : ℕ) → Tables → Fault
fault_of n m t =
    let up = up_of n t.links in
    let entries_right = entry_right n m up t.rules t.entries in
    let counts_right = count_right n m t.entries t.disputes in
    first_fault
    (all_below (byte_right t.links) (n * n)) (all_below (kind_free n up) n) (all_below entries_right (n * m)) (all_below counts_right m)
    (lowest (byte_right t.links) (n * n)) (lowest (kind_free n up) n) (lowest entries_right (n * m)) (lowest counts_right m)

unfoldable pub inspect : (n m : ℕ) → Tables → Outcome Fault
inspect n m t =
    check 1 (shaped n m t) t
    (leaves (given (fault_of n m t)) t)

-- ---- Refresh

unfoldable pub refresh : (n m : ℕ) → Tables → Outcome ℕ
refresh n m t =
    let entries = entries_of n m (up_of n t.links) t.rules in
    check 1 (shaped n m t) t
    (check 5 (links_right n t.links) t
    (leaves (given (differing t.entries entries))
    (lent t.links t.rules entries t.tally (disputes_of n m entries))))
