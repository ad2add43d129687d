-- The four edits as values, and a list of them in one call.
--     Change          one of the four edits, with any arguments; change_of: the one that the code's value stands for
--     edit_outcome    what an edit of a caller answers and the tables that it leaves
--     change_in       the change that a record of a list stands for, and Recorded: the code has it so; record_outcome: what its edit answers and leaves
--     run             the state that a list of steps leaves: each step gets it as the step before left it
--     make_list       what a list of records answers and leaves
-- Assumes nothing.
use Rattle.std.specs.Prelude.{◌≡◌, Result, true, false, ◌&&◌, List, [], ◌∷◌, ℕ, ◌+◌, eqb, leb, ltb, length}
use Rattle.tables.specs.declared.Change.{Change as CodeChange}
use Rattle.tables.specs.declared.Edit.{Edit}
use Rattle.tables.specs.declared.Refusal.{Refusal}
use Rattle.tables.specs.Caller.{callers}
use Rattle.tables.specs.Reply.{Reply, refused, given, replied_as, Listing, whole, stopped}
use Rattle.tables.specs.Tables.{Tables, shaped, sound}
use Rattle.tables.specs.Calls as calls
use Rattle.tables.specs.Calls.{Outcome, leaves, check}

-- ---- one edit

pub data Change : Type 0 where
  add_rule : (kind mark handling : ℕ) → Change
  take_rule : (kind mark : ℕ) → Change
  add_link : (child parent : ℕ) → Change
  take_link : (child parent : ℕ) → Change

abbrev pub change_of : CodeChange → Change
change_of (CodeChange.AddRule kind mark handling) = add_rule kind.0 mark.0 handling
change_of (CodeChange.TakeRule kind mark) = take_rule kind.0 mark.0
change_of (CodeChange.AddLink child parent) = add_link child.0 parent.0
change_of (CodeChange.TakeLink child parent) = take_link child.0 parent.0

unfoldable pub edit_outcome : (n m : ℕ) → Tables → (caller : ℕ) → Change → Outcome ℕ
edit_outcome n m t caller (add_rule kind mark handling) = calls.add_rule n m t caller kind mark handling
edit_outcome n m t caller (take_rule kind mark) = calls.take_rule n m t caller kind mark
edit_outcome n m t caller (add_link child parent) = calls.add_link n m t caller child parent
edit_outcome n m t caller (take_link child parent) = calls.take_link n m t caller child parent

-- ---- a record of a list

-- 1 adds a rule, 2 takes one, 3 adds a link, 4 takes one; 19 refuses every other number
unfoldable pub change_in : Edit → Reply Change
change_in e =
    elim (eqb e.what 1) [
      | true ↦ given (add_rule e.kind e.other e.handling)
      | false ↦ elim (eqb e.what 2) [
        | true ↦ given (take_rule e.kind e.other)
        | false ↦ elim (eqb e.what 3) [
          | true ↦ given (add_link e.kind e.other)
          | false ↦ elim (eqb e.what 4) [ true ↦ given (take_link e.kind e.other) | false ↦ refused 19 ]
        ]
      ]
    ]

abbrev pub Recorded : Edit → Result CodeChange Refusal → Type 0
Recorded e r = replied_as change_of r ≡ change_in e

-- the edit of a change that there is; a record that has none is refused and leaves the tables
abbrev pub if_change : (n m : ℕ) → Tables → (caller : ℕ) → Reply Change → Outcome ℕ
if_change n m t caller (refused number) = leaves (refused number) t
if_change n m t caller (given change) = edit_outcome n m t caller change

unfoldable pub record_outcome : (n m : ℕ) → Tables → (caller : ℕ) → Edit → Outcome ℕ
record_outcome n m t caller e = if_change n m t caller (change_in e)

-- ---- a list

unfoldable pub run : {C S : Type 0} → (step : C → S → S) → List C → S → S
run step [] s = s
run step (c ∷ cs) s = run step cs (step c s)

-- after so many accepted edits with this sum of their counts, and the outcome of the next: it is counted in, or the list stops at it
abbrev pub counting : (accepted changed : ℕ) → Reply ℕ → Listing
counting accepted changed (given count) = whole (accepted + 1) (changed + count)
counting accepted changed (refused number) = stopped accepted changed number

abbrev pub counted_in : (accepted changed : ℕ) → Outcome ℕ → Outcome Listing
counted_in accepted changed o = leaves (given (counting accepted changed o.reply)) o.tables

-- the next edit of a list, by where the list stands: after a refusal none is tried
abbrev pub onward : (n m caller : ℕ) → Edit → Tables → Reply Listing → Outcome Listing
onward n m caller e t (given (whole accepted changed)) = counted_in accepted changed (record_outcome n m t caller e)
onward n m caller e t (given (stopped accepted changed number)) = leaves (given (stopped accepted changed number)) t
onward n m caller e t (refused number) = leaves (refused number) t

unfoldable pub next_edit : (n m caller : ℕ) → Edit → Outcome Listing → Outcome Listing
next_edit n m caller e o = onward n m caller e o.tables o.reply

-- the most records of a list
abbrev pub most_records : ℕ
most_records = 4096

-- the checks before the first edit of a list of so many records; none is made yet
unfoldable pub begin_list : (n m : ℕ) → Tables → (caller records : ℕ) → Outcome Listing
begin_list n m t caller records =
    check 1 (shaped n m t && leb records most_records) t
    (check 13 (ltb caller callers) t
    (check 5 (sound n m t) t
    (leaves (given (whole 0 0)) t)))

-- .. and then the edits in order
unfoldable pub make_list : (n m : ℕ) → Tables → (caller : ℕ) → List Edit → Outcome Listing
make_list n m t caller es = run (next_edit n m caller) es (begin_list n m t caller (length es))
