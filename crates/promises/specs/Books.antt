-- What is promised of a book and its store after any list of calls, of the last two on any book, and otherwise on one just opened: any of the twelve calls, lists of edits, saves and returns
-- among them, in any number and order, with any arguments, refused ones too (docs/SCOPE.md, "Two books, any calls"). The store may hold anything, but for
-- ReturnNever5.
--     Opens, just_opened, tables_after    an open of n and m is accepted; the book that it leaves, with a store; the tables after a list of calls on it
--     BooksAgree          two books of the same size: where links and rules agree, entries and dispute counts do
--     StaysSound          the book is sound; StaysCounted: each dispute count is the number of kinds with a dispute entry
--     TallyCounts         each caller's number is that of its accepted edits, up to the largest
--     Never5, Never10     no call on the book alone is refused by 5 or 10; ReturnNever5: nor, with a store of flags 0, a return by 5
--     StateIsLastSaved    the state with a name is the book that the last accepted save under it found
--     ReturnBringsBack    after an accepted return the book is that of the calls after it, on the saved state
-- Assumes nothing.
use Rattle.std.specs.Prelude.{◌≡◌, ◌≢◌, true, List, ◌∷◌, ◌++◌, ℕ, ◌+◌, ◌*◌, ◌<◌, leb, min, get_or}
use Rattle.inheritance.specs.Above.{count}
use Rattle.tables.specs.Books.{Call, Agree, RefusedBy, outcome}
use Rattle.tables.specs.Calls.{open_book}
use Rattle.tables.specs.Lists.{run}
use Rattle.tables.specs.Reply.{refused, given}
use Rattle.tables.specs.Tables.{Tables, shaped, sound}
use Rattle.stores.specs.Name.{names}
use Rattle.stores.specs.Store as store
use Rattle.stores.specs.Store.{Store, stored, state_at}
use Rattle.stores.specs.StoreSteps.{StateIs, SameBooks}
use Rattle.stores.specs.StoredBooks.{StoredBook, StoredCall, after_call, edits_since, saved_last}
use Rattle.stores.specs.StoredBooks.StoredCall.{return_to}

-- ---- lists of calls

abbrev pub Opens : (n m : ℕ) → Tables → Type 0
Opens n m t = (open_book n m t).reply ≡ given tt

abbrev pub just_opened : (n m : ℕ) → Tables → Store → StoredBook
just_opened n m t s = record { tables = (open_book n m t).tables; store = s }

abbrev pub tables_after : List StoredCall → StoredBook → Tables
tables_after calls b = (run after_call calls b).tables

-- each list has a book of its own with a store of its own, both books just opened with the same n and m
abbrev pub BooksAgree : Type 0
BooksAgree = (n m : ℕ) (t u : Tables) → Opens n m t → Opens n m u → (s s' : Store) (xs ys : List StoredCall)
    → let a = tables_after xs (just_opened n m t s) in let b = tables_after ys (just_opened n m u s') in
    Agree a.links b.links → Agree a.rules b.rules → Agree a.entries b.entries × Agree a.disputes b.disputes

abbrev pub StaysSound : Type 0
StaysSound = (n m : ℕ) (t : Tables) → Opens n m t → (s : Store) (calls : List StoredCall) → sound n m (tables_after calls (just_opened n m t s)) ≡ true

-- an entry from 257 on is that of a dispute
abbrev pub StaysCounted : Type 0
StaysCounted = (n m : ℕ) (t : Tables) → Opens n m t → (s : Store) (calls : List StoredCall) (mark : ℕ) → mark < m
    → let left = tables_after calls (just_opened n m t s) in
    get_or left.disputes mark 0 ≡ count (λ kind. leb 257 (get_or left.entries (kind * m + mark) 0)) n

-- the smaller of 4,294,967,295 and the caller's edits accepted since the last accepted open; past the last caller there is no number, and no edit is accepted
abbrev pub TallyCounts : Type 0
TallyCounts = (n m : ℕ) (t : Tables) → Opens n m t → (s : Store) (calls : List StoredCall) (caller : ℕ)
    → let opened = just_opened n m t s in get_or (tables_after calls opened).tally caller 0 ≡ min 4294967295 (edits_since caller 0 calls opened)

-- a call of any n and m that the store is not lent to
abbrev pub NeverRefusedBy : (number : ℕ) → Type 0
NeverRefusedBy number = (n m : ℕ) (t : Tables) → Opens n m t → (s : Store) (calls : List StoredCall) (call : Call)
    → ¬ RefusedBy number (outcome call (tables_after calls (just_opened n m t s))).answer

abbrev pub Never5 : Type 0
Never5 = NeverRefusedBy 5

abbrev pub Never10 : Type 0
Never10 = NeverRefusedBy 10

-- a return of any n and m, where the flags of the store were 0 when the book was opened
abbrev pub ReturnNever5 : Type 0
ReturnNever5 = (n m : ℕ) (t : Tables) → Opens n m t → (s : Store) → ((name : ℕ) → get_or s.flags name 0 ≡ 0)
    → (calls : List StoredCall) (n' m' caller name : ℕ)
    → let found = run after_call calls (just_opened n m t s) in (store.return_to n' m' found.tables found.store caller name).reply ≢ refused 5

-- ---- saved states

-- on any book and store that fit n and m: the state is the book that the last accepted save under the name found, or what the store held under it at the start
abbrev pub StateIsLastSaved : Type 0
StateIsLastSaved = (n m name : ℕ) (calls : List StoredCall) (b : StoredBook) (before : Tables) → shaped n m b.tables ≡ true → stored n m b.store ≡ true
    → name < names → StateIs n m b.store name before → StateIs n m (run after_call calls b).store name (saved_last name before calls b)

-- with an accepted return in it, a list ends with the links, rules, entries and dispute counts, and the store, of another: that which begins with the saved
-- state, and with the store as that return found it, and has the calls after that return
abbrev pub ReturnBringsBack : Type 0
ReturnBringsBack = (b : StoredBook) (before : List StoredCall) (n m caller name : ℕ) (after : List StoredCall) (count : ℕ)
    → let found = run after_call before b in (store.return_to n m found.tables found.store caller name).reply ≡ given count
    → let saved = saved_last name (state_at n m b.store name b.tables.tally) before b in
    SameBooks (run after_call (before ++ (return_to n m caller name ∷ after)) b) (run after_call after (record { tables = saved; store = found.store }))
