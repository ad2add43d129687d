-- What a call answers, in the numbers and values of docs/SCOPE.md, and which case of the code's enums stands for which.
--     Reply              a refusal with its number, or what the call gives
--     Finding            what find gives; Fault: what inspect gives; TwoKinds: what parties gives; Listing: what a list of edits gives
--     listed             a whole list of edits, or one that stopped at an edit, by the code's values
--     refusal_number     the number of each refusal; Numbered: that a refusal is converted to it
--     replied, replied_as                        the reply that the code's answer stands for
--     found_of, kinds_of, fault_in, listing_of   the number and values of each case of what it gives
-- Assumes nothing.
use Rattle.std.specs.Prelude.{◌≡◌, ℕ, Option, Some, None, Result}
use Rattle.inheritance.specs.declared.Kind.{Kind}
use Rattle.tables.specs.declared.Refusal.{Refusal}
use Rattle.tables.specs.declared.Found.{Found}
use Rattle.tables.specs.declared.Fault.{Fault as CodeFault}
use Rattle.tables.specs.declared.Listing.{Listing as CodeListing}

pub data Reply (A : Type 0) : Type 0 where
  refused : (number : ℕ) → Reply A
  given : A → Reply A

-- none, a kind and its handling number, or a dispute and its kind
pub data Finding : Type 0 where
  none : Finding
  rule : (kind handling : ℕ) → Finding
  dispute : (kind : ℕ) → Finding

-- sound; the place of a link byte above 1; a kind above itself; the place of an entry that is not its lookup; a mark whose dispute count is not
-- that of its dispute entries
pub data Fault : Type 0 where
  sound : Fault
  link_byte : (place : ℕ) → Fault
  above_itself : (kind : ℕ) → Fault
  wrong_entry : (place : ℕ) → Fault
  wrong_count : (mark : ℕ) → Fault

pub record TwoKinds : Type 0 where
  pub one : ℕ
  pub other : ℕ

-- how many edits of a list were accepted, and the sum of their counts: all of them, or up to one that is refused by a number
pub data Listing : Type 0 where
  whole : (accepted changed : ℕ) → Listing
  stopped : (accepted changed number : ℕ) → Listing

abbrev pub refusal_number : Refusal → ℕ
refusal_number Refusal.Shape = 1
refusal_number Refusal.Kind = 2
refusal_number Refusal.Mark = 3
refusal_number Refusal.Handling = 4
refusal_number Refusal.Unsound = 5
refusal_number Refusal.NoRule = 6
refusal_number Refusal.Linked = 7
refusal_number Refusal.NotLinked = 8
refusal_number Refusal.Cycle = 9
refusal_number Refusal.BadEntry = 10
refusal_number Refusal.NoDispute = 11
refusal_number Refusal.BadForm = 12
refusal_number Refusal.Caller = 13
refusal_number Refusal.Name = 14
refusal_number Refusal.Unsaved = 15
refusal_number Refusal.NoEdit = 19

-- the code's number of a refusal
abbrev pub Numbered : Refusal → ℕ → Type 0
Numbered why number = number ≡ refusal_number why

-- ---- as the code has them

-- the reply that the code's answer stands for, where each value stands for one of another type
abbrev pub replied_as : {A B : Type 0} → (A → B) → Result A Refusal → Reply B
replied_as of (Result.Ok value) = given (of value)
replied_as of (Result.Err why) = refused (refusal_number why)

-- .. and where it stands for itself
abbrev pub replied : {A : Type 0} → Result A Refusal → Reply A
replied (Result.Ok value) = given value
replied (Result.Err why) = refused (refusal_number why)

abbrev pub found_of : Found → Finding
found_of Found.None = none
found_of (Found.Rule k handling) = rule k.0 handling
found_of (Found.Dispute k) = dispute k.0

abbrev pub kinds_of : Kind × Kind → TwoKinds
kinds_of (j, k) = record { one = j.0; other = k.0 }

abbrev pub fault_in : Option CodeFault → Fault
fault_in None = sound
fault_in (Some (CodeFault.LinkByte place)) = link_byte place
fault_in (Some (CodeFault.AboveItself k)) = above_itself k.0
fault_in (Some (CodeFault.WrongEntry place)) = wrong_entry place
fault_in (Some (CodeFault.WrongCount j)) = wrong_count j.0

abbrev pub listed : (accepted changed : ℕ) → Option Refusal → Listing
listed accepted changed None = whole accepted changed
listed accepted changed (Some why) = stopped accepted changed (refusal_number why)

abbrev pub listing_of : CodeListing → Listing
listing_of l = listed l.accepted l.changed l.stopped
