-- Calls as values.
--     Call         a size and what is asked: one of the ten calls, with any arguments
--     Answer       what a call answers, of whichever kind it is
--     RefusedBy    the answer is a refusal of this number
--     outcome      what a call answers and the tables that it leaves; after: the tables alone
--     call_of, answered     the call, and the answer, that the code's values stand for
--     counted_by   a caller's edits accepted since the last accepted open, after a call that answers so
--     Agree        every place of two tables holds the same number
-- Assumes nothing.
use Rattle.std.specs.Prelude.{◌≡◌, Bool, true, false, List, ℕ, ◌+◌, eqb, get_or}
use Rattle.tables.specs.declared.Edit.{Edit}
use Rattle.tables.specs.declared.Request.{Request as CodeRequest}
use Rattle.tables.specs.declared.Call.{Call as CodeCall}
use Rattle.tables.specs.declared.Answer.{Answer as CodeAnswer}
use Rattle.tables.specs.Reply.{Reply, refused, given, Finding, Fault, TwoKinds, Listing, whole, stopped, replied, replied_as, found_of, kinds_of, fault_in}
use Rattle.tables.specs.Tables.{Tables}
use Rattle.tables.specs.Calls as calls
use Rattle.tables.specs.Calls.{Outcome}
use Rattle.tables.specs.Lists.{Change, change_of, edit_outcome, make_list}

pub data Request : Type 0 where
  open_book : Request
  edit : (caller : ℕ) → Change → Request
  edit_all : (caller : ℕ) → List Edit → Request
  find : (kind mark : ℕ) → Request
  parties : (kind mark : ℕ) → Request
  inspect : Request
  refresh : Request

pub record Call : Type 0 where
  pub n : ℕ
  pub m : ℕ
  pub request : Request

pub data Answer : Type 0 where
  opening : Reply (Unit {0}) → Answer
  editing : Reply ℕ → Answer
  finding : Reply Finding → Answer
  pairing : Reply TwoKinds → Answer
  inspecting : Reply Fault → Answer
  listing : Reply Listing → Answer

abbrev pub RefusedBy : ℕ → Answer → Type 0
RefusedBy number (opening reply) = reply ≡ refused number
RefusedBy number (editing reply) = reply ≡ refused number
RefusedBy number (finding reply) = reply ≡ refused number
RefusedBy number (pairing reply) = reply ≡ refused number
RefusedBy number (inspecting reply) = reply ≡ refused number
RefusedBy number (listing reply) = reply ≡ refused number

pub record Result : Type 0 where
  pub answer : Answer
  pub tables : Tables

-- a call that answers so and leaves these tables
abbrev pub gives : Answer → Tables → Result
gives answer t = record { answer = answer; tables = t }

-- the outcome of a call of one kind
abbrev pub told : {A : Type 0} → (Reply A → Answer) → Outcome A → Result
told answer o = gives (answer o.reply) o.tables

unfoldable pub answer_to : (n m : ℕ) → Tables → Request → Result
answer_to n m t open_book = told opening (calls.open_book n m t)
answer_to n m t (edit caller e) = told editing (edit_outcome n m t caller e)
answer_to n m t (edit_all caller es) = told listing (make_list n m t caller es)
answer_to n m t (find kind mark) = told finding (calls.find n m t kind mark)
answer_to n m t (parties kind mark) = told pairing (calls.parties n m t kind mark)
answer_to n m t inspect = told inspecting (calls.inspect n m t)
answer_to n m t refresh = told editing (calls.refresh n m t)

abbrev pub outcome : Call → Tables → Result
outcome call t = answer_to call.n call.m t call.request

abbrev pub after : Call → Tables → Tables
after call t = (outcome call t).tables

-- ---- as the code has them

abbrev pub request_of : CodeRequest → Request
request_of CodeRequest.Open = open_book
request_of (CodeRequest.Edit caller e) = edit caller.0 (change_of e)
request_of (CodeRequest.Find kind mark) = find kind.0 mark.0
request_of (CodeRequest.Parties kind mark) = parties kind.0 mark.0
request_of CodeRequest.Inspect = inspect
request_of CodeRequest.Refresh = refresh

abbrev pub call_of : CodeCall → Call
call_of call = record { n = call.n; m = call.m; request = request_of call.request }

abbrev pub answered : CodeAnswer → Answer
answered (CodeAnswer.Opened reply) = opening (replied reply)
answered (CodeAnswer.Edited reply) = editing (replied reply)
answered (CodeAnswer.Found reply) = finding (replied_as found_of reply)
answered (CodeAnswer.Paired reply) = pairing (replied_as kinds_of reply)
answered (CodeAnswer.Inspected reply) = inspecting (replied_as fault_in reply)

-- ---- the edits of a caller

-- the answer is no refusal
abbrev pub is_given : {A : Type 0} → Reply A → Bool
is_given (refused number) = false
is_given (given a) = true

abbrev pub accepts : Answer → Bool
accepts (opening reply) = is_given reply
accepts (editing reply) = is_given reply
accepts (finding reply) = is_given reply
accepts (pairing reply) = is_given reply
accepts (inspecting reply) = is_given reply
accepts (listing reply) = is_given reply

-- the edits that an answer says were made: one by an accepted edit, as many as it says by a list
abbrev pub edits_made : Answer → ℕ
edits_made (editing (given count)) = 1
edits_made (editing (refused number)) = 0
edits_made (listing (given (whole accepted changed))) = accepted
edits_made (listing (given (stopped accepted changed number))) = accepted
edits_made (listing (refused number)) = 0
edits_made (opening reply) = 0
edits_made (finding reply) = 0
edits_made (pairing reply) = 0
edits_made (inspecting reply) = 0

-- a caller's edits where there were `count` and `made` were made by someone
abbrev pub with_edits : (caller by made count : ℕ) → ℕ
with_edits caller by made count = elim (eqb by caller) [ true ↦ count + made | false ↦ count ]

-- a caller's edits since the last open, where there were `count` before a call that answers so: an accepted open starts anew, and edits and lists add
-- what they made to their caller's. A refresh is no edit
abbrev pub counted_by : (caller : ℕ) → Request → Answer → (count : ℕ) → ℕ
counted_by caller open_book answer count = elim (accepts answer) [ true ↦ 0 | false ↦ count ]
counted_by caller (edit by e) answer count = with_edits caller by (edits_made answer) count
counted_by caller (edit_all by es) answer count = with_edits caller by (edits_made answer) count
counted_by caller (find kind mark) answer count = count
counted_by caller (parties kind mark) answer count = count
counted_by caller inspect answer count = count
counted_by caller refresh answer count = count

-- ---- two books

abbrev pub Agree : List ℕ → List ℕ → Type 0
Agree xs ys = (i : ℕ) → get_or xs i 0 ≡ get_or ys i 0
