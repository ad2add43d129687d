-- From a form to a call.
--     program     the caller that the text program is
--     call_for    the call that a form asks for
--     fresh       a request for a new book
--     OfBook      a call has the size of the book, unless it asks for a new one
--     wanted      the call that the code makes of a line; where it makes none, the line is refused
-- Assumes nothing.
use Rattle.std.specs.Prelude.{◌≡◌, Bool, true, false, ℕ, Option, Some, None}
use Rattle.tables.specs.Reply.{Reply, refused, given}
use Rattle.tables.specs.Lists.{Change}
use Rattle.tables.specs.Books.{Request, Call, call_of}
use Rattle.forms.specs.Forms.{Form, open_book, add_rule, take_rule, add_link, take_link, find, bad}
use Rattle.tables.specs.declared.Call.{Call as CodeCall}

abbrev pub asks : (n m : ℕ) → Request → Call
asks n m request = record { n = n; m = m; request = request }

-- the text program is caller 0
abbrev pub program : ℕ
program = 0

-- the call that a form asks for on a book of n kinds and m marks: open names its own size, every other form has the book's
abbrev pub call_for : (n m : ℕ) → Form → Reply Call
call_for n m (open_book k j) = given (asks k j Request.open_book)
call_for n m (add_rule kind mark handling) = given (asks n m (Request.edit program (Change.add_rule kind mark handling)))
call_for n m (take_rule kind mark) = given (asks n m (Request.edit program (Change.take_rule kind mark)))
call_for n m (add_link child parent) = given (asks n m (Request.edit program (Change.add_link child parent)))
call_for n m (take_link child parent) = given (asks n m (Request.edit program (Change.take_link child parent)))
call_for n m (find kind mark) = given (asks n m (Request.find kind mark))
call_for n m bad = refused 12

-- a request for a new book
abbrev pub fresh : Request → Bool
fresh Request.open_book = true
fresh (Request.edit caller e) = false
fresh (Request.edit_all caller es) = false
fresh (Request.find kind mark) = false
fresh (Request.parties kind mark) = false
fresh Request.inspect = false
fresh Request.refresh = false

abbrev pub OfBookBy : Bool → (n m : ℕ) → Call → Type 0
OfBookBy true n m call = Unit
OfBookBy false n m call = (call.n ≡ n) × (call.m ≡ m)

abbrev pub OfBook : (n m : ℕ) → Call → Type 0
OfBook n m call = OfBookBy (fresh call.request) n m call

abbrev pub wanted : Option CodeCall → Reply Call
wanted (Some call) = given (call_of call)
wanted None = refused 12

abbrev pub OfBookIf : (n m : ℕ) → Reply Call → Type 0
OfBookIf n m (given call) = OfBook n m call
OfBookIf n m (refused number) = Unit
