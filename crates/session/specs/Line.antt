-- One line of the text program, from bytes to bytes, through the definitions of the forms, the calls and the answers.
--     Book       the program's book: its size and the tables that it lends; before an accepted open, n and m are 0
--     carries    what a call does: the book after it, and the line that is printed
--     turn_of    what a form does
--     line_of    the same of a line of bytes, which comes without its line feed
-- Assumes nothing.
use Rattle.std.specs.Prelude.{Bool, true, false, List, ℕ}
use Rattle.tables.specs.Reply.{Reply, refused, given}
use Rattle.tables.specs.Tables.{Tables}
use Rattle.tables.specs.Calls as calls
use Rattle.tables.specs.Calls.{Outcome, zeros}
use Rattle.tables.specs.Books.{Call, Result, outcome}
use Rattle.answers.specs.Answers.{printed_refused, printed_opened, printed_answer}
use Rattle.forms.specs.Forms.{Form, form_of}
use Rattle.forms.specs.Requests.{call_for, fresh}

pub record Book : Type 0 where
  pub n : ℕ
  pub m : ℕ
  pub tables : Tables

pub record Turn : Type 0 where
  pub book : Book
  pub printed : List ℕ

-- the book after open: an accepted one starts a new book, a refused one keeps the old
abbrev pub opened_book : Book → (n m : ℕ) → Reply (Unit {0}) → Tables → Book
opened_book b n m (given _) t = record { n = n; m = m; tables = t }
opened_book b n m (refused number) t = b

abbrev pub opens : Book → (n m : ℕ) → Outcome (Unit {0}) → Turn
opens b n m o = record { book = opened_book b n m o.reply o.tables; printed = printed_opened n m o.reply }

-- any other call leaves its tables in the book
abbrev pub leaves_in : Book → Result → Turn
leaves_in b r = record { book = record { n = b.n; m = b.m; tables = r.tables }; printed = printed_answer b.n b.m r.answer }

-- open is lent tables of the size that it names, and what they hold plays no part; any other call is lent the book's
abbrev pub carries_by : Bool → Book → Call → Turn
carries_by true b call = opens b call.n call.m (calls.open_book call.n call.m (zeros call.n call.m))
carries_by false b call = leaves_in b (outcome call b.tables)

unfoldable pub carries : Book → Call → Turn
carries b call = carries_by (fresh call.request) b call

-- .. where there is one
abbrev pub carries_or : Book → Reply Call → Turn
carries_or b (given call) = carries b call
carries_or b (refused number) = record { book = b; printed = printed_refused number }

unfoldable pub turn_of : Book → Form → Turn
turn_of b form = carries_or b (call_for b.n b.m form)

unfoldable pub line_of : Book → List ℕ → Turn
line_of b line = turn_of b (form_of line)
