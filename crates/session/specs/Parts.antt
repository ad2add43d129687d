-- The program's tables, which have places for 128 kinds and 64 marks: a book stands in their leading parts.
--     Room         the tables have these places
--     parts        their leading parts for a book of n kinds and m marks; book_in: the book that stands in them
--     put_in       a book's tables put at the front of theirs; what lies behind stays
--     size_after   the size of the book after an answer
--     Carried      what a call leaves in the tables
--     tables_on, book_on    the tables of a desk, and the book that stands in them
--     Answered     what a line leaves in the program, by the turn that it is. Line after line, `book` is what the next line's turn is done to
-- Assumes nothing.
use Rattle.std.specs.Prelude.{◌≡◌, List, ◌++◌, ℕ, ◌*◌, length, take, drop}
use Rattle.tables.specs.Books.{Call, Answer, opening, editing, finding, pairing, inspecting, listing, gives, outcome}
use Rattle.tables.specs.Reply.{Reply, refused, given}
use Rattle.tables.specs.Tables.{Tables, lent, LengthsOf}
use Rattle.session.specs.declared.Desk.{Desk}
use Rattle.session.specs.Line.{Book, Turn}

abbrev pub Room : Tables → Type 0
Room t = LengthsOf 128 64 t

-- the leading parts; a table that is too short is lent whole, and the calls refuse it
abbrev pub parts : (n m : ℕ) → Tables → Tables
parts n m t = lent (take (n * n) t.links) (take (n * m) t.rules) (take (n * m) t.entries) t.tally (take m t.disputes)

abbrev pub book_in : (n m : ℕ) → Tables → Book
book_in n m t = record { n = n; m = m; tables = parts n m t }

abbrev pub front : (part whole : List ℕ) → List ℕ
front part whole = part ++ drop (length part) whole

abbrev pub put_in : (part whole : Tables) → Tables
put_in part whole =
    lent (front part.links whole.links) (front part.rules whole.rules) (front part.entries whole.entries) part.tally
    (front part.disputes whole.disputes)

-- an accepted open has its own size taken over
abbrev pub size_after_open : (n m : ℕ) → Call → Reply (Unit {0}) → ℕ × ℕ
size_after_open n m call (given _) = (call.n, call.m)
size_after_open n m call (refused number) = (n, m)

abbrev pub size_after : (n m : ℕ) → Call → Answer → ℕ × ℕ
size_after n m call (opening reply) = size_after_open n m call reply
size_after n m call (editing reply) = (n, m)
size_after n m call (finding reply) = (n, m)
size_after n m call (pairing reply) = (n, m)
size_after n m call (inspecting reply) = (n, m)
size_after n m call (listing reply) = (n, m)

-- a call was carried out on the leading parts of the tables, which are those of the book that it is put to, and what lies behind stays
pub record Carried (call : Call) (before : Tables) (answer : Answer) (after : Tables) : Type 0 where
  pub done : gives answer (parts call.n call.m after) ≡ outcome call (parts call.n call.m before)
  pub tables : after ≡ put_in (parts call.n call.m after) before

abbrev pub tables_on : Desk → Tables
tables_on d = lent d.links d.rules d.entries d.tally d.disputes

abbrev pub book_on : Desk → Book
book_on d = book_in d.n d.m (tables_on d)

-- `turn` was done to the book: the book after it stands in the leading parts of the tables, what lies behind stays, and its answer was printed
pub record Answered (turn : Book → Turn) (before after : Desk) (text : List ℕ) : Type 0 where
  pub book : book_on after ≡ (turn (book_on before)).book
  pub tables : tables_on after ≡ put_in (turn (book_on before)).book.tables (tables_on before)
  pub printed : text ≡ (turn (book_on before)).printed
