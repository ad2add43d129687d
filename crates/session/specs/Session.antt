-- A session of the text program: lines in, lines out.
--     start        the book before the first line
--     book_after   the book after some lines
--     answers      the lines that are printed for the lines of a session
--     lines_of     the lines of an input: a line ends in a line feed, or at the end of the input if it has a byte
--     session      all that the program writes for an input: after each line's answer a line feed
-- Assumes nothing.
use Rattle.std.specs.Prelude.{true, false, List, [], ◌∷◌, ◌++◌, ℕ, eqb, replicate}
use Rattle.tables.specs.Lists.{run}
use Rattle.tables.specs.Caller.{callers}
use Rattle.tables.specs.Tables.{lent}
use Rattle.session.specs.Line.{Book, line_of}

abbrev pub start : Book
start = record { n = 0; m = 0; tables = lent [] [] [] (replicate callers 0) [] }

abbrev pub book_after : Book → List (List ℕ) → Book
book_after b lines = run (λ line book. (line_of book line).book) lines b

unfoldable pub answers : Book → List (List ℕ) → List (List ℕ)
answers b [] = []
answers b (line ∷ lines) = let turn = line_of b line in turn.printed ∷ answers turn.book lines

-- `partial` is what has come of the line so far
unfoldable pub lines_from : (partial input : List ℕ) → List (List ℕ)
lines_from [] [] = []
lines_from (b ∷ partial) [] = (b ∷ partial) ∷ []
lines_from partial (b ∷ input) = elim (eqb b 10) [ true ↦ partial ∷ lines_from [] input | false ↦ lines_from (partial ++ (b ∷ [])) input ]

abbrev pub lines_of : List ℕ → List (List ℕ)
lines_of input = lines_from [] input

-- each line with its line feed
unfoldable pub written : List (List ℕ) → List ℕ
written [] = []
written (line ∷ lines) = line ++ (10 ∷ written lines)

unfoldable pub session : List ℕ → List ℕ
session input = written (answers start (lines_of input))
