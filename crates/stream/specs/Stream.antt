-- The text program's input comes in blocks, which are cut anywhere: a line may go on from block to block.
--     ended, begun    the lines that end in a block, and what has come of the line after them
--     passed          what a block does: the book and the carry after it, and what is written for it
--     closed          what the end of the input does: the carry is the last line if it has a byte
--     streamed        what is written for an input that comes in these blocks
-- Assumes nothing.
use Rattle.std.specs.Prelude.{true, false, List, [], ◌∷◌, ◌++◌, ℕ, eqb}
use Rattle.stream.specs.Buffers.{cut}
use Rattle.session.specs.Line.{Book}
use Rattle.session.specs.Session.{book_after, answers, written}

-- `partial` is what has come of the first line so far
unfoldable pub ended : (partial block : List ℕ) → List (List ℕ)
ended partial [] = []
ended partial (b ∷ block) = elim (eqb b 10) [ true ↦ partial ∷ ended [] block | false ↦ ended (partial ++ (b ∷ [])) block ]

unfoldable pub begun : (partial block : List ℕ) → List ℕ
begun partial [] = partial
begun partial (b ∷ block) = elim (eqb b 10) [ true ↦ begun [] block | false ↦ begun (partial ++ (b ∷ [])) block ]

pub record Passed : Type 0 where
  pub book : Book
  pub carry : List ℕ
  pub output : List ℕ

unfoldable pub passed : Book → (carry block : List ℕ) → Passed
passed b carry block =
    let lines = ended carry block in
    record { book = book_after b lines; carry = cut (begun carry block); output = written (answers b lines) }

abbrev pub last : List ℕ → List (List ℕ)
last [] = []
last (b ∷ partial) = (b ∷ partial) ∷ []

unfoldable pub closed : Book → (carry : List ℕ) → Passed
closed b carry = let lines = last carry in record { book = book_after b lines; carry = []; output = written (answers b lines) }

unfoldable pub streamed : Book → (carry : List ℕ) → (blocks : List (List ℕ)) → List ℕ
streamed b carry [] = (closed b carry).output
streamed b carry (block ∷ blocks) = let p = passed b carry block in p.output ++ streamed p.book p.carry blocks
