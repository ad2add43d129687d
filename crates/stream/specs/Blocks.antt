-- What the functions leave in the buffers and on the desk.
--     Replied    a line is answered
--     Worked     a block is passed
--     Closed     the input has ended
--     Fresh      the desk before the first block
--     Streaming  block after block is passed, each from what the one before it left, until the input ends; and what is written meanwhile
-- Assumes nothing.
use Rattle.std.specs.Prelude.{◌≡◌, List, [], ◌∷◌, ◌++◌, ℕ, take}
use Rattle.session.specs.declared.Desk.{Desk}
use Rattle.session.specs.Line.{Turn}
use Rattle.session.specs.Parts.{book_on}
use Rattle.session.specs.Session.{start}
use Rattle.stream.specs.Buffers.{Put}
use Rattle.stream.specs.Stream.{Passed, passed, closed}

pub record Replied (turn : Turn) (at : ℕ) (out : List ℕ) (after : Desk) (end : ℕ) (out_after : List ℕ) : Type 0 where
  pub book : book_on after ≡ turn.book
  pub output : Put (turn.printed ++ (10 ∷ [])) out at end out_after

pub record Worked (p : Passed) (at : ℕ) (out : List ℕ) (after : Desk) (carry_after : List ℕ) (end : ℕ) (out_after : List ℕ) : Type 0 where
  pub book : book_on after ≡ p.book
  pub carry : carry_after ≡ p.carry
  pub output : Put p.output out at end out_after

pub record Closed (p : Passed) (out : List ℕ) (after : Desk) (end : ℕ) (out_after : List ℕ) : Type 0 where
  pub book : book_on after ≡ p.book
  pub output : Put p.output out 0 end out_after

abbrev pub Fresh : Desk → Type 0
Fresh desk = book_on desk ≡ start

-- what a block or the close puts at the front of the output is written before the next block
pub data Streaming : (desk : Desk) (carry : List ℕ) (blocks : List (List ℕ)) (output : List ℕ) → Type 0 where
  ends : {desk after : Desk} {carry out out_after : List ℕ} {end : ℕ}
      → Closed (closed (book_on desk) carry) out after end out_after
      → Streaming desk carry [] (take end out_after)
  works : {desk after : Desk} {carry carry_after out out_after block more : List ℕ} {end : ℕ} {blocks : List (List ℕ)}
      → Worked (passed (book_on desk) carry block) 0 out after carry_after end out_after → Streaming after carry_after blocks more
      → Streaming desk carry (block ∷ blocks) (take end out_after ++ more)
