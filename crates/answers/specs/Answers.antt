-- The lines that tell answers, without the line feed.
--     printed_opened    what open answers, for a book of n kinds and m marks
--     printed_edited    what an edit answers
--     printed_found     what find answers
--     printed_refused   a refusal's number
--     printed_answer    what a call answers, of whichever kind it is
-- Assumes nothing.
use Rattle.std.specs.Prelude.{List, [], ◌∷◌, ℕ}
use Rattle.forms.specs.Bytes.{bytes}
use Rattle.forms.specs.Pattern.{filled}
use Rattle.tables.specs.Books.{Answer, opening, editing, finding, pairing, inspecting, listing}
use Rattle.tables.specs.Reply.{Reply, refused, given, Finding}

abbrev pub printed_refused : ℕ → List ℕ
printed_refused number = filled (bytes "(refused #)") (number ∷ [])

abbrev pub printed_opened : (n m : ℕ) → Reply (Unit {0}) → List ℕ
printed_opened n m (refused number) = printed_refused number
printed_opened n m (given _) = filled (bytes "(opened # #)") (n ∷ m ∷ [])

abbrev pub printed_edited : Reply ℕ → List ℕ
printed_edited (refused number) = printed_refused number
printed_edited (given count) = filled (bytes "(done #)") (count ∷ [])

abbrev pub printed_found : Reply Finding → List ℕ
printed_found (refused number) = printed_refused number
printed_found (given Finding.none) = filled (bytes "(none)") []
printed_found (given (Finding.rule kind handling)) = filled (bytes "(rule # #)") (kind ∷ handling ∷ [])
printed_found (given (Finding.dispute kind)) = filled (bytes "(dispute #)") (kind ∷ [])

-- what a call answers on a book of n kinds and m marks. No form asks for parties, inspect or a list, and nothing is printed of them
abbrev pub printed_answer : (n m : ℕ) → Answer → List ℕ
printed_answer n m (opening reply) = printed_opened n m reply
printed_answer n m (editing reply) = printed_edited reply
printed_answer n m (finding reply) = printed_found reply
printed_answer n m (pairing reply) = []
printed_answer n m (inspecting reply) = []
printed_answer n m (listing reply) = []
