-- What is promised of the text program, from bytes to bytes (docs/SCOPE.md, "The text program").
--     StreamIsSession     however an input is cut into blocks, what is written is its session; StreamingIsSession: the same of what the functions leave
--     NeverPrinted        a refusal that no line is answered by; Never5Printed, Never10Printed, Never13Printed
--     ProgramAlone        the number of every caller but the program is 0
--     FormsAreRead        a shape filled with numbers up to 65,535 is read as its form; OnlyFormsAreRead: nothing else has one. OneOf, Filled, formed_with, Read
--     AnswerShort         an answer has at most 16 bytes
--     CasesHold           the worked session
-- Assumes nothing.
use Rattle.std.specs.Prelude.{◌≡◌, ◌≢◌, ◌⊎◌, List, [], ◌∷◌, ◌++◌, ℕ, ◌≤◌, length, get_or}
use mathlib.Core.List.{flatten}
use Rattle.answers.specs.Answers.{printed_refused}
use Rattle.forms.specs.Bytes.{bytes}
use Rattle.forms.specs.Forms.{Form, bad, Shape, shapes, form_of}
use Rattle.forms.specs.Pattern.{slots, filled}
use Rattle.forms.specs.Requests.{program}
use Rattle.session.specs.declared.Desk.{Desk}
use Rattle.session.specs.Line.{Book, line_of}
use Rattle.session.specs.Session.{start, book_after, answers, session}
use Rattle.stream.specs.Blocks.{Fresh, Streaming}
use Rattle.stream.specs.Stream.{streamed}

-- ---- input in blocks

-- the outputs of the blocks joined, and the close, are the session of the blocks joined
abbrev pub StreamIsSession : Type 0
StreamIsSession = (blocks : List (List ℕ)) → streamed start [] blocks ≡ session (flatten blocks)

-- any chain of what the contracts of the functions that work blocks say, from a desk on which no book was opened
abbrev pub StreamingIsSession : Type 0
StreamingIsSession = (desk : Desk) (blocks : List (List ℕ)) (output : List ℕ) → Fresh desk → Streaming desk [] blocks output → output ≡ session (flatten blocks)

-- ---- what is not printed, and whose edits there are not

-- no line among the answers of a session is the refusal of this number
abbrev pub NeverPrinted : (number : ℕ) → Type 0
NeverPrinted number = (lines before after : List (List ℕ)) (line : List ℕ) → answers start lines ≡ before ++ (line ∷ after) → line ≢ printed_refused number

abbrev pub Never5Printed : Type 0
Never5Printed = NeverPrinted 5

abbrev pub Never10Printed : Type 0
Never10Printed = NeverPrinted 10

abbrev pub Never13Printed : Type 0
Never13Printed = NeverPrinted 13

abbrev pub ProgramAlone : Type 0
ProgramAlone = (caller : ℕ) → caller ≢ program → (lines : List (List ℕ)) → get_or (book_after start lines).tables.tally caller 0 ≡ 0

-- ---- forms

-- s is one of the shapes
pub data OneOf (s : Shape) : List Shape → Type 0 where
  first : {rest : List Shape} → OneOf s (s ∷ rest)
  later : {r : Shape} {rest : List Shape} → OneOf s rest → OneOf s (r ∷ rest)

-- the numbers are at most 65,535
abbrev pub AllSmall : List ℕ → Type 0
AllSmall [] = Unit
AllSmall (v ∷ vs) = (v ≤ 65535) × AllSmall vs

-- the line is the pattern filled with these numbers, one for each slot
pub record Filled (pattern values line : List ℕ) : Type 0 where
  pub is : line ≡ filled pattern values
  pub count : length values ≡ slots pattern
  pub small : AllSmall values

-- the form that a shape is with these numbers
abbrev pub formed_with : Shape → List ℕ → Form
formed_with s values = s.form (get_or values 0 0) (get_or values 1 0) (get_or values 2 0)

abbrev pub FormsAreRead : Type 0
FormsAreRead = (s : Shape) (values line : List ℕ) → OneOf s shapes → Filled s.pattern values line → form_of line ≡ formed_with s values

-- the line is one of the shapes, filled, and this is its form
pub record Read (line : List ℕ) (form : Form) : Type 0 where
  pub shape : Shape
  pub values : List ℕ
  pub among : OneOf shape shapes
  pub is_filled : Filled shape.pattern values line
  pub is : form ≡ formed_with shape values

abbrev pub OnlyFormsAreRead : Type 0
OnlyFormsAreRead = (line : List ℕ) → (form_of line ≡ bad) ⊎ Read line (form_of line)

-- ---- answers

-- of any line, on any book
abbrev pub AnswerShort : Type 0
AnswerShort = (b : Book) (line : List ℕ) → length (line_of b line).printed ≤ 16

-- thirteen lines and their answers
abbrev pub CasesHold : Type 0
CasesHold =
    answers start
    (bytes "(open 4 2)"
    ∷ bytes "(add (under 1 0))"
    ∷ bytes "(add (under 2 0))"
    ∷ bytes "(add (under 3 1))"
    ∷ bytes "(add (under 3 2))"
    ∷ bytes "(add (rule 0 0 10))"
    ∷ bytes "(find 3 0)"
    ∷ bytes "(add (rule 1 0 20))"
    ∷ bytes "(find 3 0)"
    ∷ bytes "(add (rule 2 0 20))"
    ∷ bytes "(take (under 3 2))"
    ∷ bytes "(find 3 0)"
    ∷ bytes "(find 3 1)"
    ∷ [])
    ≡ (bytes "(opened 4 2)"
    ∷ bytes "(done 0)"
    ∷ bytes "(done 0)"
    ∷ bytes "(done 0)"
    ∷ bytes "(done 0)"
    ∷ bytes "(done 4)"
    ∷ bytes "(rule 0 10)"
    ∷ bytes "(done 2)"
    ∷ bytes "(rule 1 20)"
    ∷ bytes "(done 2)"
    ∷ bytes "(done 1)"
    ∷ bytes "(rule 1 20)"
    ∷ bytes "(none)"
    ∷ [])
