-- The forms that the text program reads. A line is here without its line feed.
--     Form       what a line asks for; bad: it has none of the forms, which is refusal 12
--     form_of    what a line asks for: over 64 bytes, empty, or of any other shape, it is bad
--     formed_as, formed    the form that the code's enum stands for; a line that is none of them is bad
-- Assumes nothing.
use Rattle.std.specs.Prelude.{true, false, List, [], ◌∷◌, ℕ, leb, length, get_or, Option, Some, None}
use Prim.Native.String.{String}
use Rattle.forms.specs.Bytes.{bytes}
use Rattle.forms.specs.Pattern.{fits}
use Rattle.forms.specs.declared.Form.{Form as Read}

pub data Form : Type 0 where
  open_book : (n m : ℕ) → Form
  add_rule : (kind mark handling : ℕ) → Form
  take_rule : (kind mark : ℕ) → Form
  add_link : (child parent : ℕ) → Form
  take_link : (child parent : ℕ) → Form
  find : (kind mark : ℕ) → Form
  bad : Form

-- a shape of a line, and the form that it is with its numbers, of which there are up to three
pub record Shape : Type 0 where
  pub pattern : List ℕ
  pub form : ℕ → ℕ → ℕ → Form

abbrev pub shape : String → (ℕ → ℕ → ℕ → Form) → Shape
shape text form = record { pattern = bytes text; form = form }

unfoldable pub shapes : List Shape
shapes =
    shape "(open # #)" (λ n m _. open_book n m)
    ∷ shape "(find # #)" (λ kind mark _. find kind mark)
    ∷ shape "(add (rule # # #))" (λ kind mark handling. add_rule kind mark handling)
    ∷ shape "(take (rule # #))" (λ kind mark _. take_rule kind mark)
    ∷ shape "(add (under # #))" (λ child parent _. add_link child parent)
    ∷ shape "(take (under # #))" (λ child parent _. take_link child parent)
    ∷ []

-- the form with the numbers found; the next where there are none
abbrev pub or_else : Option (List ℕ) → (form : ℕ → ℕ → ℕ → Form) → (next : Form) → Form
or_else None form next = next
or_else (Some vs) form next = form (get_or vs 0 0) (get_or vs 1 0) (get_or vs 2 0)

-- the form of the first shape that fits
unfoldable pub first_fit : List Shape → List ℕ → Form
first_fit [] line = bad
first_fit (s ∷ rest) line = or_else (fits s.pattern line) s.form (first_fit rest line)

unfoldable pub form_of : List ℕ → Form
form_of line = elim (leb (length line) 64) [ true ↦ first_fit shapes line | false ↦ bad ]

abbrev pub formed_as : Read → Form
formed_as (Read.Open n m) = open_book n m
formed_as (Read.AddRule kind mark handling) = add_rule kind.0 mark.0 handling
formed_as (Read.TakeRule kind mark) = take_rule kind.0 mark.0
formed_as (Read.AddLink child parent) = add_link child.0 parent.0
formed_as (Read.TakeLink child parent) = take_link child.0 parent.0
formed_as (Read.Find kind mark) = find kind.0 mark.0

abbrev pub formed : Option Read → Form
formed (Some form) = formed_as form
formed None = bad
