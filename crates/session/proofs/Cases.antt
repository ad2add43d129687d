-- The worked session: thirteen cases, as one table and one theorem, from input bytes to output bytes.
--     cases_hold    the program prints, line by line, what the table says
-- Assumes nothing.
use mathlib.Core.Path.{◌≡◌, refl}
use mathlib.Core.List.{List, [], ◌∷◌}
use Prim.Native.Nat.{ℕ}
use Prim.Native.String.{String}
use Rattle.forms.specs.Bytes.{bytes}
use Rattle.inheritance.specs.Above.{above, through, count}
use Rattle.inheritance.specs.Lookup.{lookup, within, inherit, left, least, seen, some_below, passing, meet, join}
use Rattle.tables.specs.Lists.{edit_outcome}
use Rattle.tables.specs.Books.{answer_to}
use Rattle.tables.specs.Tables.{sized, sound, sound_over, bytes_right, tallied, well_linked, all_below, differing, entries_of, entry_at, grid, listed, disputes_at, disputes_of}
use Rattle.tables.specs.Calls.{open_book, add_rule, add_link, take_link, find, accepted, check, finding_of}
use Rattle.forms.specs.Decimal.{number_at, is_digit, further, digits, last_digits, width}
use Rattle.forms.specs.Forms.{form_of, first_fit, shapes}
use Rattle.forms.specs.Pattern.{fits, filled}
use Rattle.session.specs.Line.{line_of, turn_of, carries}
use Rattle.session.specs.Session.{start, answers}

pub record Case : Type 0 where
  pub line : String
  pub answer : String

infix 20 ◌⟶◌
abbrev ◌⟶◌ : String → String → Case
line ⟶ answer = record { line = line; answer = answer }

abbrev pub cases : List Case
cases =
    ("(open 4 2)" ⟶ "(opened 4 2)")
    ∷ ("(add (under 1 0))" ⟶ "(done 0)")
    ∷ ("(add (under 2 0))" ⟶ "(done 0)")
    ∷ ("(add (under 3 1))" ⟶ "(done 0)")
    ∷ ("(add (under 3 2))" ⟶ "(done 0)")
    ∷ ("(add (rule 0 0 10))" ⟶ "(done 4)")
    ∷ ("(find 3 0)" ⟶ "(rule 0 10)")
    ∷ ("(add (rule 1 0 20))" ⟶ "(done 2)")
    ∷ ("(find 3 0)" ⟶ "(rule 1 20)")
    ∷ ("(add (rule 2 0 20))" ⟶ "(done 2)")
    ∷ ("(take (under 3 2))" ⟶ "(done 1)")
    ∷ ("(find 3 0)" ⟶ "(rule 1 20)")
    ∷ ("(find 3 1)" ⟶ "(none)")
    ∷ []

abbrev pub inputs : List Case → List (List ℕ)
inputs [] = []
inputs (c ∷ cs) = bytes c.line ∷ inputs cs

abbrev pub outputs : List Case → List (List ℕ)
outputs [] = []
outputs (c ∷ cs) = bytes c.answer ∷ outputs cs

pub cases_hold : answers start (inputs cases) ≡ outputs cases
unfolding answers line_of turn_of carries answer_to edit_outcome form_of first_fit shapes fits number_at is_digit further filled digits last_digits width open_book add_rule add_link take_link find accepted check finding_of sized sound sound_over bytes_right tallied well_linked all_below differing entries_of entry_at grid listed disputes_at disputes_of count above through lookup within inherit left least seen some_below passing meet join
cases_hold = refl
