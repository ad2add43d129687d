-- Answers are short.
--     answer_short     each has at most 16 bytes: an accepted open has a size of at most 128 and 64, a kind that is found is one of at most 128, and any
--                      number has at most 5 digits. The longest are as `(rule 127 65535)`
-- Assumes nothing.
use mathlib.Core.Path.{◌≡◌, refl}
use mathlib.Core.Bool.{Bool, true, false, ◌&&◌}
use mathlib.Core.List.{List, [], ◌∷◌}
use Prim.Native.Nat.{ℕ, ◌+◌, ◌-◌, ◌≤◌, ◌<◌}
use native.Mathlib.Omega.{arith}
use borrow.Author.Tests.{lt-ltb, leb-true}
use lib.Dec.{eqb, leb, ltb}
use lib.ListN.{length, length-append}
use Rattle.forms.specs.Bytes.{bytes}
use Rattle.forms.specs.Decimal.{digits, width}
use Rattle.forms.specs.Pattern.{slots, filled}
use Rattle.forms.proofs.DecimalLaws.{length_digits, digits_most}
use Rattle.forms.proofs.PatternLaws.{length_filled}
use Rattle.forms.specs.Forms.{Form, open_book, add_rule, take_rule, add_link, take_link, find, bad, form_of}
use Rattle.answers.specs.Answers.{printed_refused, printed_opened, printed_edited, printed_found}
use Rattle.tables.specs.Lists.{Change, edit_outcome}
use Rattle.tables.specs.Books.{answer_to}
use Rattle.tables.specs.Calls as calls
use Rattle.tables.specs.Calls.{Outcome, zeros, finding_of}
use Rattle.tables.specs.Reply.{Reply, refused, given, Finding}
use Rattle.tables.specs.Tables.{Tables, shaped}
use Rattle.tables.proofs.CallLaws.{check_cases}
use Rattle.tables.proofs.ShapeLaws.{sized_facts}
use Rattle.forms.specs.Requests.{program}
use Rattle.session.specs.Line.{Book, carries, turn_of, line_of}

-- ---- Numbers in a line

three_digits : (v : ℕ) → v < 1000 → length (digits v) ≤ 3
unfolding width
three_digits v small = rw (length_digits v) (go (ltb v 10) (ltb v 100) (ltb v 1000) (ltb v 10000) (lt-ltb v 1000 small))
  where
    go : (a b c d : Bool) → c ≡ true
        → (elim a [ true ↦ 1 | false ↦ elim b [ true ↦ 2 | false ↦ elim c [ true ↦ 3 | false ↦ elim d [ true ↦ 4 | false ↦ 5 ] ] ] ]) ≤ 3
    go true b c d is = omega arith
    go false true c d is = omega arith
    go false false true d is = omega arith
    go false false false d is = let z : ◌≡◌ {A = ℕ} 0 1 = cc in omega arith

-- ---- A line of each kind

refused_short : (number : ℕ) → length (printed_refused number) ≤ 16
unfolding slots
refused_short number = omega (arith, length_filled (bytes "(refused #)") (number ∷ []))

opened_short : (n m : ℕ) → n ≤ 128 → m ≤ 64 → length (printed_opened n m (given tt)) ≤ 16
unfolding filled
opened_short n m kinds marks = simp length-append (omega (arith, three_digits n (omega arith), three_digits m (omega arith)))

edited_short : (reply : Reply ℕ) → length (printed_edited reply) ≤ 16
unfolding slots
edited_short (refused number) = refused_short number
edited_short (given count) = omega (arith, length_filled (bytes "(done #)") (count ∷ []))

rule_short : (kind handling : ℕ) → kind < 128 → length (printed_found (given (Finding.rule kind handling))) ≤ 16
unfolding filled
rule_short kind handling low = simp length-append (omega (arith, three_digits kind (omega arith), digits_most handling))

none_short : length (printed_found (given Finding.none)) ≤ 16
unfolding slots
none_short = omega (arith, length_filled (bytes "(none)") [])

dispute_short : (kind : ℕ) → length (printed_found (given (Finding.dispute kind))) ≤ 16
unfolding slots
dispute_short kind = omega (arith, length_filled (bytes "(dispute #)") (kind ∷ []))

-- the kind of a rule is below n
finding_short : (n : ℕ) (rule : ℕ → ℕ) (e : ℕ) → n ≤ 128 → length (printed_found (finding_of n rule e)) ≤ 16
unfolding finding_of
finding_short n rule e kinds = go (eqb e 0) (leb e n) (leb 257 e && leb e (256 + n)) (eqb (rule (e - 1)) 0) refl refl
  where
    go : (none low high unruled : Bool) → eqb e 0 ≡ none → leb e n ≡ low
        → length (printed_found (elim none [
          | true ↦ given Finding.none
          | false ↦ elim low [
            | true ↦ elim unruled [ true ↦ refused 10 | false ↦ given (Finding.rule (e - 1) (rule (e - 1))) ]
            | false ↦ elim high [ true ↦ given (Finding.dispute (e - 257)) | false ↦ refused 10 ]
          ]
        ])) ≤ 16
    go true low high unruled p q = none_short
    go false true high true p q = refused_short 10
    go false true high false p q = rule_short (e - 1) (rule (e - 1)) (omega (arith, leb-true e n q))
    go false false true unruled p q = dispute_short (e - 257)
    go false false false unruled p q = refused_short 10

-- ---- A call: it is refused, or its tests are passed

abbrev Opened : (n m : ℕ) → Reply (Unit {0}) → Type 0
Opened n m reply = length (printed_opened n m reply) ≤ 16

open_short : (n m : ℕ) (t : Tables) → Opened n m (calls.open_book n m t).reply
unfolding calls.open_book
open_short n m t =
    check_cases 1 t (calls.leaves (given tt) (zeros n m)) (λ o. Opened n m o.reply) (shaped n m t) (refused_short 1)
    (λ is. let s = sized_facts 1 1 n m _ _ _ _ _ is in opened_short n m s.kinds.1 s.marks.1)

abbrev Short : Outcome Finding → Type 0
Short o = length (printed_found o.reply) ≤ 16

find_short : (n m : ℕ) (t : Tables) (kind mark : ℕ) → Short (calls.find n m t kind mark)
unfolding calls.find
find_short n m t kind mark =
    check_cases 1 t _ Short (shaped n m t) (refused_short 1)
    (λ is.
    check_cases 2 t _ Short (ltb kind n) (refused_short 2)
    (λ _.
    check_cases 3 t _ Short (ltb mark m) (refused_short 3) (λ _. finding_short n _ _ (sized_facts 1 1 n m _ _ _ _ _ is).kinds.1)))

-- ---- A line

turn_short : (b : Book) (form : Form) → length (turn_of b form).printed ≤ 16
unfolding turn_of carries answer_to
turn_short b (open_book n m) = open_short n m (zeros n m)
turn_short b (add_rule kind mark handling) = edited_short (edit_outcome b.n b.m b.tables program (Change.add_rule kind mark handling)).reply
turn_short b (take_rule kind mark) = edited_short (edit_outcome b.n b.m b.tables program (Change.take_rule kind mark)).reply
turn_short b (add_link child parent) = edited_short (edit_outcome b.n b.m b.tables program (Change.add_link child parent)).reply
turn_short b (take_link child parent) = edited_short (edit_outcome b.n b.m b.tables program (Change.take_link child parent)).reply
turn_short b (find kind mark) = find_short b.n b.m b.tables kind mark
turn_short b bad = refused_short 12

pub answer_short : (b : Book) (line : List ℕ) → length (line_of b line).printed ≤ 16
unfolding line_of
answer_short b line = turn_short b (form_of line)
