-- What the text program never prints, whatever lines it is given: the program's book is sound at every line, and the program is one of the callers.
--     never_5, never_10, never_13    no line that is printed for the lines of a session is `(refused 5)`, `(refused 10)` or `(refused 13)`
-- Assumes nothing.
use mathlib.Core.Path.{◌≡◌, refl, sym, ap, ◌∙◌}
use mathlib.Core.Bool.{Bool, true, false}
use mathlib.Core.List.{List, [], ◌∷◌, ◌++◌}
use mathlib.Core.Logic.{◌≢◌, ◌⊎◌, inl, inr, ⊎_elim, by_cases}
use Prim.Native.Nat.{ℕ, ◌<◌, ◌≤◌}
use native.Mathlib.Decide.{dec_lt}
use native.Mathlib.Omega.{arith}
use borrow.Author.Tests.{le-ltb, ltb-true}
use lib.ListN.{length, get_or, drop, length-append}
use Rattle.forms.specs.Decimal.{number, digits, width, is_digit, number_at}
use Rattle.forms.specs.Pattern.{filled}
use Rattle.forms.proofs.DecimalLaws.{length_digits, number_digits}
use Rattle.tables.specs.Reply.{Reply, refused, given, Finding}
use Rattle.tables.specs.Tables.{shaped, sound}
use Rattle.tables.specs.Calls as calls
use Rattle.tables.specs.Calls.{Outcome, leaves, check, zeros}
use Rattle.tables.specs.Lists.{Change}
use Rattle.tables.specs.Books.{Request, Call, Answer, Result, opening, editing, finding, pairing, inspecting, listing, RefusedBy, answer_to, outcome}
use Rattle.tables.proofs.BookLaws.{Consistent, consistent_sound, opened_consistent, call_consistent}
use Rattle.tables.proofs.CallLaws.{given_not_refused, check_cases, entry_found}
use Rattle.tables.proofs.CallerLaws.{caller_known}
use Rattle.tables.proofs.NeverLaws as tables
use Rattle.tables.proofs.ShapeLaws.{sized_facts}
use Rattle.answers.specs.Answers.{printed_refused, printed_answer}
use Rattle.forms.specs.Forms.{Form, open_book, add_rule, take_rule, add_link, take_link, find, bad, form_of}
use Rattle.forms.specs.Requests.{program, asks}
use Rattle.session.specs.Line.{Book, opened_book, carries, turn_of, line_of}
use Rattle.session.specs.Session.{start, answers}

-- ---- a refusal's line tells its number

wide : (x : ℕ) → 10000 ≤ x → width x ≡ 5
unfolding width
wide x h = rw (le-ltb x 10 (omega arith), le-ltb x 100 (omega arith), le-ltb x 1000 (omega arith), le-ltb x 10000 h, width) refl

digits_tell : (x y : ℕ) → width y < 5 → y ≤ 65535 → digits x ++ (41 ∷ []) ≡ digits y ++ (41 ∷ []) → x ≡ y
unfolding is_digit
digits_tell x y short small e =
    let x-small : x < 10000 = by_cases (dec_lt x 10000) (λ h. h) (λ h. absurd (omega (arith, same_width, wide x (omega arith)))) in
    let same : number x (41 ∷ []) ≡ number y (41 ∷ []) = sym (number_digits x (41 ∷ []) (omega arith) refl) ∙ ap number_at e ∙ number_digits y (41 ∷ []) small refl in
    cc
  where
    same_width : width x ≡ width y
    same_width = omega (arith, ap length e, length-append (digits x) (41 ∷ []), length-append (digits y) (41 ∷ []), length_digits x, length_digits y)

refusals_tell : (x y : ℕ) → width y < 5 → y ≤ 65535 → printed_refused x ≡ printed_refused y → x ≡ y
unfolding filled
refusals_tell x y short small e = digits_tell x y short small (ap (λ (l : List ℕ). drop 9 l) e)

-- ---- what is printed of an answer that is no refusal of this number

module _ (y : ℕ) (short : width y < 5) (small : y ≤ 65535) where
  byte_differs : (i : ℕ) {l r : List ℕ} → get_or l i 0 ≢ get_or r i 0 → l ≢ r
  byte_differs i differ e = differ (ap (λ (s : List ℕ). get_or s i 0) e)

  told : (n m : ℕ) (answer : Answer) → ¬ RefusedBy y answer → printed_answer n m answer ≢ printed_refused y
  unfolding filled
  told n m (opening (refused x)) other = λ e. other (ap (λ (z : ℕ). refused z) (refusals_tell x y short small e))
  told n m (opening (given _)) other = byte_differs 1 (λ e. omega arith)
  told n m (editing (refused x)) other = λ e. other (ap (λ (z : ℕ). refused z) (refusals_tell x y short small e))
  told n m (editing (given _)) other = byte_differs 1 (λ e. omega arith)
  told n m (finding (refused x)) other = λ e. other (ap (λ (z : ℕ). refused z) (refusals_tell x y short small e))
  told n m (finding (given Finding.none)) other = byte_differs 1 (λ e. omega arith)
  told n m (finding (given (Finding.rule k h))) other = byte_differs 2 (λ e. omega arith)
  told n m (finding (given (Finding.dispute k))) other = byte_differs 1 (λ e. omega arith)
  told n m (pairing reply) other = byte_differs 0 (λ e. omega arith)
  told n m (inspecting reply) other = byte_differs 0 (λ e. omega arith)
  told n m (listing reply) other = byte_differs 0 (λ e. omega arith)

abbrev Apart : List ℕ → Type 0
Apart line = (line ≢ printed_refused 5) × (line ≢ printed_refused 10) × (line ≢ printed_refused 13)

answer_apart : (n m : ℕ) (answer : Answer) → ¬ RefusedBy 5 answer → ¬ RefusedBy 10 answer → ¬ RefusedBy 13 answer → Apart (printed_answer n m answer)
unfolding width
answer_apart n m answer five ten thirteen = (
  told 5 (omega arith) (omega arith) n m answer five,
  told 10 (omega arith) (omega arith) n m answer ten,
  told 13 (omega arith) (omega arith) n m answer thirteen,
)

refusal_apart : (x : ℕ) → x ≢ 5 → x ≢ 10 → x ≢ 13 → Apart (printed_refused x)
unfolding width
refusal_apart x five ten thirteen = (
  λ e. five (refusals_tell x 5 (omega arith) (omega arith) e),
  λ e. ten (refusals_tell x 10 (omega arith) (omega arith) e),
  λ e. thirteen (refusals_tell x 13 (omega arith) (omega arith) e),
)

-- ---- the program's book

-- no book was opened yet, or the book has its lengths and is sound
abbrev Right : Book → Type 0
Right b = (b.n ≡ 0) ⊎ Consistent b.n b.m b.tables

module _ (b : Book) (right : Right b) where
  sound_or_none : shaped b.n b.m b.tables ≡ true → sound b.n b.m b.tables ≡ true
  sound_or_none fits = ⊎_elim (λ none. absurd (omega (arith, (sized_facts 1 1 b.n b.m _ _ _ _ _ fits).kinds.0))) (λ s. consistent_sound s) right

  -- a call of any form but open
  module _ (request : Request) where
    abbrev call : Call
    call = asks b.n b.m request

    abbrev result : Result
    result = outcome call b.tables

    call_right : Right (record { n = b.n; m = b.m; tables = result.tables })
    call_right = ⊎_elim inl (λ s. inr (call_consistent b.n b.m call b.tables s)) right

    call_apart : ¬ RefusedBy 13 result.answer → Apart (printed_answer b.n b.m result.answer)
    call_apart thirteen =
        answer_apart b.n b.m result.answer (tables.never_5 call b.tables sound_or_none) (tables.never_10 call b.tables sound_or_none) thirteen

  edit_apart : (e : Change) → Apart (printed_answer b.n b.m (result (Request.edit program e)).answer)
  unfolding answer_to
  edit_apart e = call_apart (Request.edit program e) (caller_known b.n b.m b.tables program e (omega arith))

  find_not_13 : (k j : ℕ) → (calls.find b.n b.m b.tables k j).reply ≢ refused 13
  unfolding calls.find
  find_not_13 k j =
      let P : Outcome Finding → Type 0 = λ o. o.reply ≢ refused 13 in
      check_cases 1 b.tables _ P _ (λ e. let never : ◌≡◌ {A = ℕ} 1 13 = cc in omega arith) λ fits.
      check_cases 2 b.tables _ P _ (λ e. let never : ◌≡◌ {A = ℕ} 2 13 = cc in omega arith) λ hk.
      check_cases 3 b.tables _ P _ (λ e. let never : ◌≡◌ {A = ℕ} 3 13 = cc in omega arith) λ hj e.
      given_not_refused _ 13 (sym (entry_found b.n b.m b.tables k j fits (ltb-true k b.n hk) (ltb-true j b.m hj) (sound_or_none fits)) ∙ e)

  find_apart : (k j : ℕ) → Apart (printed_answer b.n b.m (result (Request.find k j)).answer)
  unfolding answer_to
  find_apart k j = call_apart (Request.find k j) (find_not_13 k j)

  open_right : (n m : ℕ) (reply : Reply (Unit {0})) → (calls.open_book n m (zeros n m)).reply ≡ reply
      → Right (opened_book b n m reply (calls.open_book n m (zeros n m)).tables)
  open_right n m (given _) e = inr (opened_consistent n m (zeros n m) e)
  open_right n m (refused x) e = right

  open_apart : (n m : ℕ) → Apart (printed_answer n m (opening (calls.open_book n m (zeros n m)).reply))
  unfolding calls.open_book check
  open_apart n m = go (shaped n m (zeros n m))
    where
      go : (fits : Bool) → Apart (printed_answer n m (opening (check 1 fits (zeros n m) (leaves (given tt) (zeros n m))).reply))
      go true = answer_apart n m (opening (given tt)) (given_not_refused tt 5) (given_not_refused tt 10) (given_not_refused tt 13)
      go false = refusal_apart 1 (λ e. omega arith) (λ e. omega arith) (λ e. omega arith)

  form_right : (form : Form) → Right (turn_of b form).book
  unfolding turn_of carries
  form_right (open_book n m) = open_right n m _ refl
  form_right (add_rule k j h) = call_right _
  form_right (take_rule k j) = call_right _
  form_right (add_link c p) = call_right _
  form_right (take_link c p) = call_right _
  form_right (find k j) = call_right _
  form_right bad = right

  form_apart : (form : Form) → Apart (turn_of b form).printed
  unfolding turn_of carries
  form_apart (open_book n m) = open_apart n m
  form_apart (add_rule k j h) = edit_apart _
  form_apart (take_rule k j) = edit_apart _
  form_apart (add_link c p) = edit_apart _
  form_apart (take_link c p) = edit_apart _
  form_apart (find k j) = find_apart k j
  form_apart bad = refusal_apart 12 (λ e. omega arith) (λ e. omega arith) (λ e. omega arith)

-- ---- sessions

every : (b : Book) → Right b → (lines before after : List (List ℕ)) (line : List ℕ) → answers b lines ≡ before ++ (line ∷ after) → Apart line
unfolding answers line_of
every b right [] [] after line e = absurd (omega (arith, ap length e))
every b right [] (x ∷ before) after line e = absurd (omega (arith, ap length e))
every b right (l ∷ lines) [] after line e = rw (← ap (λ (ls : List (List ℕ)). get_or ls 0 []) e) (form_apart b right (form_of l))
every b right (l ∷ lines) (x ∷ before) after line e = every (line_of b l).book (form_right b right (form_of l)) lines before after line (ap (λ (ls : List (List ℕ)). drop 1 ls) e)

module _ (lines before after : List (List ℕ)) (line : List ℕ) (printed : answers start lines ≡ before ++ (line ∷ after)) where
  pub never_5 : line ≢ printed_refused 5
  never_5 = (every start (inl refl) lines before after line printed).0

  pub never_10 : line ≢ printed_refused 10
  never_10 = (every start (inl refl) lines before after line printed).1

  pub never_13 : line ≢ printed_refused 13
  never_13 = (every start (inl refl) lines before after line printed).2
