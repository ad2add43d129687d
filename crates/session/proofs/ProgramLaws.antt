-- The text program is one caller.
--     program_alone    after any lines, the number of every other caller in its tally is 0
-- Assumes nothing.
use mathlib.Core.Path.{◌≡◌, ◌∙◌}
use mathlib.Core.List.{List}
use mathlib.Core.Logic.{◌≢◌}
use Prim.Native.Nat.{ℕ}
use lib.ListN.{get_or}
use Rattle.tables.specs.Caller.{callers}
use Rattle.tables.specs.Reply.{Reply, refused, given}
use Rattle.tables.specs.Calls as calls
use Rattle.tables.specs.Calls.{zeros}
use Rattle.tables.specs.Lists.{Change}
use Rattle.tables.specs.Books.{Request, answer_to}
use Rattle.tables.proofs.BookLaws.{zeros_at}
use Rattle.tables.proofs.ListLaws.{run_keeps}
use Rattle.tables.proofs.CallLaws.{check_holds, find_keeps}
use Rattle.tables.proofs.CallerLaws.{others_kept}
use Rattle.forms.specs.Forms.{Form, open_book, add_rule, take_rule, add_link, take_link, find, bad, form_of}
use Rattle.forms.specs.Requests.{program}
use Rattle.session.specs.Line.{Book, opened_book, carries, turn_of, line_of}
use Rattle.session.specs.Session.{start, book_after}

module _ (c : ℕ) (other : c ≢ program) where
  abbrev Idle : Book → Type 0
  Idle b = get_or b.tables.tally c 0 ≡ 0

  module _ (b : Book) (idle : Idle b) where
    open_idle : (n m : ℕ) (reply : Reply (Unit {0})) → Idle (opened_book b n m reply (calls.open_book n m (zeros n m)).tables)
    unfolding calls.open_book
    open_idle n m (given _) = check_holds 1 (zeros n m) _ (λ t. get_or t.tally c 0 ≡ 0) _ (zeros_at callers c) λ _. zeros_at callers c
    open_idle n m (refused x) = idle

    edit_idle : (e : Change) → get_or (answer_to b.n b.m b.tables (Request.edit program e)).tables.tally c 0 ≡ 0
    unfolding answer_to
    edit_idle e = others_kept b.n b.m b.tables program c other e ∙ idle

    form_idle : (form : Form) → Idle (turn_of b form).book
    unfolding turn_of carries answer_to
    form_idle (open_book n m) = open_idle n m (calls.open_book n m (zeros n m)).reply
    form_idle (add_rule k j h) = edit_idle _
    form_idle (take_rule k j) = edit_idle _
    form_idle (add_link k p) = edit_idle _
    form_idle (take_link k p) = edit_idle _
    form_idle (find k j) = rw (find_keeps b.n b.m b.tables k j) idle
    form_idle bad = idle

  line_idle : (line : List ℕ) (b : Book) → Idle b → Idle (line_of b line).book
  unfolding line_of
  line_idle line b idle = form_idle b idle (form_of line)

  pub program_alone : (lines : List (List ℕ)) → get_or (book_after start lines).tables.tally c 0 ≡ 0
  program_alone lines = run_keeps (λ line book. (line_of book line).book) Idle line_idle lines start (zeros_at callers c)
