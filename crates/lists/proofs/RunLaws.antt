-- A run over what is left of a list of edits.
--     run_more, run_end      from a record on, where the run ends so, it ends so from the next on; and past the last
--     goes_on                what is known of a list of which no edit is refused
--     same_book, same_then   the book is the one that was lent
--     run_over, run_refused  after a refused edit, and in a list that is refused, none is made
-- Assumes nothing.
use Rattle.std.proofs.Common.{◌≡◌, ◌≤◌, ◌<◌, ℕ, zero, suc, ◌+◌, List, [], ◌∷◌, length, drop, get_or, arith, refl, sym, ap, ◌∙◌, add-one, drop-cons}
use mathlib.Core.Bool.{true, false, false≢true}
use Rattle.std.specs.Prelude.{Option, Some, None, is_some, IfNone}
use Rattle.books.specs.declared.Book.{Book}
use Rattle.books.specs.Lent.{SameBook}
use Rattle.tables.specs.declared.Edit.{Edit}
use Rattle.tables.specs.declared.Refusal.{Refusal}
use Rattle.tables.specs.Calls.{leaves}
use Rattle.tables.specs.Lists.{run, next_edit}
use Rattle.tables.specs.Reply.{refused, given, stopped, refusal_number, listed}
use Rattle.tables.specs.Tables.{Tables}
use Rattle.tables.proofs.ListLaws.{run_stays}

pub run_more : {C S : Type 0} (f : C → S → S) (cs : List C) (i : ℕ) (d : C) {s t u : S} → i < length cs → t ≡ f (get_or cs i d) s → run f (drop i cs) s ≡ u
    → run f (drop (i + 1) cs) t ≡ u
unfolding run
run_more f cs i d {s} h is whole =
    ap (run f (drop (i + 1) cs)) is
    ∙ sym (ap (λ rest. run f rest s) (drop-cons cs i d h) ∙ ap (λ k. run f (drop k cs) (f (get_or cs i d) s)) (sym (add-one i))) ∙ whole

pub run_end : {C S : Type 0} (f : C → S → S) (cs : List C) (i : ℕ) (s : S) → length cs ≤ i → run f (drop i cs) s ≡ s
unfolding run
run_end f [] zero s h = refl
run_end f [] (suc i) s h = refl
run_end f (c ∷ cs) zero s h = elim h [ ]
run_end f (c ∷ cs) (suc i) s h = run_end f cs i s (omega arith)

pub goes_on : {P : Type 0} (stopped : Option Refusal) → is_some stopped ≡ false → IfNone stopped P → P
goes_on None none known = known
goes_on (Some why) none known = absurd (false≢true (sym none))

module _ (n m caller : ℕ) (es : List Edit) (t : Tables) where
  pub run_over : (accepted changed : ℕ) (stopped : Option Refusal) → is_some stopped ≡ true
      → run (next_edit n m caller) es (leaves (given (listed accepted changed stopped)) t) ≡ leaves (given (listed accepted changed stopped)) t
  run_over accepted changed (Some why) some = run_stays n m caller (given (stopped accepted changed (refusal_number why))) (λ e u. refl) es t
  run_over accepted changed None some = absurd (false≢true some)

  pub run_refused : (number : ℕ) → run (next_edit n m caller) es (leaves (refused number) t) ≡ leaves (refused number) t
  run_refused number = run_stays n m caller (refused number) (λ e u. refl) es t

-- ---- the book of a run

pub same_book : (b : Book) → SameBook b b
same_book b = record { kinds = refl; marks = refl; links = refl; rules = refl; entries = refl; tally = refl; disputes = refl }

pub same_then : {a b c : Book} → SameBook a b → SameBook b c → SameBook a c
same_then s t = record {
  kinds = t.kinds ∙ s.kinds;
  marks = t.marks ∙ s.marks;
  links = t.links ∙ s.links;
  rules = t.rules ∙ s.rules;
  entries = t.entries ∙ s.entries;
  tally = t.tally ∙ s.tally;
  disputes = t.disputes ∙ s.disputes;
}
