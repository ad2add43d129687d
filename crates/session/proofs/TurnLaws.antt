-- A call on the leading parts of the program's tables, said of the whole tables.
--     turn_done     what is left in the program after a call and its answer
--     by_call       the answer of a line, by the call that its form asks for
--     unchanged     the answer of a line that is refused before any call
-- Assumes nothing.
use mathlib.Core.Path.{◌≡◌, refl, sym, ap, subst, ◌∙◌}
use mathlib.Core.Bool.{Bool, true, false}
use mathlib.Core.List.{List}
use mathlib.Core.Logic.{◌⊎◌, inl, inr, ⊎_elim}
use Prim.Native.Nat.{ℕ, ◌*◌, ◌≤◌}
use native.Mathlib.Nat.{mul-le-mul}
use native.Mathlib.Omega.{arith}
use lib.Seq.{length-take-le}
use Rattle.inheritance.proofs.Bools.{same_bool}
use Rattle.tables.specs.Reply.{Reply, refused, given}
use Rattle.tables.specs.Tables.{Tables, shaped, LengthsOf}
use Rattle.tables.specs.Calls as calls
use Rattle.tables.specs.Calls.{check, zeros}
use Rattle.tables.specs.Books.{Request, Call, Answer, opening, Result, gives, told, answer_to, outcome}
use Rattle.tables.proofs.ShapeLaws.{sized_facts, facts_sized, zeros_lengths}
use Rattle.answers.specs.Answers.{printed_refused, printed_answer}
use Rattle.forms.specs.Forms.{form_of}
use Rattle.forms.specs.Requests.{call_for, fresh, OfBook, OfBookBy}
use Rattle.session.specs.declared.Desk.{Desk}
use Rattle.session.specs.Line.{Turn, carries_by, carries, carries_or, turn_of, line_of}
use Rattle.session.specs.Parts.{Room, parts, book_in, put_in, size_after, Carried, tables_on, book_on, Answered}
use Rattle.session.proofs.PartLaws.{whole_kept}

-- ---- Open: the parts lent have the lengths that it asks for exactly where n and m are in their ranges

parts_lengths : (n m : ℕ) (t : Tables) → Room t → (u : Tables) → LengthsOf n m u → LengthsOf n m (parts n m t)
parts_lengths n m t room u s =
    let squares : n * n ≤ 128 * 128 = mul-le-mul {n₂ = 128} {m₂ = 128} s.kinds.1 s.kinds.1 in
    let places : n * m ≤ 128 * 64 = mul-le-mul {n₂ = 128} {m₂ = 64} s.kinds.1 s.marks.1 in
    record {
      kinds = s.kinds;
      marks = s.marks;
      links_length = length-take-le (n * n) t.links (omega (arith, room.links_length));
      rules_length = length-take-le (n * m) t.rules (omega (arith, room.rules_length)) ∙ omega arith;
      entries_length = length-take-le (n * m) t.entries (omega (arith, room.entries_length)) ∙ omega arith;
      tally_length = room.tally_length;
      disputes_length = length-take-le m t.disputes (omega (arith, room.disputes_length, s.marks.1)) ∙ omega arith;
    }

same_shape : (n m : ℕ) (t : Tables) → Room t → shaped n m (parts n m t) ≡ shaped n m (zeros n m)
same_shape n m t room =
    same_bool (shaped n m (parts n m t)) (shaped n m (zeros n m))
    (λ is. facts_sized 1 1 n m _ _ _ _ _ (zeros_lengths n m (parts n m t) (sized_facts 1 1 n m _ _ _ _ _ is)))
    (λ is. facts_sized 1 1 n m _ _ _ _ _ (parts_lengths n m t room (zeros n m) (sized_facts 1 1 n m _ _ _ _ _ is)))

-- open does to the parts what it does to tables of zeros
abbrev Opens : (n m : ℕ) → Tables → Type 0
Opens n m t =
    ((calls.open_book n m (parts n m t) ≡ calls.leaves (given tt) (zeros n m)) × (calls.open_book n m (zeros n m) ≡ calls.leaves (given tt) (zeros n m)))
    ⊎ ((calls.open_book n m (parts n m t) ≡ calls.leaves (refused 1) (parts n m t)) × (calls.open_book n m (zeros n m) ≡ calls.leaves (refused 1) (zeros n m)))

opening_parts : (n m : ℕ) (t : Tables) → Room t → Opens n m t
unfolding calls.open_book check
opening_parts n m t room = go (shaped n m (parts n m t)) refl
  where
    go : (test : Bool) → shaped n m (parts n m t) ≡ test → Opens n m t
    go true is = inl (rw (is, check) refl, rw (sym (same_shape n m t room) ∙ is, check) refl)
    go false is = inr (rw (is, check) refl, rw (sym (same_shape n m t room) ∙ is, check) refl)

-- ---- Any other call: its answer is no open's

record Other (n m : ℕ) (t : Tables) (r : Request) : Type 0 where
  not_fresh : fresh r ≡ false
  size : (call : Call) (k j : ℕ) → size_after k j call (answer_to n m t r).answer ≡ (k, j)

open_or_other : (n m : ℕ) (t : Tables) (r : Request) → (r ≡ Request.open_book) ⊎ Other n m t r
unfolding answer_to
open_or_other n m t Request.open_book = inl refl
open_or_other n m t (Request.edit caller e) = inr (record { not_fresh = refl; size = λ call k j. refl })
open_or_other n m t (Request.edit_all caller es) = inr (record { not_fresh = refl; size = λ call k j. refl })
open_or_other n m t (Request.find kind mark) = inr (record { not_fresh = refl; size = λ call k j. refl })
open_or_other n m t (Request.parties kind mark) = inr (record { not_fresh = refl; size = λ call k j. refl })
open_or_other n m t Request.inspect = inr (record { not_fresh = refl; size = λ call k j. refl })
open_or_other n m t Request.refresh = inr (record { not_fresh = refl; size = λ call k j. refl })

-- ---- A call

-- what a call leaves: the book, of the size after it, and the tables
pub record Left (turn : Turn) (n m : ℕ) (before after : Tables) (printed : List ℕ) : Type 0 where
  pub book : book_in n m after ≡ turn.book
  pub tables : after ≡ put_in turn.book.tables before
  pub said : printed ≡ turn.printed

module _ (call : Call) {t after : Tables} {answer : Answer} (room : Room t) (c : Carried call t answer after) where
  abbrev before-parts : Tables
  before-parts = parts call.n call.m t

  came : {x : Tables} → parts call.n call.m after ≡ x → after ≡ put_in x t
  came e = c.tables ∙ ap (λ (y : Tables). put_in y t) e

  new_book : {x : Tables} → parts call.n call.m after ≡ x → book_in call.n call.m after ≡ record { n = call.n; m = call.m; tables = x }
  new_book e = ap (λ (x : Tables). record { n = call.n; m = call.m; tables = x }) e

  -- the call was carried out on the book of n kinds and m marks, as one that asks for a new book or not
  abbrev Done : Bool → (n m : ℕ) → Type 0
  Done new n m = Left (carries_by new (book_in n m t) call) (size_after n m call answer).0 (size_after n m call answer).1 t after (printed_answer call.n call.m answer)

  other_done : Other call.n call.m before-parts call.request → Done false call.n call.m
  other_done o =
      let answer-is : answer ≡ (outcome call before-parts).answer = ap (λ (r : Result). r.answer) c.done in
      let tables-is = ap (λ (r : Result). r.tables) c.done in
      rw (answer-is, o.size call call.n call.m)
      (record { book = new_book tables-is; tables = came tables-is; said = refl })

  open_done : (n m : ℕ) → gives answer (parts call.n call.m after) ≡ told opening (calls.open_book call.n call.m before-parts) → Done true n m
  open_done n m opened =
      ⊎_elim
      (λ o.
      let e = opened ∙ ap (told opening) o.0 in
      let answer-is : answer ≡ opening (given tt) = ap (λ (r : Result). r.answer) e in
      let tables-is = ap (λ (r : Result). r.tables) e in
      rw (o.1, answer-is) (record { book = new_book tables-is; tables = came tables-is; said = refl }))
      (λ o.
      let e = opened ∙ ap (told opening) o.0 in
      let answer-is : answer ≡ opening (refused 1) = ap (λ (r : Result). r.answer) e in
      let old = came (ap (λ (r : Result). r.tables) e) ∙ sym (whole_kept call.n call.m t) in
      rw (o.1, answer-is) (record { book = ap (book_in n m) old; tables = old ∙ whole_kept n m t; said = refl }))
      (opening_parts call.n call.m t room)

  pub turn_done : (n m : ℕ) → OfBook n m call
      → Left (carries (book_in n m t) call) (size_after n m call answer).0 (size_after n m call answer).1 t after (printed_answer call.n call.m answer)
  unfolding carries answer_to
  turn_done n m size =
      ⊎_elim
      (λ (e : call.request ≡ Request.open_book).
      subst (λ (new : Bool). Done new n m) (sym (ap fresh e)) (open_done n m (c.done ∙ ap (answer_to call.n call.m before-parts) e)))
      (λ (o : Other call.n call.m before-parts call.request).
      let same : OfBookBy false n m call = subst (λ (new : Bool). OfBookBy new n m call) o.not_fresh size in
      subst (λ (new : Bool). Done new n m) (sym o.not_fresh)
      (subst (λ (y : ℕ). Done false n y) same.1 (subst (λ (x : ℕ). Done false x call.m) same.0 (other_done o))))
      (open_or_other call.n call.m before-parts call.request)

-- ---- A line

module _ {before after : Desk} {printed : List ℕ} (input : List ℕ) {call : Reply Call} (is : call ≡ call_for before.n before.m (form_of input)) where
  pub by_call : Answered (λ b. carries_or b call) before after printed → Answered (λ b. line_of b input) before after printed
  unfolding line_of turn_of
  by_call a = record {
    book = a.book ∙ ap (λ (c : Reply Call). (carries_or (book_on before) c).book) is;
    tables = a.tables ∙ ap (λ (c : Reply Call). put_in (carries_or (book_on before) c).book.tables (tables_on before)) is;
    printed = a.printed ∙ ap (λ (c : Reply Call). (carries_or (book_on before) c).printed) is;
  }

pub unchanged : (number : ℕ) (desk : Desk) {printed : List ℕ} → printed ≡ printed_refused number
    → Answered (λ b. carries_or b (refused number)) desk desk printed
unchanged number desk said = record { book = refl; tables = whole_kept desk.n desk.m (tables_on desk); printed = said }
