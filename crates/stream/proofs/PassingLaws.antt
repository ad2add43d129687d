-- A block is passed line by line.
--     passed_line    a block up to its first line feed, and the rest
--     passed_end     a block without a line feed
--     Passing        what holds between two lines of a block
--     begins, answered, finished    its start, its step and its end; room: an answer has room
-- Assumes nothing.
use mathlib.Core.Path.{◌≡◌, refl, sym, ap, ◌∙◌, subst}
use mathlib.Core.Bool.{false}
use mathlib.Core.List.{List, [], ◌∷◌, ◌++◌, append_assoc, append-nil}
use Prim.Native.Nat.{ℕ, suc, ◌+◌, ◌*◌, ◌-◌, ◌≤◌, ◌<◌}
use native.Mathlib.Numerals.{add-one}
use native.Mathlib.Omega.{arith}
use borrow.Author.Tests.{ne_eqb}
use lib.Dec.{eqb}
use lib.ListN.{length, get_or, take, drop, length-append, length-take, length-drop, take-append-drop}
use lib.Seq.{drop-cons, drop-drop, get_or-drop, get_or-take, take_all}
use Rattle.tables.specs.Lists.{run}
use Rattle.session.specs.Line.{Book, line_of}
use Rattle.session.specs.Session.{answers, written}
use Rattle.session.specs.declared.Desk.{Desk}
use Rattle.session.specs.Parts.{book_on}
use Rattle.stream.specs.Buffers.{cut}
use Rattle.stream.specs.Stream.{ended, begun, Passed, passed}
use Rattle.std.specs.Prelude.{Some, None}
use Rattle.stream.specs.Buffers.{NoneBetween, LineEnd, Put}
use Rattle.stream.specs.Blocks.{Replied, Worked}
use Rattle.stream.proofs.BufferLaws.{put_none, put_more}
use Rattle.stream.proofs.ShortLaws.{answer_short}
use Rattle.stream.proofs.StreamLaws.{behind, turned, passed_feed, passed_byte}

abbrev Unended : List ℕ → Type 0
Unended line = (k : ℕ) → k < length line → get_or line k 0 ≡ 10 → ⊥

no_feed_first : (x : ℕ) (line : List ℕ) → Unended (x ∷ line) → eqb x 10 ≡ false
no_feed_first x line none = ne_eqb x 10 (none 0 (omega arith))

no_feed_rest : (x : ℕ) (line : List ℕ) → Unended (x ∷ line) → Unended line
no_feed_rest x line none k h = none (suc k) (omega arith)

passed_line : (b : Book) (partial line more : List ℕ) → Unended line → passed b partial (line ++ (10 ∷ more)) ≡ turned (line_of b (partial ++ line)) more
passed_line b partial [] more none = passed_feed b partial 10 more refl ∙ rw (append-nil partial)
passed_line b partial (x ∷ line) more none =
    passed_byte b partial x (line ++ (10 ∷ more)) (no_feed_first x line none)
    ∙ passed_line b (partial ++ (x ∷ [])) line more (no_feed_rest x line none)
    ∙ rw (append_assoc partial (x ∷ []) line)

passed_end : (b : Book) (partial block : List ℕ) → Unended block → passed b partial block ≡ record { book = b; carry = cut (partial ++ block); output = [] }
passed_end b partial [] none = rw (append-nil partial) (unfold passed ended begun run answers written in refl)
passed_end b partial (x ∷ block) none =
    passed_byte b partial x block (no_feed_first x block none)
    ∙ passed_end b (partial ++ (x ∷ [])) block (no_feed_rest x block none)
    ∙ rw (append_assoc partial (x ∷ []) block)

module _ (block : List ℕ) (from end : ℕ) (after : from ≤ end) (none : NoneBetween block from end) where
  none_before : Unended (take (end - from) (drop from block))
  none_before k h is =
      let inside : k < end - from = omega (arith, simp length-take at h) in
      none (from + k) (omega arith) (omega arith) (sym (get_or-take (end - from) (drop from block) k 0 inside ∙ get_or-drop from block k 0) ∙ is)

  split : end < length block → get_or block end 0 ≡ 10 → drop from block ≡ take (end - from) (drop from block) ++ (10 ∷ drop (end + 1) block)
  split more here =
      let to : from + (end - from) ≡ end = omega arith in
      sym (take-append-drop (end - from) (drop from block))
      ∙ ap (λ (s : List ℕ). take (end - from) (drop from block) ++ s)
      (drop-drop (end - from) from block ∙ rw (to, add-one end) (drop-cons block end 0 more ∙ ap (λ (x : ℕ). x ∷ drop (suc end) block) here))

pub record Passing (block : List ℕ) (whole : Passed) (at : ℕ) (before : List ℕ) (b : Book) (carry out : List ℕ) (waiting from : ℕ) : Type 0 where
  pub bytes : List ℕ
  pub within : from ≤ length block
  pub left : waiting + 17 * (length block - from) ≤ length before
  pub kept : length out ≡ length before
  pub put : Put bytes before at waiting out
  pub same : behind bytes (passed b carry (drop from block)) ≡ whole

pub begins : (block : List ℕ) (b : Book) (carry out : List ℕ) (at : ℕ) → at + 17 * length block ≤ length out
    → Passing block (passed b carry block) at out b carry out at 0
begins block b carry out at left =
    record {
      bytes = [];
      within = omega arith;
      left = omega arith;
      kept = refl;
      put = put_none out at;
      same = refl;
    }

module _ {block : List ℕ} {whole : Passed} {at : ℕ} {before : List ℕ} {b : Book} {carry out : List ℕ} {waiting from : ℕ} (p : Passing block whole at before b carry out waiting from) where
  module _ {end : ℕ} (found : LineEnd block from (Some end)) where
    pub room : waiting + 17 ≤ length out
    room = omega (arith, found.0, found.1, p.left, p.kept)

    abbrev line : List ℕ
    line = carry ++ take (end - from) (drop from block)

    pub answered : {desk : Desk} {end' : ℕ} {out' : List ℕ} → Replied (line_of b line) waiting out desk end' out' → length out' ≡ length out
        → Passing block whole at before (book_on desk) [] out' end' (end + 1)
    answered {desk} {end'} {out'} done kept =
        let turn = line_of b line in
        let reply = turn.printed ++ (10 ∷ []) in
        let long : length reply ≤ 17 = simp length-append (omega (arith, answer_short b line)) in
        record {
          bytes = p.bytes ++ reply;
          within = omega (arith, found.1);
          left = omega (arith, done.output.long, p.left, found.0, found.1);
          kept = omega (arith, p.kept);
          put = put_more p.put done.output (omega (arith, p.left));
          same =
              rw done.book
              (ap (λ (o : List ℕ). record { book = (passed turn.book [] (drop (end + 1) block)).book; carry = (passed turn.book [] (drop (end + 1) block)).carry; output = o }) (append_assoc p.bytes reply (passed turn.book [] (drop (end + 1) block)).output)
              ∙ ap (behind p.bytes) (sym (ap (passed b carry) (split block from end found.0 found.3 found.1 found.2) ∙ passed_line b carry (take (end - from) (drop from block)) (drop (end + 1) block) (none_before block from end found.0 found.3)))
              ∙ p.same);
        }

  pub finished : LineEnd block from None → {desk : Desk} {carry' : List ℕ} → book_on desk ≡ b → carry' ≡ cut (carry ++ take (length block - from) (drop from block))
      → Worked whole at before desk carry' waiting out
  finished none {desk} is taken =
      let all : take (length block - from) (drop from block) ≡ drop from block = take_all (length block - from) (drop from block) (simp length-drop (omega arith)) in
      let unended : Unended (drop from block) = subst Unended all (none_before block from (length block) p.within none) in
      let done = sym p.same ∙ ap (behind p.bytes) (passed_end b carry (drop from block) unended) in
      record {
        book = is ∙ sym (ap (λ (q : Passed). q.book) done);
        carry = taken ∙ ap (λ (s : List ℕ). cut (carry ++ s)) all ∙ sym (ap (λ (q : Passed). q.carry) done);
        output = rw (ap (λ (q : Passed). q.output) done, append-nil p.bytes) p.put;
      }
