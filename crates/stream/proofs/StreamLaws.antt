-- A session in blocks.
--     stream_is_session       however an input is cut into blocks, what is written is what the session says
--     streaming_is_session    the same of what the functions' contracts leave, block after block
--     cut_line                a line is known by its first 65 bytes
--     passed_feed, passed_byte    a block by its first byte
--     closed_line, closed_none    the last line has a byte, or there is none
-- Assumes nothing.
use mathlib.Core.Path.{◌≡◌, refl, sym, ap, ◌∙◌}
use mathlib.Core.Bool.{Bool, true, false}
use mathlib.Core.List.{List, [], ◌∷◌, ◌++◌, append_assoc, flatten}
use Prim.Native.Nat.{ℕ, zero, suc, ◌<◌}
use native.Mathlib.Omega.{arith}
use borrow.Author.Tests.{leb-true, leb-false, eqb-true, eqb-false}
use lib.Dec.{eqb, leb}
use lib.ListN.{length, take, length-take}
use lib.Seq.{take_all, length-take-le}
use Rattle.tables.specs.Lists.{run}
use Rattle.forms.specs.Forms.{form_of}
use Rattle.forms.proofs.FormLaws.{form_long}
use Rattle.session.specs.Line.{Book, Turn, line_of, turn_of}
use Rattle.session.specs.Session.{start, book_after, answers, lines_from, written, session}
use Rattle.session.proofs.SessionLaws.{answers_apart, written_apart}
use Rattle.session.specs.declared.Desk.{Desk}
use Rattle.session.specs.Parts.{book_on}
use Rattle.stream.specs.Blocks.{Replied, Closed, Fresh, Streaming, ends, works}
use Rattle.stream.specs.Buffers.{cut}
use Rattle.stream.specs.Stream.{ended, begun, last, Passed, passed, closed, streamed}
use Rattle.stream.proofs.BufferLaws.{put_none, put_front}

-- ---- Lines over 64 bytes

cut_form : (line : List ℕ) → form_of (cut line) ≡ form_of line
unfolding cut
cut_form line = go (leb (length line) 64) refl
  where
    go : (short : Bool) → leb (length line) 64 ≡ short → form_of (take 65 line) ≡ form_of line
    go true is = ap form_of (take_all 65 line (omega (arith, leb-true (length line) 64 is)))
    go false is =
        let long : 64 < length line = leb-false (length line) 64 is in
        form_long (take 65 line) (omega (arith, length-take-le 65 line (omega arith))) ∙ sym (form_long line long)

pub cut_line : (b : Book) (line : List ℕ) → line_of b (cut line) ≡ line_of b line
unfolding line_of
cut_line b line = ap (turn_of b) (cut_form line)

take_more : (k : ℕ) (p s : List ℕ) → take k (take k p ++ s) ≡ take k (p ++ s)
take_more zero p s = refl
take_more (suc k) [] s = refl
take_more (suc k) (x ∷ p) s = ap (λ (rest : List ℕ). x ∷ rest) (take_more k p s)

cut_more : (p s : List ℕ) → cut (cut p ++ s) ≡ cut (p ++ s)
unfolding cut
cut_more p s = take_more 65 p s

cut_cut : (p : List ℕ) → cut (cut p) ≡ cut p
unfolding cut
cut_cut p = take_all 65 (take 65 p) (simp length-take (omega arith))

-- two beginnings of a line that are cut to the same
module _ (p q : List ℕ) (same : cut p ≡ cut q) where
  over_long : (b : Book) → line_of b p ≡ line_of b q
  over_long b = sym (cut_line b p) ∙ ap (line_of b) same ∙ cut_line b q

  cut_both : (s : List ℕ) → cut (p ++ s) ≡ cut (q ++ s)
  cut_both s = sym (cut_more p s) ∙ ap (λ (x : List ℕ). cut (x ++ s)) same ∙ cut_more q s

-- ---- A byte more

module _ (partial : List ℕ) (x : ℕ) (block : List ℕ) where
  ended_feed : eqb x 10 ≡ true → ended partial (x ∷ block) ≡ partial ∷ ended [] block
  unfolding ended
  ended_feed is = rw (is, ended)

  ended_byte : eqb x 10 ≡ false → ended partial (x ∷ block) ≡ ended (partial ++ (x ∷ [])) block
  unfolding ended
  ended_byte is = rw (is, ended)

  begun_feed : eqb x 10 ≡ true → begun partial (x ∷ block) ≡ begun [] block
  unfolding begun
  begun_feed is = rw (is, begun)

  begun_byte : eqb x 10 ≡ false → begun partial (x ∷ block) ≡ begun (partial ++ (x ∷ [])) block
  unfolding begun
  begun_byte is = rw (is, begun)

  lines_feed : eqb x 10 ≡ true → lines_from partial (x ∷ block) ≡ partial ∷ lines_from [] block
  unfolding lines_from
  lines_feed is = rw (is, lines_from)

  lines_byte : eqb x 10 ≡ false → lines_from partial (x ∷ block) ≡ lines_from (partial ++ (x ∷ [])) block
  unfolding lines_from
  lines_byte is = rw (is, lines_from)

-- what is written before a block's own output
abbrev pub behind : List ℕ → Passed → Passed
behind bytes p = record { book = p.book; carry = p.carry; output = bytes ++ p.output }

-- a line is answered, and then the block is passed from the book that it leaves
abbrev pub turned : Turn → List ℕ → Passed
turned turn block = behind (turn.printed ++ (10 ∷ [])) (passed turn.book [] block)

module _ (b : Book) (partial : List ℕ) (x : ℕ) (block : List ℕ) where
  pub passed_feed : eqb x 10 ≡ true → passed b partial (x ∷ block) ≡ turned (line_of b partial) block
  unfolding passed run answers written
  passed_feed is =
      rw (ended_feed partial x block is, begun_feed partial x block is)
      (ap (λ (output : List ℕ). record { book = book_after (line_of b partial).book (ended [] block); carry = cut (begun [] block); output = output })
      (sym (append_assoc (line_of b partial).printed (10 ∷ []) (written (answers (line_of b partial).book (ended [] block))))))

  pub passed_byte : eqb x 10 ≡ false → passed b partial (x ∷ block) ≡ passed b (partial ++ (x ∷ [])) block
  unfolding passed
  passed_byte is = rw (ended_byte partial x block is, begun_byte partial x block is)

-- ---- The lines of an input in two parts

lines_apart : (partial block more : List ℕ) → lines_from partial (block ++ more) ≡ ended partial block ++ lines_from (begun partial block) more
lines_apart partial [] more = unfold ended in unfold begun in refl
lines_apart partial (x ∷ block) more = go (eqb x 10) refl (lines_apart [] block more) (lines_apart (partial ++ (x ∷ [])) block more)
  where
    go : (feed : Bool) → eqb x 10 ≡ feed → lines_from [] (block ++ more) ≡ ended [] block ++ lines_from (begun [] block) more
        → lines_from (partial ++ (x ∷ [])) (block ++ more) ≡ ended (partial ++ (x ∷ [])) block ++ lines_from (begun (partial ++ (x ∷ [])) block) more
        → lines_from partial (x ∷ (block ++ more)) ≡ ended partial (x ∷ block) ++ lines_from (begun partial (x ∷ block)) more
    go true is fresh further =
        rw (lines_feed partial x (block ++ more) is, ended_feed partial x block is, begun_feed partial x block is)
        (ap (λ (lines : List (List ℕ)). partial ∷ lines) fresh)
    go false is fresh further =
        rw (lines_byte partial x (block ++ more) is, ended_byte partial x block is, begun_byte partial x block is) further

lines_last : (partial : List ℕ) → lines_from partial [] ≡ last partial
unfolding lines_from
lines_last [] = refl
lines_last (x ∷ partial) = refl

-- ---- A carry that is cut to the same

passed_same : (block : List ℕ) (b : Book) (p q : List ℕ) → cut p ≡ cut q → passed b p block ≡ passed b q block
passed_same [] b p q same = unfold passed ended begun run answers written in ap (λ (carry : List ℕ). record { book = b; carry = carry; output = [] }) same
passed_same (x ∷ block) b p q same = go (eqb x 10) refl (passed_same block b (p ++ (x ∷ [])) (q ++ (x ∷ [])) (cut_both p q same (x ∷ [])))
  where
    go : (feed : Bool) → eqb x 10 ≡ feed → passed b (p ++ (x ∷ [])) block ≡ passed b (q ++ (x ∷ [])) block → passed b p (x ∷ block) ≡ passed b q (x ∷ block)
    go true is further =
        passed_feed b p x block is ∙ ap (λ (turn : Turn). turned turn block) (over_long p q same b) ∙ sym (passed_feed b q x block is)
    go false is further = passed_byte b p x block is ∙ further ∙ sym (passed_byte b q x block is)

cut_last : (b : Book) (partial : List ℕ) → (closed b (cut partial)).output ≡ (closed b partial).output
unfolding closed cut answers
cut_last b [] = refl
cut_last b (x ∷ partial) = ap (λ (turn : Turn). written (turn.printed ∷ [])) (cut_line b (x ∷ partial))

-- ---- The session

streams : (blocks : List (List ℕ)) (b : Book) (partial : List ℕ) → streamed b (cut partial) blocks ≡ written (answers b (lines_from partial (flatten blocks)))
unfolding streamed flatten passed closed
streams [] b partial = cut_last b partial ∙ ap (λ (lines : List (List ℕ)). written (answers b lines)) (sym (lines_last partial))
streams (block ∷ blocks) b partial =
    let lines = ended partial block in
    let rest = lines_from (begun partial block) (flatten blocks) in
    ap (λ (p : Passed). p.output ++ streamed p.book p.carry blocks) (passed_same block b (cut partial) partial (cut_cut partial))
    ∙ ap (λ (more : List ℕ). written (answers b lines) ++ more) (streams blocks (book_after b lines) (begun partial block))
    ∙ sym (written_apart (answers b lines) (answers (book_after b lines) rest))
    ∙ ap written (sym (answers_apart b lines rest) ∙ ap (answers b) (sym (lines_apart partial block (flatten blocks))))

pub stream_is_session : (blocks : List (List ℕ)) → streamed start [] blocks ≡ session (flatten blocks)
unfolding session cut
stream_is_session blocks = streams blocks start []

-- ---- The functions' contracts

pub closed_line : (b : Book) (line : List ℕ) {out : List ℕ} {after : Desk} {end : ℕ} {out_after : List ℕ} → false ≡ eqb (length line) 0
    → Replied (line_of b line) 0 out after end out_after → Closed (closed b line) out after end out_after
unfolding closed run answers written
closed_line b [] some done = absurd (eqb-false 0 0 (sym some) refl)
closed_line b (x ∷ line) some done = record { book = done.book; output = done.output }

pub closed_none : (desk : Desk) (carry out : List ℕ) → true ≡ eqb (length carry) 0 → Closed (closed (book_on desk) carry) out desk 0 out
unfolding closed run answers written
closed_none desk [] out none = record { book = refl; output = put_none out 0 }
closed_none desk (x ∷ carry) out none = absurd (omega (arith, eqb-true (suc (length carry)) 0 (sym none)))

streaming : {desk : Desk} {carry : List ℕ} {blocks : List (List ℕ)} {output : List ℕ} → Streaming desk carry blocks output
    → output ≡ streamed (book_on desk) carry blocks
unfolding streamed
streaming (ends done) = put_front done.output
streaming (works {desk = desk} {carry = carry} {block = block} done next) =
    rw (put_front done.output, ← done.book, ← done.carry)
    (ap (λ (rest : List ℕ). (passed (book_on desk) carry block).output ++ rest) (streaming next))

-- from the first block on
pub streaming_is_session : {desk : Desk} {blocks : List (List ℕ)} {output : List ℕ} → Fresh desk
    → Streaming desk [] blocks output → output ≡ session (flatten blocks)
streaming_is_session {desk} {blocks} fresh all = streaming all ∙ rw fresh (stream_is_session blocks)
