-- Laws of the buffers.
--     put_feed      a copy and a line feed after it are put
--     put_none      nothing is put
--     put_more      bytes are put, and then more behind them
--     put_fits      what is put at the front of a buffer fits it
--     put_front     and is found there again
--     added         as much of a part as there is room for makes the line so far, cut
-- Assumes nothing.
use mathlib.Core.Path.{◌≡◌, sym, ap, ◌∙◌}
use mathlib.Core.List.{List, [], ◌∷◌, ◌++◌, append_assoc}
use mathlib.Core.Logic.{⊎_elim}
use Prim.Native.Nat.{ℕ, suc, ◌+◌, ◌≤◌, ◌<◌, min}
use native.Mathlib.Nat.{add-zero, eq-or-lt_of_le}
use native.Mathlib.Numerals.{add-one}
use native.Mathlib.Omega.{arith}
use lib.ListN.{length, get_or, take, drop, set, length-append, length-take, take-append-drop}
use lib.Seq.{paste, take_all, take-length, drop-cons, drop-drop, drop-append-add, set_at, take_at, take-append-add}
use Rattle.stream.specs.Buffers.{Put, cut}

pub put_feed : (line before : List ℕ) (at : ℕ) {end : ℕ} {after : List ℕ} → at + length line < length before → end ≡ at + length line
    → after ≡ set (paste before at line (length line)) end 10 → Put (line ++ (10 ∷ [])) before at (end + 1) after
put_feed line before at {end} room is came =
    let long : length (take at before ++ line) ≡ end = simp (length-append, length-take) (omega arith) in
    let one : end + 1 ≡ at + length (line ++ (10 ∷ [])) = simp length-append (omega arith) in
    record {
      long = one;
      whole =
          came
          ∙ rw (take-length line, ← is, drop-cons before end 0 (omega arith), set_at (take at before ++ line) (get_or before end 0) (drop (suc end) before) 10 end long, ← one, add-one end)
          (append_assoc (take at before) line (10 ∷ drop (suc end) before) ∙ ap (λ (s : List ℕ). take at before ++ s) (sym (append_assoc line (10 ∷ []) (drop (suc end) before))));
    }

-- nothing is put
pub put_none : (before : List ℕ) (at : ℕ) → Put [] before at at before
put_none before at = record { long = omega arith; whole = rw add-zero (sym (take-append-drop at before)) }

module _ {a b o o1 o2 : List ℕ} {at e f : ℕ} (first : Put a o at e o1) (then : Put b o1 e f o2) (room : at ≤ length o) where
  front_long : length (take at o ++ a) ≡ e
  front_long = simp (length-append, length-take) (omega arith)

  middle : o1 ≡ (take at o ++ a) ++ drop e o
  middle = first.whole ∙ rw (← first.long) (sym (append_assoc (take at o) a (drop e o)))

  behind : (k : ℕ) → drop (e + k) o1 ≡ drop (e + k) o
  behind k =
      rw (middle, ← front_long) (drop-append-add (take at o ++ a) (drop (length (take at o ++ a)) o) k ∙ drop-drop k (length (take at o ++ a)) o)

  pub put_more : Put (a ++ b) o at f o2
  put_more =
      let long : f ≡ at + length (a ++ b) = simp length-append (omega (arith, first.long, then.long)) in
      record {
        long = long;
        whole =
            then.whole
            ∙ rw (behind (length b), ← then.long, ← long, middle, take_at (take at o ++ a) (drop e o) e front_long)
            (append_assoc (take at o) a (b ++ drop f o) ∙ ap (λ (s : List ℕ). take at o ++ s) (sym (append_assoc a b (drop f o))));
      }

-- as many bytes as there are, of those asked
take_leading : (xs : List ℕ) (asked : ℕ) {k : ℕ} → k ≡ min (length xs) asked → take k xs ≡ take asked xs
take_leading xs asked {k} is =
    ⊎_elim
    (λ all. take_all k xs (omega arith) ∙ sym (take_all asked xs (omega arith)))
    (λ less. let same : k ≡ asked = omega arith in rw same)
    (eq-or-lt_of_le {n = k} {m = length xs} (omega arith))

pub added : (part carry : List ℕ) (room : ℕ) {more : ℕ} {after : List ℕ} → room + length carry ≡ 65 → more ≡ min (length part) room
    → after ≡ carry ++ take more part → after ≡ cut (carry ++ part)
unfolding cut
added part carry room whole least came =
    let k : 65 ≡ length carry + room = omega arith in
    came ∙ ap (λ (s : List ℕ). carry ++ s) (take_leading part room least) ∙ sym (take-append-add carry part room)
    ∙ ap (λ (x : ℕ). take x (carry ++ part)) (sym k)

-- what is put at the front of a buffer fits it
pub put_fits : {bytes before after : List ℕ} {end : ℕ} → Put bytes before 0 end after → end ≤ length after
put_fits p = omega (arith, p.long, simp length-append at (ap length p.whole))

pub put_front : {bytes before after : List ℕ} {end : ℕ} → Put bytes before 0 end after → take end after ≡ bytes
put_front {bytes} {before} {end = end} p = rw p.whole (take_at bytes (drop (0 + length bytes) before) end (omega (arith, p.long)))
