-- The digits of a number and the number at the front of a line.
--     length_digits, digits_most    v has `width v` digits, 5 at most
--     digits_decimal   the digits are what std prints
--     number_digits    the digits of v, with no digit after them, read as v
--     spells           and nothing else does: what reads as v are the digits of v, and v is at most 65,535
--     drop_next        the byte at a place of a line, and those after it
-- Assumes nothing.
use mathlib.Core.Path.{◌≡◌, refl, sym, ap, ◌∙◌}
use mathlib.Core.Bool.{Bool, true, false, ◌&&◌}
use mathlib.Core.List.{List, [], ◌∷◌, ◌++◌, append_assoc}
use Prim.Native.Nat.{ℕ, zero, suc, ◌+◌, ◌*◌, ◌-◌, ◌/◌, ◌%◌, ◌≤◌, ◌<◌}
use native.Mathlib.Numerals.{add-one}
use native.Mathlib.Omega.{arith}
use borrow.Author.Tests.{lt-ltb, le-ltb, ltb-true, ltb-false, leb-true, le-leb, lt-leb, ne_eqb, eqb-true, eqb-false}
use lib.Dec.{eqb, leb, ltb}
use lib.ListN.{length, length-append, get_or, drop, drop_of_length-le}
use lib.Seq.{drop-cons}
use Rattle.std.specs.Prelude.{decimal}
use Rattle.std.proofs.lemmas.Fmt.{decimal_by_steps}
use Rattle.forms.specs.Decimal.{last_digits, width, digits, Number, missing, number, is_digit, further, number_at}

pub length_last : (k v : ℕ) → length (last_digits k v) ≡ k
unfolding last_digits
length_last zero v = refl
length_last (suc k) v = simp (length-append, length_last k (v / 10), add-one)

pub length_digits : (v : ℕ) → length (digits v) ≡ width v
unfolding digits
length_digits v = length_last (width v) v

pub digits_most : (v : ℕ) → length (digits v) ≤ 5
unfolding width
digits_most v = rw (length_digits v) (go (ltb v 10) (ltb v 100) (ltb v 1000) (ltb v 10000))
  where
    go : (a b c d : Bool) → (elim a [ true ↦ 1 | false ↦ elim b [ true ↦ 2 | false ↦ elim c [ true ↦ 3 | false ↦ elim d [ true ↦ 4 | false ↦ 5 ] ] ] ]) ≤ 5
    go true b c d = omega arith
    go false true c d = omega arith
    go false false true d = omega arith
    go false false false true = omega arith
    go false false false false = omega arith

width_more : (u d : ℕ) → 1 ≤ u → d < 10 → u * 10 + d ≤ 65535 → width (u * 10 + d) ≡ suc (width u)
unfolding width
width_more u d low small fits = go (ltb u 10) (ltb u 100) (ltb u 1000) refl refl refl
  where
    ten : ltb (u * 10 + d) 10 ≡ false
    ten = le-ltb (u * 10 + d) 10 (omega arith)

    go : (a b c : Bool) → ltb u 10 ≡ a → ltb u 100 ≡ b → ltb u 1000 ≡ c → width (u * 10 + d) ≡ suc (width u)
    go true b c p q r = let h = ltb-true u 10 p in rw (ten, width, p, width, lt-ltb (u * 10 + d) 100 (omega arith))
    go false true c p q r =
        let h = ltb-false u 10 p in
        let h' = ltb-true u 100 q in
        rw (ten, width, p, width, le-ltb (u * 10 + d) 100 (omega arith), lt-ltb (u * 10 + d) 1000 (omega arith), q)
    go false false true p q r =
        let h = ltb-false u 100 q in
        let h' = ltb-true u 1000 r in
        rw (ten, width, p, width, le-ltb (u * 10 + d) 100 (omega arith), le-ltb (u * 10 + d) 1000 (omega arith), lt-ltb (u * 10 + d) 10000 (omega arith), q, r)
    go false false false p q r =
        let h = ltb-false u 1000 r in
        let t : ltb u 10000 ≡ true = lt-ltb u 10000 (omega arith) in
        rw (ten, width, p, width, le-ltb (u * 10 + d) 100 (omega arith), le-ltb (u * 10 + d) 1000 (omega arith), le-ltb (u * 10 + d) 10000 (omega arith), q, r, t)

digits_more : (u d : ℕ) → 1 ≤ u → d < 10 → u * 10 + d ≤ 65535 → digits (u * 10 + d) ≡ digits u ++ ((48 + d) ∷ [])
unfolding digits last_digits
digits_more u d low small fits =
    let less : (u * 10 + d) / 10 ≡ u = omega arith in
    let last : (u * 10 + d) % 10 ≡ d = omega arith in
    rw (width_more u d low small fits, last_digits, less, last)

pub digits_one : (d : ℕ) → d < 10 → digits d ≡ (48 + d) ∷ []
unfolding digits last_digits width
digits_one d small = let same : d % 10 ≡ d = omega arith in rw (lt-ltb d 10 small, width, last_digits, same)

-- the digits are what std prints
pub digits_decimal : (v : ℕ) → v ≤ 65535 → digits v ≡ decimal v
digits_decimal v fits = decimal_by_steps (λ v ds. v ≤ 65535 → digits v ≡ ds) (λ v small fits. digits_one v small) more v (omega arith) fits
  where
    more : (v : ℕ) (ds : List ℕ) → 10 ≤ v → (v / 10 ≤ 65535 → digits (v / 10) ≡ ds) → v ≤ 65535 → digits v ≡ ds ++ ((48 + v % 10) ∷ [])
    more v ds ten front fits =
        let whole : v / 10 * 10 + v % 10 ≡ v = omega arith in
        ap digits (sym whole) ∙ digits_more (v / 10) (v % 10) (omega arith) (omega arith) (omega arith)
        ∙ ap (λ s. s ++ ((48 + v % 10) ∷ [])) (front (omega arith))

-- ---- Reading

digit : (b : ℕ) → 48 ≤ b → b ≤ 57 → is_digit b ≡ true
unfolding is_digit
digit b low high = rw (le-leb 48 b low, le-leb b 57 high)

pub digit_bounds : (b : ℕ) → is_digit b ≡ true → (48 ≤ b) × (b ≤ 57)
unfolding is_digit
digit_bounds b h = go (leb 48 b) (leb b 57) refl refl h
  where
    go : (p q : Bool) → leb 48 b ≡ p → leb b 57 ≡ q → (p && q) ≡ true → (48 ≤ b) × (b ≤ 57)
    go true true e f g = (leb-true 48 b e, leb-true b 57 f)
    go true false e f g = let z : ◌≡◌ {A = ℕ} 0 1 = cc in absurd (omega arith)
    go false q e f g = let z : ◌≡◌ {A = ℕ} 0 1 = cc in absurd (omega arith)

further_digit : (u d : ℕ) (s : List ℕ) → d < 10 → u * 10 + d ≤ 65535 → further u ((48 + d) ∷ s) ≡ further (u * 10 + d) s
unfolding further
further_digit u d s small fits =
    let same : 48 + d - 48 ≡ d = omega arith in
    rw (digit (48 + d) (omega arith) (omega arith), further, same, le-leb (u * 10 + d) 65535 fits, same)

-- the first digit is not 0
reads_on : (v : ℕ) → 1 ≤ v → v ≤ 65535 → (s : List ℕ) → number_at (digits v ++ s) ≡ further v s
unfolding number_at
reads_on v low fits s =
    ap (λ ds. number_at (ds ++ s)) (digits_decimal v fits)
    ∙ decimal_by_steps (λ v ds. 1 ≤ v → v ≤ 65535 → (s : List ℕ) → number_at (ds ++ s) ≡ further v s) one more v (omega arith) low fits s
  where
    one : (v : ℕ) → v < 10 → 1 ≤ v → v ≤ 65535 → (s : List ℕ) → number_at ((48 + v) ∷ s) ≡ further v s
    one v small low fits s =
        let same : 48 + v - 48 ≡ v = omega arith in
        rw (digit (48 + v) (omega arith) (omega arith), number_at, ne_eqb (48 + v) 48 (omega arith), same)

    more : (v : ℕ) (ds : List ℕ) → 10 ≤ v → (1 ≤ v / 10 → v / 10 ≤ 65535 → (s : List ℕ) → number_at (ds ++ s) ≡ further (v / 10) s)
        → 1 ≤ v → v ≤ 65535 → (s : List ℕ) → number_at ((ds ++ ((48 + v % 10) ∷ [])) ++ s) ≡ further v s
    more v ds ten shorter low fits s =
        let whole : v / 10 * 10 + v % 10 ≡ v = omega arith in
        ap number_at (append_assoc ds ((48 + v % 10) ∷ []) s) ∙ shorter (omega arith) (omega arith) ((48 + v % 10) ∷ s)
        ∙ further_digit (v / 10) (v % 10) s (omega arith) (omega arith) ∙ ap (λ w. further w s) whole

-- no digit stands first
abbrev pub Ends : List ℕ → Type 0
Ends [] = Unit
Ends (b ∷ s) = is_digit b ≡ false

pub further_ends : (v : ℕ) (s : List ℕ) → Ends s → further v s ≡ number v s
unfolding further
further_ends v [] h = refl
further_ends v (b ∷ s) h = rw (h, further)

pub number_digits : (v : ℕ) (s : List ℕ) → v ≤ 65535 → Ends s → number_at (digits v ++ s) ≡ number v s
unfolding digits
number_digits zero s fits h = unfold number_at is_digit last_digits width in refl
number_digits (suc u) s fits h = reads_on (suc u) (omega arith) fits s ∙ further_ends (suc u) s h

-- ---- Nothing else reads as a number

-- the line is the digits of the number, and then the rest
abbrev pub Spells : List ℕ → Number → Type 0
Spells line missing = Unit
Spells line (number v rest) = (line ≡ digits v ++ rest) × (v ≤ 65535)

further_spells : (u : ℕ) (s : List ℕ) → 1 ≤ u → u ≤ 65535 → Spells (digits u ++ s) (further u s)
unfolding further
further_spells u [] low high = (refl, high)
further_spells u (b ∷ s) low high =
    go (is_digit b) (leb (u * 10 + (b - 48)) 65535) refl refl (λ fits. further_spells (u * 10 + (b - 48)) s (omega arith) fits)
  where
    go : (p q : Bool) → is_digit b ≡ p → leb (u * 10 + (b - 48)) 65535 ≡ q
        → (u * 10 + (b - 48) ≤ 65535 → Spells (digits (u * 10 + (b - 48)) ++ s) (further (u * 10 + (b - 48)) s))
        → Spells (digits u ++ b ∷ s)
        (elim p [
          | false ↦ number u (b ∷ s)
          | true ↦ elim q [ true ↦ further (u * 10 + (b - 48)) s | false ↦ missing ]
        ])
    go false q e f next = (refl, high)
    go true false e f next = tt
    go true true e f next =
        let bounds = digit_bounds b e in
        let fits = leb-true (u * 10 + (b - 48)) 65535 f in
        let same : 48 + (b - 48) ≡ b = omega arith in
        let longer : digits u ++ b ∷ s ≡ digits (u * 10 + (b - 48)) ++ s =
        rw (digits_more u (b - 48) low (omega arith) fits, append_assoc, same) in
        rw longer (next fits)

pub spells : (line : List ℕ) → Spells line (number_at line)
unfolding number_at
spells [] = tt
spells (b ∷ s) = go (is_digit b) (eqb b 48) refl refl
  where
    go : (p q : Bool) → is_digit b ≡ p → eqb b 48 ≡ q
        → Spells (b ∷ s) (elim p [ false ↦ missing | true ↦ elim q [ true ↦ number 0 s | false ↦ further (b - 48) s ] ])
    go false q e f = tt
    go true true e f = (rw (eqb-true b 48 f, digits_one 0 (omega arith)), omega arith)
    go true false e f =
        let bounds = digit_bounds b e in
        let other = eqb-false b 48 f in
        let same : 48 + (b - 48) ≡ b = omega arith in
        let one : digits (b - 48) ++ s ≡ b ∷ s = rw (digits_one (b - 48) (omega arith), same) in
        rw (← one) (further_spells (b - 48) s (omega arith) (omega arith))

-- ---- A line from a place on

module _ (line : List ℕ) (at : ℕ) where
  module _ (inside : at < length line) where
    pub drop_next : drop at line ≡ get_or line at 0 ∷ drop (at + 1) line
    drop_next = rw add-one (drop-cons line at 0 inside)

    pub ends_here : is_digit (get_or line at 0) ≡ false → Ends (drop at line)
    ends_here h = rw drop_next h

    module _ (v : ℕ) {d : ℕ} (same : d ≡ get_or line at 0 - 48) (h : is_digit (get_or line at 0) ≡ true) where
      pub further_on : v * 10 + d ≤ 65535 → further v (drop at line) ≡ further (v * 10 + d) (drop (at + 1) line)
      unfolding further
      further_on fits =
          let small = rw same at fits in
          rw (same, drop_next, h, further, le-leb (v * 10 + (get_or line at 0 - 48)) 65535 small)

      pub further_above : 65535 < v * 10 + d → further v (drop at line) ≡ missing
      unfolding further
      further_above above =
          let large = rw same at above in
          rw (drop_next, h, further, lt-leb (v * 10 + (get_or line at 0 - 48)) 65535 large)

    pub none_here : is_digit (get_or line at 0) ≡ false → number_at (drop at line) ≡ missing
    unfolding number_at
    none_here h = rw (drop_next, h, number_at)

    pub zero_here : get_or line at 0 ≡ 48 → number_at (drop at line) ≡ number 0 (drop (at + 1) line)
    unfolding number_at is_digit
    zero_here e = rw (drop_next, e)

    pub number_here : is_digit (get_or line at 0) ≡ true → (get_or line at 0 ≡ 48 → ⊥)
        → {d : ℕ} → d ≡ get_or line at 0 - 48 → number_at (drop at line) ≡ further d (drop (at + 1) line)
    unfolding number_at
    number_here h other same = rw (same, drop_next, h, number_at, ne_eqb (get_or line at 0) 48 other)

  pub none_past : length line ≤ at → number_at (drop at line) ≡ missing
  unfolding number_at
  none_past h = rw (drop_of_length-le line h)

  -- the digits go on to the end of the line
  pub read_out : (v : ℕ) → length line ≤ at → number v (drop (length line) line) ≡ further v (drop at line)
  read_out v h =
      let none : drop (length line) line ≡ [] = drop_of_length-le line (omega arith) in
      let past : drop at line ≡ [] = drop_of_length-le line h in
      rw (none, past) (unfold further in refl)
