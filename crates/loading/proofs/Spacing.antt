-- Bytes of 0 and 1 taken by shifts: eight bits apart in a number, then side by side, then a word of a row.
--     flags_part, tested_row     some of the bytes; those of row c
--     spaced_one, spaced_join    one byte; those of two numbers
--     folded                     eight bytes side by side
--     word_none, word_more       no byte yet; eight more
--     filled_words               row c with its words
-- Assumes nothing.
use mathlib.Core.Path.{◌≡◌, refl, sym, ap, ap₂, ◌∙◌}
use mathlib.Core.Logic.{by_cases}
use mathlib.Core.Bool.{Bool, true, false, ◌&&◌, ◌||◌, or-false, and-false, and-true}
use mathlib.Core.List.{List}
use Prim.Native.Nat.{ℕ, zero, suc, ◌+◌, ◌-◌, ◌*◌, ◌/◌, ◌%◌, ◌^◌, ◌<◌, ◌≤◌, min, zero-le}
use native.Mathlib.Nat.{lt_of_lt_of_le, le_refl}
use native.Mathlib.Decide.{dec_lt}
use native.Mathlib.Omega.{arith}
use borrow.Author.Tests.{ne_eqb, eqb-true, eqb-false, lt-ltb, le-ltb, le-leb, lt-leb}
use lib.Bits.{bit_and, bit_or, or_lt, and_le_r}
use lib.Dec.{eqb, ltb, leb}
use lib.ListN.{get_or}
use lib.Pow.{pow_mono, shl_lt, shl_exact}
use Rattle.relation.specs.declared.KindSet.{KindSet}
use Rattle.relation.specs.declared.Relation.{Relation}
use Rattle.relation.specs.Bit.{on, holds, bit, Octet, RowSet}
use Rattle.loading.specs.Loaded.{link, one_at, Filled, Flag, Flags, Tested, Spaced, Word, rows_before, before}
use Rattle.relation.proofs.BitLaws.{on_or, on_and, on_power, holds_low, holds_high, row_same, row_other}
use Rattle.relation.proofs.Zeros.{on_zero}
use Rattle.loading.proofs.Filling.{row_within}
use Rattle.relation.proofs.Octets.{on_shl, on_small}
use Rattle.relation.proofs.Walking.{on_shifted}

pub flags_part : (links : List ℕ) (i k a b : ℕ) → Flags links i k → a + b ≤ k → Flags links (i + a) b
flags_part links i k a b f h j l = let e : i + a + j ≡ i + (a + j) = omega arith in rw e (f (a + j) (omega arith))

pub tested_row : (links : List ℕ) (n c : ℕ) → Tested n links → c < n → Flags links (c * n) n
tested_row links n c f h j l = f (c * n + j) (omega (arith, row_within n c (le_refl (n * n)) h))

-- ---- eight bits apart

on_flag : (b j : ℕ) → Flag b → on b j ≡ (eqb j 0 && eqb b 1)
on_flag zero j h = on_zero j ∙ sym (and-false (eqb j 0))
on_flag (suc zero) j h = on_power 0 j ∙ sym (and-true (eqb j 0))
on_flag (suc (suc b)) j h = absurd (omega arith)

pub spaced_one : (links : List ℕ) (i : ℕ) → Flag (get_or links i 0) → Spaced links i 1 (get_or links i 0)
spaced_one links i h = record {
  small = omega arith;
  at = λ j. on_flag (get_or links i 0) j h ∙ by_cases (dec_lt j 8)
      (λ less.
      let place : i + j / 8 ≡ i = omega arith in
      let low : j % 8 ≡ j = omega arith in
      sym (rw (lt-ltb j 8 less, place, low) refl))
      (λ more. sym (rw (le-ltb j 8 (omega arith), ne_eqb j 0 (omega arith)) refl));
}

pub spaced_join : (links : List ℕ) (i k a b : ℕ) → k ≤ 4 → Spaced links i k a → Spaced links (i + k) k b
    → Spaced links i (k + k) (bit_or a ((b * 2 ^ (8 * k)) % 2 ^ 64))
spaced_join links i k a b h s t = rw (shl_exact (8 * k) (8 * k) 64 t.small (omega arith)) record {
  small = let wide : 8 * (k + k) ≡ 8 * k + 8 * k = omega arith in
      rw wide (or_lt (8 * k + 8 * k) a (b * 2 ^ (8 * k)) (lt_of_lt_of_le s.small (pow_mono (omega arith))) (shl_lt (8 * k) (8 * k) t.small));
  at = λ j. on_or a (b * 2 ^ (8 * k)) j ∙ rw (s.at j, on_shl b (8 * k) j, t.at (j - 8 * k)) (here j);
}
  where
    here : (j : ℕ)
        → ((ltb j (8 * k) && (eqb (j % 8) 0 && eqb (get_or links (i + j / 8) 0) 1))
        || (leb (8 * k) j && (ltb (j - 8 * k) (8 * k) && (eqb ((j - 8 * k) % 8) 0 && eqb (get_or links (i + k + (j - 8 * k) / 8) 0) 1))))
        ≡ (ltb j (8 * (k + k)) && (eqb (j % 8) 0 && eqb (get_or links (i + j / 8) 0) 1))
    here j = by_cases (dec_lt j (8 * k))
        (λ less. rw (lt-ltb j (8 * k) less, lt-leb (8 * k) j less, lt-ltb j (8 * (k + k)) (omega arith)) (or-false _))
        (λ more. by_cases (dec_lt j (8 * (k + k)))
        (λ inside.
        let digit : (j - 8 * k) % 8 ≡ j % 8 = omega arith in
        let place : i + k + (j - 8 * k) / 8 ≡ i + j / 8 = omega arith in
        rw (le-ltb j (8 * k) (omega arith), le-leb (8 * k) j (omega arith), lt-ltb (j - 8 * k) (8 * k) (omega arith), lt-ltb j (8 * (k + k)) inside, digit, place) refl)
        (λ past. rw (le-ltb j (8 * k) (omega arith), le-leb (8 * k) j (omega arith), le-ltb (j - 8 * k) (8 * k) (omega arith), le-ltb j (8 * (k + k)) (omega arith)) refl))

-- ---- side by side

or_two : (b : Bool) → ((b || false) || false) ≡ b
or_two true = refl
or_two false = refl

or_three : (b : Bool) → (((b || false) || false) || false) ≡ b
or_three true = refl
or_three false = refl

or_shr : (w s j : ℕ) → on (bit_or w (w / 2 ^ s)) j ≡ (on w j || on w (s + j))
or_shr w s j = on_or w (w / 2 ^ s) j ∙ ap (λ (t : Bool). on w j || t) (on_shifted w s j)

module _ (a : ℕ) (f : ℕ → Bool) (at : (j : ℕ) → on a j ≡ (ltb j 64 && (eqb (j % 8) 0 && f (j / 8)))) where
  abbrev two : ℕ
  two = bit_or a (a / 2 ^ 7)

  abbrev four : ℕ
  four = bit_or two (two / 2 ^ 14)

  abbrev eight : ℕ
  eight = bit_or four (four / 2 ^ 28)

  on_two : (j : ℕ) → on two j ≡ ((ltb j 64 && (eqb (j % 8) 0 && f (j / 8))) || (ltb (7 + j) 64 && (eqb ((7 + j) % 8) 0 && f ((7 + j) / 8))))
  on_two j = or_shr a 7 j ∙ ap₂ (λ (s t : Bool). s || t) (at j) (at (7 + j))

  on_four : (j : ℕ) → on four j ≡ (on two j || on two (14 + j))
  on_four j = or_shr two 14 j

  on_eight : (j : ℕ) → on eight j ≡ ((on two j || on two (14 + j)) || (on two (28 + j) || on two (14 + (28 + j))))
  on_eight j = or_shr four 28 j ∙ ap₂ (λ (s t : Bool). s || t) (on_four j) (on_four (28 + j))

  bits : (j : ℕ) → j < 8 → on eight j ≡ f j
  bits zero h = on_eight 0 ∙ rw (on_two 0, on_two 14, on_two 28, on_two 42) (or_three (f 0))
  bits (suc zero) h = on_eight 1 ∙ rw (on_two 1, on_two 15, on_two 29, on_two 43) (or_two (f 1))
  bits (suc (suc zero)) h = on_eight 2 ∙ rw (on_two 2, on_two 16, on_two 30, on_two 44) (or_two (f 2))
  bits (suc (suc (suc zero))) h = on_eight 3 ∙ rw (on_two 3, on_two 17, on_two 31, on_two 45) (or-false (f 3))
  bits (suc (suc (suc (suc zero)))) h = on_eight 4 ∙ rw (on_two 4, on_two 18, on_two 32, on_two 46) (or_two (f 4))
  bits (suc (suc (suc (suc (suc zero))))) h = on_eight 5 ∙ rw (on_two 5, on_two 19, on_two 33, on_two 47) (or-false (f 5))
  bits (suc (suc (suc (suc (suc (suc zero)))))) h = on_eight 6 ∙ rw (on_two 6, on_two 20, on_two 34, on_two 48) (or-false (f 6))
  bits (suc (suc (suc (suc (suc (suc (suc zero))))))) h = on_eight 7 ∙ rw (on_two 7, on_two 21, on_two 35, on_two 49) refl
  bits (suc (suc (suc (suc (suc (suc (suc (suc j)))))))) h = absurd (omega arith)

  on_255 : (j : ℕ) → j < 8 → on 255 j ≡ true
  unfolding on
  on_255 zero h = refl
  on_255 (suc zero) h = refl
  on_255 (suc (suc zero)) h = refl
  on_255 (suc (suc (suc zero))) h = refl
  on_255 (suc (suc (suc (suc zero)))) h = refl
  on_255 (suc (suc (suc (suc (suc zero))))) h = refl
  on_255 (suc (suc (suc (suc (suc (suc zero)))))) h = refl
  on_255 (suc (suc (suc (suc (suc (suc (suc zero))))))) h = refl
  on_255 (suc (suc (suc (suc (suc (suc (suc (suc j)))))))) h = absurd (omega arith)

  on_folded : (j : ℕ) → on (bit_and eight 255) j ≡ (ltb j 8 && f j)
  on_folded j = on_and eight 255 j ∙ by_cases (dec_lt j 8)
      (λ less. rw (on_255 j less, lt-ltb j 8 less, and-true) (bits j less))
      (λ more. rw (on_small 255 j (omega arith) (omega arith), le-ltb j 8 (omega arith)) (and-false (on eight j)))

pub folded : (links : List ℕ) (i a : ℕ) → Spaced links i 8 a
    → let two = bit_or a (a / 2 ^ 7) in
    let four = bit_or two (two / 2 ^ 14) in
    Octet (one_at links i) 8 (bit_and (bit_or four (four / 2 ^ 28)) 255)
folded links i a s = record {
  small = omega (arith, and_le_r (eight a (one_at links i) s.at) 255);
  at = on_folded a (one_at links i) s.at;
}

-- ---- a word

pub word_none : (links : List ℕ) (i : ℕ) → Word links i 0 0
word_none links i = record { at = λ j. on_zero j ∙ sym (rw (le-ltb j 0 zero-le) refl) }

pub word_more : (links : List ℕ) (i q w bits : ℕ) → q < 8 → Word links i (8 * q) w → Octet (one_at links (i + 8 * q)) 8 bits
    → Word links i (8 * (q + 1)) (bit_or w ((bits * 2 ^ (8 * q)) % 2 ^ 64))
word_more links i q w bits h s o = rw (shl_exact 8 (8 * q) 64 o.small (omega arith)) record {
  at = λ j. on_or w (bits * 2 ^ (8 * q)) j ∙ rw (s.at j, on_shl bits (8 * q) j, o.at (j - 8 * q)) (here j);
}
  where
    here : (j : ℕ)
        → ((ltb j (8 * q) && eqb (get_or links (i + j) 0) 1) || (leb (8 * q) j && (ltb (j - 8 * q) 8 && eqb (get_or links (i + 8 * q + (j - 8 * q)) 0) 1)))
        ≡ (ltb j (8 * (q + 1)) && eqb (get_or links (i + j) 0) 1)
    here j = by_cases (dec_lt j (8 * q))
        (λ less. rw (lt-ltb j (8 * q) less, lt-leb (8 * q) j less, lt-ltb j (8 * (q + 1)) (omega arith)) (or-false _))
        (λ more. by_cases (dec_lt j (8 * (q + 1)))
        (λ inside.
        let place : i + 8 * q + (j - 8 * q) ≡ i + j = omega arith in
        rw (le-ltb j (8 * q) (omega arith), le-leb (8 * q) j (omega arith), lt-ltb (j - 8 * q) 8 (omega arith), lt-ltb j (8 * (q + 1)) inside, place) refl)
        (λ past. rw (le-ltb j (8 * q) (omega arith), le-leb (8 * q) j (omega arith), le-ltb (j - 8 * q) 8 (omega arith), le-ltb j (8 * (q + 1)) (omega arith)) refl))

-- ---- the words of a row

module _ (n c low : ℕ) (links : List ℕ) (row : KindSet) (rows next : Relation) (most : n ≤ 128) (hc : c < n) (hl : low ≡ min (n / 8) 8)
    (s : Word links (c * n) (8 * low) row.low) (t : Word links (c * n + 8 * low) (8 * (n / 8 - low)) row.high)
    (r : RowSet c row rows next) (f : Filled (rows_before c) n links rows) where
  own : (q : ℕ) → q < 128 → bit next c q ≡ (ltb q (n / 8 * 8) && eqb (get_or links (c * n + q) 0) 1)
  own q h = row_same r q ∙ by_cases (dec_lt q 64) low_word high_word
    where
      low_word : q < 64 → holds row q ≡ (ltb q (n / 8 * 8) && eqb (get_or links (c * n + q) 0) 1)
      low_word less =
          holds_low row q less ∙ s.at q ∙ by_cases (dec_lt q (n / 8 * 8))
          (λ inside. rw (lt-ltb q (8 * low) (omega arith), lt-ltb q (n / 8 * 8) inside) refl)
          (λ past. rw (le-ltb q (8 * low) (omega arith), le-ltb q (n / 8 * 8) (omega arith)) refl)

      high_word : (q < 64 → ⊥) → holds row q ≡ (ltb q (n / 8 * 8) && eqb (get_or links (c * n + q) 0) 1)
      high_word more =
          holds_high row q (omega arith) h ∙ t.at (q - 64) ∙ by_cases (dec_lt q (n / 8 * 8))
          (λ inside.
          let place : c * n + 8 * low + (q - 64) ≡ c * n + q = omega arith in
          rw (lt-ltb (q - 64) (8 * (n / 8 - low)) (omega arith), lt-ltb q (n / 8 * 8) inside, place) refl)
          (λ past. rw (le-ltb (q - 64) (8 * (n / 8 - low)) (omega arith), le-ltb q (n / 8 * 8) (omega arith)) refl)

  linked : (q : ℕ) → (ltb q (n / 8 * 8) && eqb (get_or links (c * n + q) 0) 1) ≡ (ltb q (n / 8 * 8) && link n links c q)
  unfolding link
  linked q = by_cases (dec_lt q (n / 8 * 8))
      (λ inside. rw (lt-ltb c n hc, lt-ltb q n (omega arith)) refl)
      (λ past. rw (le-ltb q (n / 8 * 8) (omega arith)) refl)

  pub filled_words : Filled (before c (n / 8 * 8)) n links next
  filled_words = record { bits = λ d q h. go d q h (eqb d c) refl }
    where
      go : (d q : ℕ) → q < 128 → (t : Bool) → eqb d c ≡ t → bit next d q ≡ ((ltb d c || (t && ltb q (n / 8 * 8))) && link n links d q)
      go d q h true e = let same = eqb-true d c e in rw (same, le-ltb c c (le_refl c)) (own q h ∙ linked q)
      go d q h false e = row_other r d q (eqb-false d c e) ∙ f.bits d q h ∙ ap (λ (x : Bool). x && link n links d q) (sym (or-false (ltb d c)))
