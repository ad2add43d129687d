-- The laws of `on`, `holds` and `bit`, for what adds kinds to a set or takes them out.
--     on_or, on_and, on_without       bits added to a word; those of two words; bits taken out of one
--     and_one                         a word's lowest bit, as code reads it
--     holds_low, holds_high           a kind's bit, in the low word and in the high one
--     gains_low, gains_high           bits are added to a set's low word, or to its high one
--     loses_low, loses_high           .. are taken out of it
--     with_low, with_high             one kind is added
--     without_low, without_high       .. is taken out
--     gains_all, shared_all           those of another set are added; those that both have
--     holds_row, row_set              a row as a set; a set in place of a row
--     added_row, removed_row          a row that gains, or loses, in its relation
--     row_same, row_other             a row that was replaced, and the others
-- Assumes nothing.
use mathlib.Core.Path.{◌≡◌, refl, sym, ap, ◌∙◌}
use mathlib.Core.Logic.{◌≢◌, by_cases}
use mathlib.Core.Bool.{Bool, true, false, ◌&&◌, ◌||◌, not, xor, or-false, and-true}
use Prim.Native.Nat.{ℕ, zero, suc, ◌+◌, ◌-◌, ◌*◌, ◌/◌, ◌%◌, ◌^◌, ◌<◌, ◌≤◌, max, min}
use native.Mathlib.Nat.{mul-add-mod_self_right, mul-mod_left, mod-eq_of_lt, div-eq_of_lt, div_self, pow-suc, one-mul}
use native.Mathlib.Decide.{dec_lt}
use native.Mathlib.Omega.{arith}
use borrow.Author.Tests.{eq-eqb, ne_eqb, eqb-true, eqb-false, lt-ltb, le-ltb, ltb-true, ltb-false}
use lib.Dec.{eqb, ltb}
use lib.ListN.{set, length}
use Rattle.std.specs.Prelude.{if◌then◌else◌}
use lib.Seq.{get_or-set_same, get_or-set_other}
use lib.Bits.{bit_and, bit_or, bit_xor, differ, or_step, or_shr, and_step, and_shr, xor_step, xor_shr, and_mask}
use lib.Pow.{pow_pos, pow-lt, pow-add, shl-shr}
use Rattle.relation.specs.declared.KindSet.{KindSet}
use Rattle.relation.specs.declared.Relation.{Relation}
use Rattle.relation.specs.Bit.{on, holds, bit, none_of, row_of, Gains, Loses, Shared, Added, Removed, RowSet}
use Rattle.relation.proofs.Bools.{same_test}

-- ---- one word

by_digits : (P : ℕ → ℕ → Type 0) → P 0 0 → P 0 1 → P 1 0 → P 1 1 → (x y : ℕ) → x < 2 → y < 2 → P x y
by_digits P a b c d zero zero hx hy = a
by_digits P a b c d zero (suc zero) hx hy = b
by_digits P a b c d (suc zero) zero hx hy = c
by_digits P a b c d (suc zero) (suc zero) hx hy = d
by_digits P a b c d zero (suc (suc y)) hx hy = absurd (omega arith)
by_digits P a b c d (suc zero) (suc (suc y)) hx hy = absurd (omega arith)
by_digits P a b c d (suc (suc x)) y hx hy = absurd (omega arith)

-- an operation that goes by f on each two digits goes by g on each two bits
module _ (op f : ℕ → ℕ → ℕ) (g : Bool → Bool → Bool) (step : (a b : ℕ) → op a b ≡ op (a / 2) (b / 2) * 2 + f (a % 2) (b % 2))
    (shr : (a b k : ℕ) → op a b / 2 ^ k ≡ op (a / 2 ^ k) (b / 2 ^ k))
    (digit : (x y : ℕ) → x < 2 → y < 2 → (f x y < 2) × (eqb (f x y) 1 ≡ g (eqb x 1) (eqb y 1))) where
  odd_op : (a b : ℕ) → op a b % 2 ≡ f (a % 2) (b % 2)
  odd_op a b =
      ap (λ (x : ℕ). x % 2) (step a b) ∙ mul-add-mod_self_right (op (a / 2) (b / 2)) 2 (f (a % 2) (b % 2))
      ∙ mod-eq_of_lt (digit (a % 2) (b % 2) (omega arith) (omega arith)).0

  on_op : (a b k : ℕ) → on (op a b) k ≡ g (on a k) (on b k)
  unfolding on
  on_op a b k =
      ap (λ (x : ℕ). eqb (x % 2) 1) (shr a b k) ∙ ap (λ (x : ℕ). eqb x 1) (odd_op (a / 2 ^ k) (b / 2 ^ k))
      ∙ (digit (a / 2 ^ k % 2) (b / 2 ^ k % 2) (omega arith) (omega arith)).1

pub on_or : (a b k : ℕ) → on (bit_or a b) k ≡ (on a k || on b k)
on_or =
    on_op bit_or max ◌||◌ or_step or_shr
    (by_digits (λ x y. (max x y < 2) × (eqb (max x y) 1 ≡ (eqb x 1 || eqb y 1)))
    (omega arith, refl) (omega arith, refl) (omega arith, refl) (omega arith, refl))

pub on_and : (a b k : ℕ) → on (bit_and a b) k ≡ (on a k && on b k)
on_and =
    on_op bit_and min ◌&&◌ and_step and_shr
    (by_digits (λ x y. (min x y < 2) × (eqb (min x y) 1 ≡ (eqb x 1 && eqb y 1)))
    (omega arith, refl) (omega arith, refl) (omega arith, refl) (omega arith, refl))

on_xor : (a b k : ℕ) → on (bit_xor a b) k ≡ xor (on a k) (on b k)
unfolding xor
on_xor =
    on_op bit_xor differ xor xor_step xor_shr
    (by_digits (λ x y. (differ x y < 2) × (eqb (differ x y) 1 ≡ xor (eqb x 1) (eqb y 1)))
    (omega arith, refl) (omega arith, refl) (omega arith, refl) (omega arith, refl))

or_xor : (s t : Bool) → xor (s || t) t ≡ (s && not t)
unfolding xor
or_xor true true = refl
or_xor true false = refl
or_xor false true = refl
or_xor false false = refl

-- a without b's bits: they are added first, so each is there to be turned
abbrev pub without : ℕ → ℕ → ℕ
without a b = bit_xor (bit_or a b) b

pub on_without : (a b k : ℕ) → on (without a b) k ≡ (on a k && not (on b k))
on_without a b k = on_xor (bit_or a b) b k ∙ ap (λ (t : Bool). xor t (on b k)) (on_or a b k) ∙ or_xor (on a k) (on b k)

power_at : (k : ℕ) → on (2 ^ k) k ≡ true
unfolding on
power_at k = ap (λ (x : ℕ). eqb (x % 2) 1) (div_self (pow_pos k))

power_above : (m k : ℕ) → on (2 ^ (suc m + k)) k ≡ false
unfolding on
power_above m k =
    ap (λ (x : ℕ). eqb (x % 2) 1) (ap (λ (x : ℕ). x / 2 ^ k) (pow-add 2 (suc m) k) ∙ shl-shr (2 ^ suc m) k ∙ pow-suc 2 m)
    ∙ ap (λ (x : ℕ). eqb x 1) (mul-mod_left (2 ^ m) 2)

power_below : {j k : ℕ} → j < k → on (2 ^ j) k ≡ false
unfolding on
power_below h = ap (λ (x : ℕ). eqb (x % 2) 1) (div-eq_of_lt (pow-lt h))

pub on_power : (j k : ℕ) → on (2 ^ j) k ≡ eqb k j
on_power j k = go (eqb k j) refl (ltb k j) refl
  where
    go : (t : Bool) → eqb k j ≡ t → (less : Bool) → ltb k j ≡ less → on (2 ^ j) k ≡ t
    go true e less l = ap (λ (x : ℕ). on (2 ^ x) k) (sym (eqb-true k j e)) ∙ power_at k
    go false e true l =
        let h : k < j = ltb-true k j l in
        let m : j ≡ suc (j - suc k) + k = omega arith in
        ap (λ (x : ℕ). on (2 ^ x) k) m ∙ power_above (j - suc k) k
    go false e false l =
        let h : j ≤ k = ltb-false k j l in
        let n : k ≢ j = eqb-false k j e in
        power_below (omega arith)

pub and_one : (x : ℕ) → bit_and x 1 ≡ x % 2
and_one x = and_mask x 1

-- ---- the two words of a set

module _ (s : KindSet) where
  pub holds_low : (q : ℕ) → q < 64 → holds s q ≡ on s.low q
  unfolding holds
  holds_low q h = let place : q % 64 ≡ q = omega arith in rw (lt-ltb q 64 h, place) refl

  pub holds_high : (q : ℕ) → 64 ≤ q → q < 128 → holds s q ≡ on s.high (q - 64)
  unfolding holds
  holds_high q h l = let place : q % 64 ≡ q - 64 = omega arith in rw (le-ltb q 64 h, place) refl

-- a word that goes by g on each of its bits and of those of v, in a set that goes by g on each of its kinds and of those of f
module _ (g : Bool → Bool → Bool) (keep : (b : Bool) → g b false ≡ b) (s : KindSet) (v w : ℕ) (f : ℕ → Bool) where
  low_by : ((k : ℕ) → on w k ≡ g (on s.low k) (on v k)) → ((q : ℕ) → q < 64 → on v q ≡ f q) → ((q : ℕ) → 64 ≤ q → q < 128 → f q ≡ false)
      → (q : ℕ) → q < 128 → holds (record { low = w; high = s.high }) q ≡ g (holds s q) (f q)
  low_by word here off q h = by_cases (dec_lt q 64)
      (λ low. holds_low (record { low = w; high = s.high }) q low ∙ word q ∙ ap (g (on s.low q)) (here q low) ∙ ap (λ (t : Bool). g t (f q)) (sym (holds_low s q low)))
      (λ high.
      let l : 64 ≤ q = omega arith in
      holds_high (record { low = w; high = s.high }) q l h ∙ sym (holds_high s q l h) ∙ sym (keep (holds s q)) ∙ ap (g (holds s q)) (sym (off q l h)))

  high_by : ((k : ℕ) → on w k ≡ g (on s.high k) (on v k)) → ((q : ℕ) → 64 ≤ q → q < 128 → on v (q - 64) ≡ f q) → ((q : ℕ) → q < 64 → f q ≡ false)
      → (q : ℕ) → q < 128 → holds (record { low = s.low; high = w }) q ≡ g (holds s q) (f q)
  high_by word here off q h = by_cases (dec_lt q 64)
      (λ low. holds_low (record { low = s.low; high = w }) q low ∙ sym (holds_low s q low) ∙ sym (keep (holds s q)) ∙ ap (g (holds s q)) (sym (off q low)))
      (λ high.
      let l : 64 ≤ q = omega arith in
      holds_high (record { low = s.low; high = w }) q l h ∙ word (q - 64) ∙ ap (g (on s.high (q - 64))) (here q l h) ∙ ap (λ (t : Bool). g t (f q)) (sym (holds_high s q l h)))

module _ (s : KindSet) (v : ℕ) (f : ℕ → Bool) where
  pub gains_low : ((q : ℕ) → q < 64 → on v q ≡ f q) → ((q : ℕ) → 64 ≤ q → q < 128 → f q ≡ false) → Gains s (record { low = bit_or s.low v; high = s.high }) f
  gains_low here off = record { each = low_by ◌||◌ or-false s v _ f (on_or s.low v) here off }

  pub gains_high : ((q : ℕ) → 64 ≤ q → q < 128 → on v (q - 64) ≡ f q) → ((q : ℕ) → q < 64 → f q ≡ false) → Gains s (record { low = s.low; high = bit_or s.high v }) f
  gains_high here off = record { each = high_by ◌||◌ or-false s v _ f (on_or s.high v) here off }

  pub loses_low : ((q : ℕ) → q < 64 → on v q ≡ f q) → ((q : ℕ) → 64 ≤ q → q < 128 → f q ≡ false) → Loses s (record { low = without s.low v; high = s.high }) f
  loses_low here off = record { each = low_by (λ a b. a && not b) and-true s v _ f (on_without s.low v) here off }

  pub loses_high : ((q : ℕ) → 64 ≤ q → q < 128 → on v (q - 64) ≡ f q) → ((q : ℕ) → q < 64 → f q ≡ false) → Loses s (record { low = s.low; high = without s.high v }) f
  loses_high here off = record { each = high_by (λ a b. a && not b) and-true s v _ f (on_without s.high v) here off }

-- ---- one kind

one_bit : (k : ℕ) → k < 64 → (1 * 2 ^ k) % 2 ^ 64 ≡ 2 ^ k
one_bit k h = ap (λ (x : ℕ). x % 2 ^ 64) (one-mul (2 ^ k)) ∙ mod-eq_of_lt (pow-lt h)

-- the bit that code makes of a kind
abbrev pub one_of : ℕ → ℕ
one_of kind = (1 * 2 ^ (kind % 64)) % 2 ^ 64

on_one : (kind k : ℕ) → on (one_of kind) k ≡ eqb k (kind % 64)
on_one kind k = ap (λ (x : ℕ). on x k) (one_bit (kind % 64) (omega arith)) ∙ on_power (kind % 64) k

module _ (s : KindSet) (kind : ℕ) where
  low_here : kind < 64 → (q : ℕ) → q < 64 → on (one_of kind) q ≡ eqb q kind
  low_here l q h = on_one kind q ∙ ap (eqb q) (omega arith)

  low_off : kind < 64 → (q : ℕ) → 64 ≤ q → q < 128 → eqb q kind ≡ false
  low_off l q h _ = ne_eqb q kind (λ e. omega arith)

  high_here : 64 ≤ kind → kind < 128 → (q : ℕ) → 64 ≤ q → q < 128 → on (one_of kind) (q - 64) ≡ eqb q kind
  high_here l m q h _ = on_one kind (q - 64) ∙ same_test (q - 64) (kind % 64) q kind (λ e. omega arith) (λ e. omega arith)

  high_off : 64 ≤ kind → (q : ℕ) → q < 64 → eqb q kind ≡ false
  high_off l q h = ne_eqb q kind (λ e. omega arith)

  pub with_low : kind < 64 → Gains s (record { low = bit_or s.low (one_of kind); high = s.high }) (λ q. eqb q kind)
  with_low l = gains_low s (one_of kind) (λ q. eqb q kind) (low_here l) (low_off l)

  pub with_high : 64 ≤ kind → kind < 128 → Gains s (record { low = s.low; high = bit_or s.high (one_of kind) }) (λ q. eqb q kind)
  with_high l h = gains_high s (one_of kind) (λ q. eqb q kind) (high_here l h) (high_off l)

  pub without_low : kind < 64 → Loses s (record { low = without s.low (one_of kind); high = s.high }) (λ q. eqb q kind)
  without_low l = loses_low s (one_of kind) (λ q. eqb q kind) (low_here l) (low_off l)

  pub without_high : 64 ≤ kind → kind < 128 → Loses s (record { low = s.low; high = without s.high (one_of kind) }) (λ q. eqb q kind)
  without_high l h = loses_high s (one_of kind) (λ q. eqb q kind) (high_here l h) (high_off l)

-- ---- two sets

pub gains_all : (s t : KindSet) → Gains s (record { low = bit_or s.low t.low; high = bit_or s.high t.high }) (holds t)
gains_all s t = record {
  each = λ q h. by_cases (dec_lt q 64)
      (λ low. holds_low _ q low ∙ on_or s.low t.low q ∙ rw (holds_low s q low, holds_low t q low) refl)
      (λ high.
      let l : 64 ≤ q = omega arith in
      holds_high _ q l h ∙ on_or s.high t.high (q - 64) ∙ rw (holds_high s q l h, holds_high t q l h) refl);
}

pub shared_all : (s t : KindSet) → Shared s t (record { low = bit_and s.low t.low; high = bit_and s.high t.high })
shared_all s t = record {
  each = λ q h. by_cases (dec_lt q 64)
      (λ low. holds_low _ q low ∙ on_and s.low t.low q ∙ rw (holds_low s q low, holds_low t q low) refl)
      (λ high.
      let l : 64 ≤ q = omega arith in
      holds_high _ q l h ∙ on_and s.high t.high (q - 64) ∙ rw (holds_high s q l h, holds_high t q l h) refl);
}

-- ---- a row in its relation

-- a set that is read as a row has the row's kinds
pub holds_row : (r : Relation) (c q : ℕ) → holds (row_of r c) q ≡ bit r c q
unfolding bit
holds_row r c q = refl

module _ (r : Relation) (c : ℕ) (l : c < length r.rows) (s : KindSet) where
  bit_by : (g : Bool → Bool → Bool) (keep : (b : Bool) → g b false ≡ b) (f : ℕ → Bool) → ((q : ℕ) → q < 128 → holds s q ≡ g (holds (row_of r c) q) (f q))
      → (d q : ℕ) → q < 128 → bit (record { rows = set r.rows c s }) d q ≡ g (bit r d q) (eqb d c && f q)
  unfolding bit
  bit_by g keep f row d q h = go (eqb d c) refl
    where
      go : (t : Bool) → eqb d c ≡ t → bit (record { rows = set r.rows c s }) d q ≡ g (bit r d q) (t && f q)
      go true e = rw (eqb-true d c e, get_or-set_same r.rows c s none_of l) (row q h)
      go false e = rw (get_or-set_other r.rows c d s none_of (eqb-false d c e)) (sym (keep (bit r d q)))

  pub row_set : RowSet c s r (record { rows = set r.rows c s })
  unfolding bit
  row_set = record { bits = λ d q. go d q (eqb d c) refl }
    where
      go : (d q : ℕ) (t : Bool) → eqb d c ≡ t → bit (record { rows = set r.rows c s }) d q ≡ (if t then holds s q else bit r d q)
      go d q true e = rw (eqb-true d c e, get_or-set_same r.rows c s none_of l) refl
      go d q false e = rw (get_or-set_other r.rows c d s none_of (eqb-false d c e)) refl

  pub added_row : {f : ℕ → Bool} → Gains (row_of r c) s f → Added r (record { rows = set r.rows c s }) (λ d q. eqb d c && f q)
  added_row {f} gains = record { bits = bit_by ◌||◌ or-false f gains.each }

  pub removed_row : {f : ℕ → Bool} → Loses (row_of r c) s f → Removed r (record { rows = set r.rows c s }) (λ d q. eqb d c && f q)
  removed_row {f} loses = record { bits = bit_by (λ a b. a && not b) and-true f loses.each }

-- what a replaced row has, and the others
module _ {c : ℕ} {row : KindSet} {old new : Relation} (s : RowSet c row old new) where
  pub row_same : (q : ℕ) → bit new c q ≡ holds row q
  row_same q = s.bits c q ∙ rw (eq-eqb c c refl) refl

  pub row_other : (d q : ℕ) → d ≢ c → bit new d q ≡ bit old d q
  row_other d q ne = s.bits d q ∙ rw (ne_eqb d c ne) refl
