-- Kinds taken out of a set, the first of it each time.
--     take_low, take_high, take_none    the first kind, in the low word, in the high one, and where there is none; and the set without it
--     Rest                              what is left of a row: its kinds from p on
--     rest_set, rest_row                all of it, of a set and of a row
--     rest_some, rest_none              the first that is left is the first from p on; none is left
--     rest_more                         it is taken out
--     fewer_left                        fewer kinds are left
-- Assumes nothing.
use mathlib.Core.Path.{◌≡◌, refl, sym, ap, ◌∙◌}
use mathlib.Core.Logic.{by_cases}
use mathlib.Core.Bool.{Bool, true, false, ◌&&◌, not, and-true, and-false, and-eq-true_iff}
use Prim.Native.Nat.{ℕ, ◌+◌, ◌-◌, ◌^◌, ◌<◌, ◌≤◌, zero-le}
use native.Mathlib.Decide.{dec_lt}
use native.Mathlib.Omega.{arith}
use borrow.Author.Tests.{eq-eqb, ne_eqb, le-leb, lt-leb, leb-true}
use lib.Bits.{bit_and}
use lib.Count.{count_trailing_zeros}
use lib.Dec.{eqb, leb}
use Rattle.inheritance.specs.Above.{count}
use Rattle.inheritance.proofs.AboveLaws.{count_lt}
use Rattle.relation.specs.declared.KindSet.{KindSet}
use Rattle.relation.specs.declared.Relation.{Relation}
use Rattle.relation.specs.Bit.{on, holds, bit, row_of, Loses}
use Rattle.relation.specs.First.{First}
use Rattle.relation.proofs.BitLaws.{holds_low, holds_high, holds_row}
use Rattle.relation.proofs.Bools.{same_test}
use Rattle.relation.proofs.Lowest.{zeros_lt, lowest_off}
use Rattle.relation.proofs.Walking.{zeros_first, set_low, set_both}
use Rattle.relation.proofs.Zeros.{on_zero}

module _ (s : KindSet) where
  abbrev zeros : ℕ → ℕ
  zeros w = count_trailing_zeros 64 w

  no_low : s.low ≡ 0 → First (on s.low) 0 64 64
  no_low e = record { low = zero-le; high = omega arith; none = λ q a b. ap (λ (w : ℕ). on w q) e ∙ on_zero q; found = λ less. absurd (omega arith) }

  module _ (fits : s.low < 2 ^ 64) (some : 0 < s.low) where
    pub first_low : First (holds s) 0 128 (zeros s.low)
    first_low = set_low s (zeros_first s.low) (zeros_lt 64 s.low fits some)

    pub take_low : Loses s (record { low = bit_and s.low (s.low - 1); high = s.high }) (λ q. eqb q (zeros s.low))
    take_low = record {
      each = λ q h. by_cases (dec_lt q 64)
          (λ low. holds_low _ q low ∙ lowest_off s.low q fits some ∙ ap (λ (t : Bool). t && not (eqb q (zeros s.low))) (sym (holds_low s q low)))
          (λ high.
          let l : 64 ≤ q = omega arith in
          holds_high _ q l h ∙ sym (holds_high s q l h) ∙ sym (rw (ne_eqb q (zeros s.low) (λ e. omega (arith, zeros_lt 64 s.low fits some))) (and-true (holds s q))));
    }

  module _ (fits : s.high < 2 ^ 64) (none : s.low ≡ 0) (some : 0 < s.high) where
    pub first_high : First (holds s) 0 128 (64 + zeros s.high)
    first_high = set_both s (omega arith) (no_low none) (omega arith) (zeros_first s.high)

    pub take_high : Loses s (record { low = s.low; high = bit_and s.high (s.high - 1) }) (λ q. eqb q (64 + zeros s.high))
    take_high = record {
      each = λ q h. by_cases (dec_lt q 64)
          (λ low. holds_low _ q low ∙ sym (holds_low s q low) ∙ sym (rw (ne_eqb q (64 + zeros s.high) (λ e. omega arith)) (and-true (holds s q))))
          (λ high.
          let l : 64 ≤ q = omega arith in
          holds_high _ q l h ∙ lowest_off s.high (q - 64) fits some
          ∙ ap (λ (t : Bool). t && not (eqb (q - 64) (zeros s.high))) (sym (holds_high s q l h))
          ∙ ap (λ (t : Bool). holds s q && not t) (same_test (q - 64) (zeros s.high) q (64 + zeros s.high) (λ e. omega arith) (λ e. omega arith)));
    }

  pub take_none : (end : ℕ) → end ≤ 128 → s.low ≡ 0 → s.high ≡ 0 → First (holds s) 0 end end
  take_none end within low high = record {
    low = zero-le;
    high = omega arith;
    none = λ q a b. by_cases (dec_lt q 64)
        (λ less. holds_low s q less ∙ ap (λ (w : ℕ). on w q) low ∙ on_zero q)
        (λ more. holds_high s q (omega arith) (omega arith) ∙ ap (λ (w : ℕ). on w (q - 64)) high ∙ on_zero (q - 64));
    found = λ less. absurd (omega arith);
  }

-- ---- what is left of a row

pub record Rest (f : ℕ → Bool) (p : ℕ) (rest : KindSet) : Type 0 where
  pub each : (q : ℕ) → q < 128 → holds rest q ≡ (leb p q && f q)

pub rest_set : (s : KindSet) → Rest (holds s) 0 s
rest_set s = record { each = λ q h. sym (rw (le-leb 0 q zero-le) refl) }

pub rest_row : (r : Relation) (c : ℕ) {s : KindSet} → s ≡ row_of r c → Rest (bit r c) 0 s
rest_row r c {s} e = record { each = λ q h. ap (λ (x : KindSet). holds x q) e ∙ holds_row r c q ∙ sym (rw (le-leb 0 q zero-le) refl) }

module _ {f : ℕ → Bool} {p end : ℕ} {s : KindSet} (within : end ≤ 128) (r : Rest f p s) where
  left_from : {q : ℕ} → First (holds s) 0 end q → q ≤ end → (x : ℕ) → p ≤ x → x < q → f x ≡ false
  left_from t h x a b = sym (rw (le-leb p x a) at (r.each x (omega arith))) ∙ t.none x zero-le b

  pub rest_some : {q : ℕ} → First (holds s) 0 end q → q < end → First f p end q
  rest_some {q} t h =
      let both = (and-eq-true_iff (leb p q) (f q)).0 (sym (r.each q (omega arith)) ∙ t.found h) in
      record { low = leb-true p q both.0; high = t.high; none = left_from t t.high; found = λ _. both.1 }

  pub rest_none : p ≤ end → First (holds s) 0 end end → First f p end end
  rest_none h t = record { low = h; high = t.high; none = left_from t t.high; found = λ less. absurd (omega arith) }

  pub rest_more : {q : ℕ} {new : KindSet} → First f p end q → Loses s new (λ x. eqb x q) → Rest f (q + 1) new
  rest_more {q} {new} t g = record {
    each = λ x h. g.each x h ∙ ap (λ (b : Bool). b && not (eqb x q)) (r.each x h) ∙ by_cases (dec_lt x p)
        (λ before. rw (lt-leb p x before, lt-leb (q + 1) x (omega (arith, t.low))) refl)
        (λ after. by_cases (dec_lt x q)
        (λ less. rw (t.none x (omega arith) less) (simp and-false))
        (λ more. by_cases (dec_lt q x)
        (λ past. rw (le-leb p x (omega arith), le-leb (q + 1) x (omega arith), ne_eqb x q (λ e. omega arith)) (and-true (f x)))
        (λ not_past. rw (eq-eqb x q (omega arith), lt-leb (q + 1) x (omega arith)) (and-false (leb p x && f x)))));
  }

abbrev pub left : KindSet → ℕ
left s = count (holds s) 128

pub fewer_left : {p : ℕ} {old new : KindSet} → p < 128 → holds old p ≡ true → Loses old new (λ q. eqb q p) → left new < left old
fewer_left {p} {old} {new} h is g =
    count_lt (holds new) (holds old) 128 (λ d l e. ((and-eq-true_iff (holds old d) (not (eqb d p))).0 (sym (g.each d l) ∙ e)).0) p h
    (g.each p h ∙ rw (eq-eqb p p refl) (and-false (holds old p))) is
