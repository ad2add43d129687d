-- A set within another, as code tests it: what each word has besides the other's bits is no bit.
--     word_none      a word without bits is 0
--     none_outside, all_within    what is outside is 0 exactly if each bit is one of the other's
--     words_within, low_within, high_within    a set is within another exactly if each of its words is
-- Assumes nothing.
use mathlib.Core.Path.{◌≡◌, refl, sym, ap, ◌∙◌}
use mathlib.Core.Logic.{by_cases}
use mathlib.Core.Bool.{Bool, true, false, ◌&&◌, not, false≢true}
use Prim.Native.Nat.{ℕ, ◌+◌, ◌-◌, ◌^◌, ◌<◌, ◌≤◌}
use native.Mathlib.Decide.{dec_lt}
use native.Mathlib.Omega.{arith}
use lib.Count.{count_trailing_zeros}
use Rattle.relation.specs.declared.KindSet.{KindSet}
use Rattle.relation.specs.Bit.{on, holds, WithinWord, Within}
use Rattle.relation.proofs.BitLaws.{on_without, without, holds_low, holds_high}
use Rattle.relation.proofs.Lowest.{zeros_lt}
use Rattle.relation.proofs.Walking.{zeros_first}
use Rattle.relation.proofs.Zeros.{on_zero}

word_none : (w : ℕ) → w < 2 ^ 64 → ((k : ℕ) → k < 64 → on w k ≡ false) → w ≡ 0
word_none w h none = by_cases (dec_lt 0 w)
    (λ some.
    let less = zeros_lt 64 w h some in
    absurd (false≢true (sym (none (count_trailing_zeros 64 w) less) ∙ (zeros_first w).found less)))
    (λ zero. omega arith)

inside : (s t : Bool) → (s && not t) ≡ false → s ≡ true → t ≡ true
inside true true e h = refl
inside true false e h = absurd (false≢true (sym e))
inside false t e h = absurd (false≢true h)

outside : (s t : Bool) → (s ≡ true → t ≡ true) → (s && not t) ≡ false
outside true t h = rw (h refl) refl
outside false t h = refl

module _ (w other : ℕ) where
  pub none_outside : without w other ≡ 0 → WithinWord w other
  none_outside e k h = inside (on w k) (on other k) (sym (on_without w other k) ∙ ap (λ (x : ℕ). on x k) e ∙ on_zero k)

  pub all_within : without w other < 2 ^ 64 → WithinWord w other → without w other ≡ 0
  all_within fits within = word_none (without w other) fits (λ k h. on_without w other k ∙ outside (on w k) (on other k) (within k h))

module _ (s t : KindSet) where
  pub words_within : WithinWord s.low t.low → WithinWord s.high t.high → Within s t
  words_within low high q h is = by_cases (dec_lt q 64)
      (λ l. holds_low t q l ∙ low q l (sym (holds_low s q l) ∙ is))
      (λ m.
      let l : 64 ≤ q = omega arith in
      holds_high t q l h ∙ high (q - 64) (omega arith) (sym (holds_high s q l h) ∙ is))

  pub low_within : Within s t → WithinWord s.low t.low
  low_within within k h is = sym (holds_low t k h) ∙ within k (omega arith) (holds_low s k h ∙ is)

  pub high_within : Within s t → WithinWord s.high t.high
  high_within within k h is = sym (there t) ∙ within (64 + k) (omega arith) (there s ∙ is)
    where
      there : (x : KindSet) → holds x (64 + k) ≡ on x.high k
      there x = let place : 64 + k - 64 ≡ k = omega arith in holds_high x (64 + k) (omega arith) (omega arith) ∙ ap (on x.high) place
