-- The lowest bit of a word.
--     zeros_lt       a word that is not 0 has one
--     lowest_off     the word without it
-- Assumes nothing.
use mathlib.Core.Path.{◌≡◌, refl, sym, ◌∙◌}
use mathlib.Core.Bool.{Bool, true, false, ◌&&◌, not}
use Prim.Native.Nat.{ℕ, zero, suc, ◌-◌, ◌/◌, ◌%◌, ◌^◌, ◌<◌}
use native.Mathlib.Nat.{pow-suc}
use native.Mathlib.Omega.{arith}
use borrow.Author.Tests.{ne_eqb}
use lib.Bits.{bit_and}
use lib.Count.{count_trailing_zeros, under}
use lib.Dec.{eqb}
use Rattle.relation.specs.Bit.{on}
use Rattle.relation.proofs.Bools.{same_test}
use Rattle.relation.proofs.BitLaws.{on_and}
use Rattle.relation.proofs.Walking.{on_half, on_lowest}

pub zeros_lt : (k w : ℕ) → w < 2 ^ k → 0 < w → count_trailing_zeros k w < k
unfolding count_trailing_zeros
zeros_lt zero w h l = absurd (omega arith)
zeros_lt (suc k) w h l = go (w % 2) refl (zeros_lt k (w / 2) (omega (arith, pow-suc 2 k)))
  where
    go : (d : ℕ) → w % 2 ≡ d → (0 < w / 2 → count_trailing_zeros k (w / 2) < k) → under d (count_trailing_zeros k (w / 2)) < suc k
    go zero e rest = let less = rest (omega arith) in omega arith
    go (suc d) e rest = omega arith

twice : (b : Bool) → (b && b) ≡ (b && true)
twice true = refl
twice false = refl

-- one less turns the lowest bit off, and leaves what is above it
on_less : (k w j : ℕ) → w < 2 ^ k → 0 < w → (on w j && on (w - 1) j) ≡ (on w j && not (eqb j (count_trailing_zeros k w)))
unfolding count_trailing_zeros
on_less zero w j h l = absurd (omega arith)
on_less (suc k) w zero h l = go (w % 2) refl
  where
    go : (d : ℕ) → w % 2 ≡ d → (on w 0 && on (w - 1) 0) ≡ (on w 0 && not (eqb 0 (under d (count_trailing_zeros k (w / 2)))))
    go zero e = rw (on_lowest w 0 e) refl
    go (suc zero) e = rw (on_lowest w 1 e, on_lowest (w - 1) 0 (omega arith)) refl
    go (suc (suc d)) e = absurd (omega arith)
on_less (suc k) w (suc j) h l = go (w % 2) refl (on_less k (w / 2) j (omega (arith, pow-suc 2 k)))
  where
    go : (d : ℕ) → w % 2 ≡ d → (0 < w / 2 → (on (w / 2) j && on (w / 2 - 1) j) ≡ (on (w / 2) j && not (eqb j (count_trailing_zeros k (w / 2)))))
        → (on w (suc j) && on (w - 1) (suc j)) ≡ (on w (suc j) && not (eqb (suc j) (under d (count_trailing_zeros k (w / 2)))))
    go zero e rest =
        let half : (w - 1) / 2 ≡ w / 2 - 1 = omega arith in
        let same : eqb (suc j) (suc (count_trailing_zeros k (w / 2))) ≡ eqb j (count_trailing_zeros k (w / 2)) = same_test (suc j) (suc (count_trailing_zeros k (w / 2))) j (count_trailing_zeros k (w / 2)) (λ e. omega arith) (λ e. omega arith) in
        rw (sym (on_half w j), sym (on_half (w - 1) j), half, same) (rest (omega arith))
    go (suc d) e rest =
        let half : (w - 1) / 2 ≡ w / 2 = omega arith in
        rw (sym (on_half w j), sym (on_half (w - 1) j), half, ne_eqb (suc j) 0 (λ e. omega arith)) (twice (on (w / 2) j))

pub lowest_off : (w k : ℕ) → w < 2 ^ 64 → 0 < w → on (bit_and w (w - 1)) k ≡ (on w k && not (eqb k (count_trailing_zeros 64 w)))
lowest_off w k h l = on_and w (w - 1) k ∙ on_less 64 w k h l
