-- The set of all kinds.
--     on_ones      a word whose last m bits are 1
--     holds_all    a set of two such words has every kind
-- Assumes nothing.
use mathlib.Core.Path.{◌≡◌, sym, ap, ◌∙◌}
use mathlib.Core.Bool.{true}
use mathlib.Core.Logic.{by_cases}
use Prim.Native.Nat.{ℕ, zero, suc, ◌-◌, ◌^◌, ◌<◌}
use native.Mathlib.Nat.{pow-suc}
use native.Mathlib.Decide.{dec_lt}
use native.Mathlib.Omega.{arith}
use lib.Pow.{pow_pos}
use Rattle.relation.specs.declared.KindSet.{KindSet}
use Rattle.relation.specs.Bit.{on, holds}
use Rattle.relation.proofs.BitLaws.{holds_low, holds_high}
use Rattle.relation.proofs.Walking.{on_half, on_lowest}

pub on_ones : (m k : ℕ) → k < m → on (2 ^ m - 1) k ≡ true
on_ones zero k h = absurd (omega arith)
on_ones (suc m) zero h = on_lowest (2 ^ suc m - 1) 1 (omega (arith, pow-suc 2 m, pow_pos m))
on_ones (suc m) (suc k) h =
    sym (on_half (2 ^ suc m - 1) k) ∙ ap (λ (w : ℕ). on w k) (omega (arith, pow-suc 2 m, pow_pos m)) ∙ on_ones m k (omega arith)

abbrev pub all_of : KindSet
all_of = record { low = 18446744073709551615; high = 18446744073709551615 }

pub holds_all : (p : ℕ) → p < 128 → holds all_of p ≡ true
holds_all p h = by_cases (dec_lt p 64)
    (λ low. holds_low all_of p low ∙ on_ones 64 p low)
    (λ high. holds_high all_of p (omega arith) h ∙ on_ones 64 (p - 64) (omega arith))
