-- Sets with no kind.
--     on_zero        the number 0 has no bit
--     holds_none     the empty set has no kind
--     blank_empty    a relation of empty sets is blank
-- Assumes nothing.
use mathlib.Core.Path.{◌≡◌, refl, ap, ◌∙◌}
use mathlib.Core.Bool.{Bool, true, false}
use Rattle.std.specs.Prelude.{if◌then◌else◌}
use Prim.Native.Nat.{ℕ, zero, suc, ◌%◌, ◌^◌}
use native.Mathlib.Nat.{zero-div}
use lib.Dec.{eqb, ltb}
use lib.ListN.{get_or, replicate}
use Rattle.relation.specs.declared.KindSet.{KindSet}
use Rattle.relation.specs.Bit.{bit, holds, on, none_of, Blank}

pub on_zero : (k : ℕ) → on 0 k ≡ false
unfolding on
on_zero k = ap (λ (x : ℕ). eqb (x % 2) 1) (zero-div (2 ^ k))

pub holds_none : (p : ℕ) → holds none_of p ≡ false
unfolding holds
holds_none p = go (ltb p 64)
  where
    go : (t : Bool) → on (if t then 0 else 0) (p % 64) ≡ false
    go true = on_zero (p % 64)
    go false = on_zero (p % 64)

get_empty : (k c : ℕ) → get_or (replicate k none_of) c none_of ≡ none_of
get_empty zero c = refl
get_empty (suc k) zero = refl
get_empty (suc k) (suc c) = get_empty k c

-- k is not written as 128, so that `replicate k none_of` stays as it is
pub blank_empty : (k : ℕ) → Blank (record { rows = replicate k none_of })
unfolding bit
blank_empty k = record { none = λ c p. ap (λ (s : KindSet). holds s p) (get_empty k c) ∙ holds_none p }
