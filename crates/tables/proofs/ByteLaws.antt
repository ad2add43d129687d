-- Numbers that bytes spell: `joined b s` joins the neighbours of s.
--     joined_length   half as many, where s has an even length
--     joined_within   a place of the numbers has both its bytes
--     joined_at       the number at place i is made of the two at 2 * i and 2 * i + 1
--     spelled16, spelled32    the bytes of numbers, the lowest first, spell these numbers
-- Assumes nothing.
use mathlib.Core.Path.{◌≡◌, refl, ap, ap₂, ◌∙◌}
use mathlib.Core.List.{List, [], ◌∷◌}
use Prim.Native.Nat.{ℕ, zero, suc, ◌+◌, ◌*◌, ◌<◌}
use native.Mathlib.Nat.{mod-add-div}
use native.Mathlib.Omega.{arith}
use lib.ListN.{length, get_or}
use Rattle.tables.specs.Controller.{joined, split, words16, words32, bytes16, bytes32}

pub joined_length : (b : ℕ) (s : List ℕ) (k : ℕ) → length s ≡ 2 * k → length (joined b s) ≡ k
unfolding joined
joined_length b [] k e = omega arith
joined_length b (x ∷ []) k e = omega arith
joined_length b (x ∷ y ∷ s) zero e = omega arith
joined_length b (x ∷ y ∷ s) (suc k) e = ap suc (joined_length b s k (omega arith))

pub joined_within : (b : ℕ) (s : List ℕ) (i : ℕ) → i < length (joined b s) → 2 * i + 1 < length s
unfolding joined
joined_within b [] i h = omega arith
joined_within b (x ∷ []) i h = omega arith
joined_within b (x ∷ y ∷ s) zero h = omega arith
joined_within b (x ∷ y ∷ s) (suc i) h = omega (arith, joined_within b s i (omega arith))

pub joined_at : (b : ℕ) (s : List ℕ) (i : ℕ) → 2 * i + 1 < length s → get_or (joined b s) i 0 ≡ get_or s (2 * i) 0 + b * get_or s (2 * i + 1) 0
unfolding joined
joined_at b [] i h = omega arith
joined_at b (x ∷ []) i h = omega arith
joined_at b (x ∷ y ∷ s) zero h = refl
joined_at b (x ∷ y ∷ s) (suc i) h =
    let odd : 2 * suc i + 1 ≡ suc (suc (2 * i + 1)) = omega arith in
    let even : 2 * suc i ≡ suc (suc (2 * i)) = omega arith in
    rw (odd, even) (joined_at b s i (omega arith))

-- ---- there and back

pub split_joined : (b : ℕ) (s : List ℕ) → joined b (split b s) ≡ s
unfolding joined split
split_joined b [] = refl
split_joined b (x ∷ s) = ap₂ (λ (y : ℕ) (rest : List ℕ). y ∷ rest) (mod-add-div x b) (split_joined b s)

pub spelled16 : (s : List ℕ) → words16 (bytes16 s) ≡ s
spelled16 s = split_joined 256 s

pub spelled32 : (s : List ℕ) → words32 (bytes32 s) ≡ s
spelled32 s = ap (joined 65536) (split_joined 256 (split 65536 s)) ∙ split_joined 65536 s
