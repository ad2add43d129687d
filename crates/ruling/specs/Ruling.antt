-- The rule kinds of each mark, by their places in the order of the kinds.
--     Ruled                row j of `ruled` has the places of the rule kinds of mark j
--     Standing             the kinds at the places below n have their places in the rules
--     Octets               the rule kinds at the eight places from i on as bits, for each mark below k
-- Assumes nothing.
use Rattle.std.specs.Prelude.{◌≡◌, ◌&&◌, List, ℕ, ◌+◌, ◌*◌, ◌<◌, ◌≤◌, ltb, length, get_or}
use Rattle.relation.specs.declared.Relation.{Relation}
use Rattle.relation.specs.Bit.{bit, Octet}
use Rattle.tables.specs.Tables.{own_of}

pub record Ruled (n m : ℕ) (rules order : List ℕ) (ruled : Relation) : Type 0 where
  pub bits : (j i : ℕ) → i < 128 → bit ruled j i ≡ (ltb i n && (ltb j m && own_of m rules j (get_or order i 0)))

abbrev pub Standing : (m : ℕ) (rules order : List ℕ) (n : ℕ) → Type 0
Standing m rules order n = (i : ℕ) → i < n → (get_or order i 0 < 128) × (get_or order i 0 * m + m ≤ length rules)

pub record Octets (k m : ℕ) (rules order : List ℕ) (i : ℕ) (bits : List ℕ) : Type 0 where
  pub long : length bits ≡ 64
  pub each : (j : ℕ) → j < k → Octet (λ p. own_of m rules j (get_or order (i + p) 0)) 8 (get_or bits j 0)
