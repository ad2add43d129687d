-- What `load` leaves: the links of a book of n kinds, given as n × n bytes, the byte at place child × n + parent.
--     link       kind p is a direct parent of kind c: both are kinds, and the byte is 1
--     Loaded     the rows have the links and nothing else
--     Filled     .. at the places that were gone through: rows_before, those of the rows before c; before, .. and of row c, those before p
-- Where bytes are known to be 0 or 1, they are taken by shifts:
--     Flag       a byte is 0 or 1
--     Flags      .. each of the k bytes at i
--     Tested     .. each that `load` reads
--     Spaced     the first k bytes at i as one number, eight bits apart
--     Word       the first k bytes at i as bits
-- Assumes nothing.
use Rattle.std.specs.Prelude.{◌≡◌, Bool, ◌&&◌, ◌||◌, List, ℕ, ◌+◌, ◌*◌, ◌/◌, ◌%◌, ◌^◌, ◌<◌, ◌≤◌, eqb, ltb, get_or}
use Rattle.relation.specs.declared.Relation.{Relation}
use Rattle.relation.specs.Bit.{on, bit}

unfoldable pub link : ℕ → List ℕ → ℕ → ℕ → Bool
link n links c p = ltb c n && (ltb p n && eqb (get_or links (c * n + p) 0) 1)

pub record Loaded (n : ℕ) (links : List ℕ) (rows : Relation) : Type 0 where
  pub bits : (c p : ℕ) → p < 128 → bit rows c p ≡ link n links c p

pub record Filled (gone : ℕ → ℕ → Bool) (n : ℕ) (links : List ℕ) (rows : Relation) : Type 0 where
  pub bits : (d q : ℕ) → q < 128 → bit rows d q ≡ (gone d q && link n links d q)

abbrev pub rows_before : ℕ → ℕ → ℕ → Bool
rows_before c d q = ltb d c

abbrev pub before : ℕ → ℕ → ℕ → ℕ → Bool
before c p d q = ltb d c || (eqb d c && ltb q p)

-- the byte at i + j is 1
abbrev pub one_at : List ℕ → ℕ → ℕ → Bool
one_at links i j = eqb (get_or links (i + j) 0) 1

abbrev pub Flag : ℕ → Type 0
Flag b = b ≤ 1

abbrev pub Flags : List ℕ → ℕ → ℕ → Type 0
Flags links i k = (j : ℕ) → j < k → Flag (get_or links (i + j) 0)

abbrev pub Tested : ℕ → List ℕ → Type 0
Tested n links = (i : ℕ) → i < n * n → Flag (get_or links i 0)

pub record Spaced (links : List ℕ) (i k a : ℕ) : Type 0 where
  pub small : a < 2 ^ (8 * k)
  pub at : (j : ℕ) → on a j ≡ (ltb j (8 * k) && (eqb (j % 8) 0 && eqb (get_or links (i + j / 8) 0) 1))

pub record Word (links : List ℕ) (i k w : ℕ) : Type 0 where
  pub at : (j : ℕ) → on w j ≡ (ltb j k && eqb (get_or links (i + j) 0) 1)
