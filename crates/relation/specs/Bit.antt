-- A set of kinds below 128 in two words, and a relation over these kinds: a set for each, its row.
--     holds     kind p is in the set: bit p of its low word, or bit p - 64 of its high one
--     bit       kind p is in row c
--     Blank     no kind is in any row
--     Octet     the first k of eight tests as the bits of a number
--     Gains     what a function did that only adds kinds to a set
--     Loses     .. that only takes kinds out of it
--     Shared    the kinds of a set are those that two others both have
--     Within    a set has every kind of another
--     Added     what a function did that only adds kinds to rows
--     Removed   .. that only takes kinds out of rows
--     RowSet    .. that only replaces a row by a set
-- Assumes nothing.
use Rattle.std.specs.Prelude.{◌≡◌, Bool, true, false, ◌&&◌, ◌||◌, not, ℕ, ◌/◌, ◌%◌, ◌^◌, ◌<◌, eqb, ltb, get_or, if◌then◌else◌}
use Rattle.relation.specs.declared.KindSet.{KindSet}
use Rattle.relation.specs.declared.Relation.{Relation}

-- bit k of the word w
unfoldable pub on : ℕ → ℕ → Bool
on w k = eqb (w / 2 ^ k % 2) 1

abbrev pub none_of : KindSet
none_of = record { low = 0; high = 0 }

-- the word that has a place for kind p
abbrev pub word_of : KindSet → ℕ → ℕ
word_of s p = if ltb p 64 then s.low else s.high

unfoldable pub holds : KindSet → ℕ → Bool
holds s p = on (word_of s p) (p % 64)

abbrev pub row_of : Relation → ℕ → KindSet
row_of r c = get_or r.rows c none_of

unfoldable pub bit : Relation → ℕ → ℕ → Bool
bit r c p = holds (row_of r c) p

pub record Blank (r : Relation) : Type 0 where
  pub none : (c p : ℕ) → bit r c p ≡ false

pub record Octet (f : ℕ → Bool) (k bits : ℕ) : Type 0 where
  pub small : bits < 256
  pub at : (j : ℕ) → on bits j ≡ (ltb j k && f j)

-- the kinds of `more` are there besides those that were
pub record Gains (old new : KindSet) (more : ℕ → Bool) : Type 0 where
  pub each : (q : ℕ) → q < 128 → holds new q ≡ (holds old q || more q)

-- the kinds of `less` are gone from those that were
pub record Loses (old new : KindSet) (less : ℕ → Bool) : Type 0 where
  pub each : (q : ℕ) → q < 128 → holds new q ≡ (holds old q && not (less q))

pub record Shared (s t new : KindSet) : Type 0 where
  pub each : (q : ℕ) → q < 128 → holds new q ≡ (holds s q && holds t q)

-- the word t has every bit of the word s
abbrev pub WithinWord : ℕ → ℕ → Type 0
WithinWord s t = (k : ℕ) → k < 64 → on s k ≡ true → on t k ≡ true

abbrev pub Within : KindSet → KindSet → Type 0
Within s t = (q : ℕ) → q < 128 → holds s q ≡ true → holds t q ≡ true

pub record Added (old new : Relation) (more : ℕ → ℕ → Bool) : Type 0 where
  pub bits : (d q : ℕ) → q < 128 → bit new d q ≡ (bit old d q || more d q)

pub record Removed (old new : Relation) (less : ℕ → ℕ → Bool) : Type 0 where
  pub bits : (d q : ℕ) → q < 128 → bit new d q ≡ (bit old d q && not (less d q))

pub record RowSet (c : ℕ) (row : KindSet) (old new : Relation) : Type 0 where
  pub bits : (d q : ℕ) → bit new d q ≡ (if eqb d c then holds row q else bit old d q)
