-- The walk: what `spread` asks and ensures, and what `touched` ensures.
--     under, stop     the kinds that the walk goes on to from a kind, and the stops, as tests over what the code reads
--     Visited, Unvisited   a set says of each kind whether it is visited
--     unvisited       how many kinds are not visited: the measure of the walk
--     Ready           what a walk from k asks
--     Grown, Walked   what a walk from k did to the set: v before, w after
--     Touched         the kinds visited are those below e
-- Assumes nothing: these are definitions.
use Rattle.std.specs.Prelude.{◌≡◌, Bool, true, false, not, ℕ, ◌<◌, ◌≤◌}
use Rattle.inheritance.specs.Above.{count}
use Rattle.inheritance.specs.Lookup.{Below}
use Rattle.relation.specs.declared.KindSet.{KindSet}
use Rattle.relation.specs.declared.Relation.{Relation}
use Rattle.relation.specs.Bit.{bit, holds}

-- the walk goes on from k to c: row k has c
abbrev pub under : Relation → ℕ → ℕ → Bool
under onward c k = bit onward k c

-- the walk does not come to c
abbrev pub stop : KindSet → ℕ → Bool
stop stops c = holds stops c

abbrev pub Visited : KindSet → ℕ → Type 0
Visited v j = holds v j ≡ true

abbrev pub Unvisited : KindSet → ℕ → Type 0
Unvisited v j = holds v j ≡ false

abbrev pub unvisited : ℕ → KindSet → ℕ
unvisited n v = count (λ j. not (holds v j)) n

pub record Ready (n k : ℕ) (v : KindSet) : Type 0 where
  pub kind_in : k < n
  pub room : n ≤ 128
  pub fresh : Unvisited v k

-- from v to w only kinds below k came to be visited, and with each of them those onward from it that are no stop
pub record Grown (n : ℕ) (up : ℕ → ℕ → Bool) (own : ℕ → Bool) (k : ℕ) (v w : KindSet) : Type 0 where
  pub kept : (j : ℕ) → j < 128 → Visited v j → Visited w j
  pub below : (j : ℕ) → j < n → Visited w j → Unvisited v j → Below n up own k j
  pub closed : (p c : ℕ) → p < n → c < n → Visited w p → Unvisited v p → up c p ≡ true → own c ≡ false → Visited w c

pub record Walked (n : ℕ) (up : ℕ → ℕ → Bool) (own : ℕ → Bool) (k : ℕ) (v w : KindSet) : Type 0 where
  pub grown : Grown n up own k v w
  pub first : Visited w k

pub record Touched (n : ℕ) (up : ℕ → ℕ → Bool) (own : ℕ → Bool) (e : ℕ) (w : KindSet) : Type 0 where
  pub sound : (j : ℕ) → j < n → Visited w j → Below n up own e j
  pub complete : (j : ℕ) → j < n → Below n up own e j → Visited w j
