-- The lookup of one mark, from the links and the own rules alone. `up c p`: kind p is a direct parent of kind c; `own c`: kind c has its own
-- rule for the mark. Handling numbers play no part.
--     Seen, seen    rule kind o is seen from c; the same as a test
--     Left, left    the kinds left: o is seen from c and is above no other that is; the same as a test. Two: two different kinds
--     lookup        the lookup at (c, mark): none, the rule of a kind, or a dispute at a kind
--     Below         k is c, or is reached from c by going down links with no own rule at any kind after c
-- Assumes nothing.
use Rattle.std.specs.Prelude.{◌≡◌, Bool, true, false, ◌&&◌, ◌||◌, not, ◌≢◌, List, [], ◌∷◌, ◌++◌, ℕ, zero, suc, ◌<◌, eqb}
use Rattle.inheritance.specs.declared.Lookup.{Lookup}
use Rattle.inheritance.specs.declared.Lookup.TheVariants.{None, Rule, Dispute}
use Rattle.inheritance.specs.Above.{Chain, above}
use Rattle.inheritance.specs.Checked.{kind}

-- ---- the rule kinds that are seen

-- c is o, or c has no own rule and a chain leads up to o with no own rule before o
pub data Seen (n : ℕ) (up : ℕ → ℕ → Bool) (own : ℕ → Bool) : ℕ → ℕ → Type 0 where
  here : {c : ℕ} → own c ≡ true → Seen n up own c c
  there : {c p o : ℕ} → own c ≡ false → p < n → up c p ≡ true → Seen n up own p o → Seen n up own c o

-- the links that start at a kind with no own rule
abbrev pub open_links : (up : ℕ → ℕ → Bool) → (own : ℕ → Bool) → ℕ → ℕ → Bool
open_links up own c p = not (own c) && up c p

unfoldable pub seen : ℕ → (up : ℕ → ℕ → Bool) → (own : ℕ → Bool) → ℕ → ℕ → Bool
seen n up own c o = own o && (eqb c o || above n (open_links up own) c o)

-- ---- the kinds left

-- some number below k passes
unfoldable pub some_below : (ℕ → Bool) → ℕ → Bool
some_below f zero = false
some_below f (suc k) = some_below f k || f k

-- from these kinds each one is dropped that is above another of them
unfoldable pub least : ℕ → (up : ℕ → ℕ → Bool) → (ℕ → Bool) → ℕ → Bool
least n up among o = among o && not (some_below (λ o'. among o' && above n up o' o) n)

unfoldable pub left : ℕ → (up : ℕ → ℕ → Bool) → (own : ℕ → Bool) → ℕ → ℕ → Bool
left n up own c = least n up (seen n up own c)

-- o is seen from c, and is above no kind that is
pub record Left (n : ℕ) (up : ℕ → ℕ → Bool) (own : ℕ → Bool) (c o : ℕ) : Type 0 where
  pub is_seen : Seen n up own c o
  pub above_none : (o' : ℕ) → Seen n up own c o' → ¬ Chain n up o' o

-- two different kinds are so
abbrev pub Two : (ℕ → Type 0) → Type 0
Two P = (o₁ : ℕ) × (o₂ : ℕ) × P o₁ × P o₂ × (o₁ ≢ o₂)

-- the numbers below k that pass, lowest first
unfoldable pub passing : (ℕ → Bool) → ℕ → List ℕ
passing f zero = []
passing f (suc k) = passing f k ++ (elim (f k) [ true ↦ k ∷ [] | false ↦ [] ])

-- ---- what the direct parents share

-- two lookups are equal: the same case with the same kind
abbrev pub same : Lookup → Lookup → Bool
same None None = true
same None (Rule k) = false
same None (Dispute k) = false
same (Rule j) None = false
same (Rule j) (Rule k) = eqb j.0 k.0
same (Rule j) (Dispute k) = false
same (Dispute j) None = false
same (Dispute j) (Rule k) = false
same (Dispute j) (Dispute k) = eqb j.0 k.0

-- v where b says that all are equal to it, else a dispute at c
abbrev pub or_dispute : ℕ → Bool → Lookup → Lookup
or_dispute c b v = elim b [ true ↦ v | false ↦ Dispute (kind c) ]

-- what the lookups of parents so far share, and one more: nones are passed over, and two different ones share only a dispute at c
unfoldable pub join : ℕ → Lookup → Lookup → Lookup
join c acc None = acc
join c None (Rule k) = Rule k
join c None (Dispute k) = Dispute k
join c (Rule j) (Rule k) = or_dispute c (same (Rule j) (Rule k)) (Rule j)
join c (Rule j) (Dispute k) = Dispute (kind c)
join c (Dispute j) (Rule k) = Dispute (kind c)
join c (Dispute j) (Dispute k) = or_dispute c (same (Dispute j) (Dispute k)) (Dispute j)

-- what the kinds below k that `parent` names share
unfoldable pub meet : ℕ → (parent : ℕ → Bool) → (ℕ → Lookup) → ℕ → Lookup
meet c parent at zero = None
meet c parent at (suc k) = elim (parent k) [ true ↦ join c (meet c parent at k) (at k) | false ↦ meet c parent at k ]

-- ---- the lookup

-- a dispute: at x if that is what the direct parents share, otherwise at c itself
abbrev pub disputed : ℕ → Lookup → Lookup
disputed c None = Dispute (kind c)
disputed c (Rule k) = Dispute (kind c)
disputed c (Dispute k) = Dispute k

-- none left is none; one left is that rule; with two or more left it is the dispute v
abbrev pub decided : (lefts : List ℕ) → (v : Lookup) → Lookup
decided [] v = None
decided (o ∷ []) v = Rule (kind o)
decided (o ∷ o' ∷ os) v = v

-- the lookup at c where `at` gives the lookups of its direct parents. At a kind with its own rule only that one is left
unfoldable pub inherit : ℕ → (up : ℕ → ℕ → Bool) → (own : ℕ → Bool) → (ℕ → Lookup) → ℕ → Lookup
inherit n up own at c = decided (passing (left n up own c) n) (disputed c (meet c (up c) at n))

-- worked out through chains of fewer than d links
unfoldable pub within : ℕ → (up : ℕ → ℕ → Bool) → (own : ℕ → Bool) → ℕ → ℕ → Lookup
within n up own zero c = None
within n up own (suc d) c = inherit n up own (within n up own d) c

-- where no kind is above itself, no chain has n links or more
unfoldable pub lookup : ℕ → (up : ℕ → ℕ → Bool) → (own : ℕ → Bool) → ℕ → Lookup
lookup n up own c = within n up own n c

-- ---- what an edit of a rule can touch

pub data Below (n : ℕ) (up : ℕ → ℕ → Bool) (own : ℕ → Bool) (c : ℕ) : ℕ → Type 0 where
  start : Below n up own c c
  down : {p k : ℕ} → Below n up own c p → p < n → up k p ≡ true → own k ≡ false → Below n up own c k
