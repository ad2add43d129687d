-- What is promised of the lookup, for every number n of kinds, all links `up` and all own rules `own` of one mark (docs/SCOPE.md, "Lookup").
--     ChainIsAbove       the test `above` is the chain of links
--     SeenAndLeft        the tests `seen` and `left` are what is seen and what is left
--     LookupMeansLeft    none, a rule and a dispute exactly as the kinds left have it; MeansLeft: of one kind
-- Where no kind is above itself (Acyclic):
--     OwnRuleWins        an own rule wins at its own kind
--     DisputeIsAt        where a dispute is; IsAt: of one kind, by its Parent
--     SameKindsLeft      a kind disputed at X has the same kinds left as X
--     LookupIsUnique     the lookup solves its equation, and nothing else does; Solves
-- Of any number:
--     EntryIsItsLookup   every number is the entry of one lookup
-- Assumes nothing.
use Rattle.std.specs.Prelude.{◌≡◌, ◌≢◌, ◌↔◌, Bool, true, ℕ, ◌<◌}
use Rattle.inheritance.specs.declared.Lookup.{Lookup}
use Rattle.inheritance.specs.declared.Lookup.TheVariants.{None, Rule, Dispute}
use Rattle.inheritance.specs.Above.{Chain, above, Acyclic}
use Rattle.inheritance.specs.Checked.{kind}
use Rattle.inheritance.specs.Entry.{entry_of, lookup_of}
use Rattle.inheritance.specs.Lookup.{Seen, seen, Left, left, Two, inherit, lookup}

-- where a chain leads from c up to p the test passes; where it passes for a kind p of the book, a chain leads there
abbrev pub ChainIsAbove : Type 0
ChainIsAbove = (n : ℕ) (up : ℕ → ℕ → Bool) (c p : ℕ) → (Chain n up c p → above n up c p ≡ true) × (p < n → above n up c p ≡ true → Chain n up c p)

-- a test passes for a kind o of the book exactly where o is seen from c, and, c being one too, where o is left at c
abbrev pub SeenAndLeft : Type 0
SeenAndLeft = (n : ℕ) (up : ℕ → ℕ → Bool) (own : ℕ → Bool) (c o : ℕ) → o < n
    → ((seen n up own c o ≡ true) ↔ Seen n up own c o) × (c < n → (left n up own c o ≡ true) ↔ Left n up own c o)

abbrev pub OwnRuleWins : Type 0
OwnRuleWins = (n : ℕ) (up : ℕ → ℕ → Bool) (own : ℕ → Bool) → Acyclic n up → (c : ℕ) → c < n → own c ≡ true → lookup n up own c ≡ Rule (kind c)

-- none exactly if nothing is left, the rule of o exactly if only o is left, a dispute exactly if two or more are left
pub record MeansLeft (n : ℕ) (up : ℕ → ℕ → Bool) (own : ℕ → Bool) (c : ℕ) : Type 0 where
  pub none : (lookup n up own c ≡ None) ↔ ((o : ℕ) → ¬ Left n up own c o)
  pub rule : (o : ℕ) → (lookup n up own c ≡ Rule (kind o)) ↔ (Left n up own c o × ((o' : ℕ) → Left n up own c o' → o' ≡ o))
  pub dispute : ((x : ℕ) × (lookup n up own c ≡ Dispute (kind x))) ↔ Two (Left n up own c)

abbrev pub LookupMeansLeft : Type 0
LookupMeansLeft = (n : ℕ) (up : ℕ → ℕ → Bool) (own : ℕ → Bool) (c : ℕ) → c < n → MeansLeft n up own c

-- p is a direct parent of c whose lookup is not none
abbrev pub Parent : (n : ℕ) (up : ℕ → ℕ → Bool) (own : ℕ → Bool) → (c p : ℕ) → Type 0
Parent n up own c p = (p < n) × (up c p ≡ true) × (lookup n up own p ≢ None)

-- at x if every such parent has the dispute at x; at c itself if there is no x of which this is so
pub record IsAt (n : ℕ) (up : ℕ → ℕ → Bool) (own : ℕ → Bool) (c : ℕ) : Type 0 where
  pub agreed : (x : ℕ) → ((p : ℕ) → Parent n up own c p → lookup n up own p ≡ Dispute (kind x)) → lookup n up own c ≡ Dispute (kind x)
  pub differ : ((x : ℕ) → ¬ ((p : ℕ) → Parent n up own c p → lookup n up own p ≡ Dispute (kind x))) → lookup n up own c ≡ Dispute (kind c)

abbrev pub DisputeIsAt : Type 0
DisputeIsAt = (n : ℕ) (up : ℕ → ℕ → Bool) (own : ℕ → Bool) → Acyclic n up → (c : ℕ) → c < n → Two (Left n up own c) → IsAt n up own c

-- x is a kind of the book, and has the kinds left that c has
abbrev pub SameKindsLeft : Type 0
SameKindsLeft = (n : ℕ) (up : ℕ → ℕ → Bool) (own : ℕ → Bool) → Acyclic n up → (c : ℕ) → c < n
    → (x : ℕ) → lookup n up own c ≡ Dispute (kind x) → (x < n) × ((o : ℕ) → Left n up own c o ↔ Left n up own x o)

-- each lookup follows from those of the direct parents and the kinds left
abbrev pub Solves : (n : ℕ) (up : ℕ → ℕ → Bool) (own : ℕ → Bool) → (ℕ → Lookup) → Type 0
Solves n up own v = (c : ℕ) → c < n → v c ≡ inherit n up own v c

abbrev pub LookupIsUnique : Type 0
LookupIsUnique = (n : ℕ) (up : ℕ → ℕ → Bool) (own : ℕ → Bool) → Acyclic n up
    → Solves n up own (lookup n up own) × ((v : ℕ → Lookup) → Solves n up own v → (c : ℕ) → c < n → v c ≡ lookup n up own c)

-- the lookup that a number stands for has that number as its entry, and the entry of none, of a rule of a kind below 256, or of a dispute, stands for that
-- lookup
pub record EntryIsItsLookup : Type 0 where
  pub one_lookup : (e : ℕ) → entry_of (lookup_of e) ≡ e
  pub of_none : lookup_of (entry_of None) ≡ None
  pub of_rule : (k : ℕ) → k < 256 → lookup_of (entry_of (Rule (kind k))) ≡ Rule (kind k)
  pub of_dispute : (k : ℕ) → lookup_of (entry_of (Dispute (kind k))) ≡ Dispute (kind k)
