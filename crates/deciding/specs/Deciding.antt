-- What the kinds left decide, as code finds it. The kinds stand in an order, and a kind is known by its place there.
--     Held                the places that pass a test, as those in a row of reach, are those of kinds
--     common, outside     the places in row c of reach that row j of ruled has too, and those of them that row o of reach has not
--     Places              a set has the common places
--     deciding            the first common place is that of a kind left; it is left alone if row o of reach has them all, where o is that kind
--     decided_at          .. by what is prepared
--     apart               an entry of kind c, where v is what is decided if the parents differ
-- Assumes nothing.
use Rattle.std.specs.Prelude.{◌≡◌, Bool, true, false, ◌&&◌, not, List, ℕ, zero, suc, ◌+◌, ◌<◌, eqb, ltb, get_or}
use Rattle.inheritance.specs.declared.Lookup.{Lookup}
use Rattle.inheritance.specs.declared.Lookup.TheVariants.{None, Rule, Dispute}
use Rattle.inheritance.specs.Checked.{kind}
use Rattle.inheritance.specs.Lookup.{some_below}
use Rattle.relation.specs.declared.KindSet.{KindSet}
use Rattle.relation.specs.declared.Relation.{Relation}
use Rattle.relation.specs.Bit.{bit, holds}
use Rattle.inheritance.specs.Entry.{entry_of}
use Rattle.ruling.specs.declared.Prepared.{Prepared}

-- the places that pass a test are those of kinds
abbrev pub Held : (order : List ℕ) → (ℕ → Bool) → Type 0
Held order passes = (i : ℕ) → i < 128 → passes i ≡ true → get_or order i 0 < 128

abbrev pub common : (reach ruled : Relation) → ℕ → ℕ → ℕ → Bool
common reach ruled c j i = bit reach c i && bit ruled j i

abbrev pub outside : (reach ruled : Relation) → ℕ → ℕ → ℕ → ℕ → Bool
outside reach ruled c j o i = common reach ruled c j i && not (bit reach o i)

abbrev pub Places : KindSet → (reach ruled : Relation) → ℕ → ℕ → Type 0
Places near reach ruled c j = (i : ℕ) → i < 128 → holds near i ≡ common reach ruled c j i

-- row o of reach has every common place
unfoldable pub covered : (reach ruled : Relation) → ℕ → ℕ → ℕ → Bool
covered reach ruled c j o = not (some_below (outside reach ruled c j o) 128)

-- the first number below k that passes, or k
unfoldable pub first_below : (ℕ → Bool) → ℕ → ℕ
first_below f zero = zero
first_below f (suc k) = elim (some_below f k) [ true ↦ first_below f k | false ↦ elim (f k) [ true ↦ k | false ↦ suc k ] ]

-- .. where i is the first common place and o the kind there
abbrev pub decision : ℕ → (i o : ℕ) → (alone : Bool) → Lookup
decision c i o alone = elim (ltb i 128) [ true ↦ elim alone [ true ↦ Rule (kind o) | false ↦ Dispute (kind c) ] | false ↦ None ]

unfoldable pub deciding : (order : List ℕ) → (reach ruled : Relation) → ℕ → ℕ → Lookup
deciding order reach ruled c j =
    let i = first_below (common reach ruled c j) 128 in
    decision c i (get_or order i 0) (covered reach ruled c j (get_or order i 0))

-- .. by what is prepared
abbrev pub decided_at : Prepared → ℕ → ℕ → Lookup
decided_at p c j = deciding p.order.kinds p.order.reach p.ruled c j

unfoldable pub apart : ℕ → ℕ → Lookup → ℕ
apart c e v = elim (eqb e (257 + c)) [ true ↦ entry_of v | false ↦ e ]
