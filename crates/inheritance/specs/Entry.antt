-- The entry of a lookup, a number of 16 bits: 0 is none, O + 1 is the rule of kind O, 257 + X is a dispute at kind X.
--     entry_of     the entry of a lookup
--     lookup_of    the lookup that an entry stands for: 1 to 256 a rule, 257 and more a dispute; Decodes: it is that one
-- Assumes nothing.
use Rattle.std.specs.Prelude.{◌≡◌, true, false, ℕ, zero, suc, ◌+◌, ◌-◌, ltb}
use Rattle.inheritance.specs.declared.Lookup.{Lookup}
use Rattle.inheritance.specs.declared.Lookup.TheVariants.{None, Rule, Dispute}
use Rattle.inheritance.specs.Checked.{kind}

abbrev pub entry_of : Lookup → ℕ
entry_of None = 0
entry_of (Rule k) = k.0 + 1
entry_of (Dispute k) = 257 + k.0

unfoldable pub lookup_of : ℕ → Lookup
lookup_of zero = None
lookup_of (suc e) = elim (ltb e 256) [ true ↦ Rule (kind e) | false ↦ Dispute (kind (e - 256)) ]

abbrev pub Decodes : ℕ → Lookup → Type 0
Decodes entry lookup = lookup ≡ lookup_of entry
