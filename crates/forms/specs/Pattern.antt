-- Lines that differ only in their numbers. A pattern is a line in which the byte 35, `#`, stands for a number.
--     slots     how many numbers a pattern has
--     filled    the pattern with its numbers put in, in order
--     fits      the numbers of a line that fits the pattern, or none
-- Assumes nothing.
use Rattle.std.specs.Prelude.{true, false, List, [], ◌∷◌, ◌++◌, ℕ, suc, eqb, get_or, drop, Option, Some, None}
use Rattle.forms.specs.Decimal.{Number, missing, number, digits, number_at}

unfoldable pub slots : List ℕ → ℕ
slots [] = 0
slots (b ∷ p) = elim (eqb b 35) [ true ↦ suc (slots p) | false ↦ slots p ]

unfoldable pub filled : (pattern values : List ℕ) → List ℕ
filled [] vs = []
filled (b ∷ p) vs = elim (eqb b 35) [ true ↦ digits (get_or vs 0 0) ++ filled p (drop 1 vs) | false ↦ b ∷ filled p vs ]

-- numbers in front of those found later
abbrev pub prefixed : List ℕ → Option (List ℕ) → Option (List ℕ)
prefixed vs None = None
prefixed vs (Some ws) = Some (vs ++ ws)

-- a number, and then what `next` finds in the bytes after it
abbrev pub number_then : Number → (next : List ℕ → Option (List ℕ)) → Option (List ℕ)
number_then missing next = None
number_then (number v rest) next = prefixed (v ∷ []) (next rest)

-- the byte b, and then what `next` finds in the bytes after it
abbrev pub byte_then : ℕ → List ℕ → (next : List ℕ → Option (List ℕ)) → Option (List ℕ)
byte_then b [] next = None
byte_then b (x ∷ rest) next = elim (eqb x b) [ true ↦ next rest | false ↦ None ]

unfoldable pub fits : (pattern line : List ℕ) → Option (List ℕ)
fits [] [] = Some []
fits [] (x ∷ rest) = None
fits (b ∷ p) line = elim (eqb b 35) [ true ↦ number_then (number_at line) (fits p) | false ↦ byte_then b line (fits p) ]

-- the code's answer: up to three numbers, 0 where there are fewer
abbrev pub match_of : Option (List ℕ) → Option (ℕ × ℕ × ℕ)
match_of None = None
match_of (Some vs) = Some (get_or vs 0 0, get_or vs 1 0, get_or vs 2 0)
