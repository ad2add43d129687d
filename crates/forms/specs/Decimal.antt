-- Plain decimal numbers of 0 to 65,535 as bytes.
--     digits       the shortest digits of a number
--     number_at    the number at the front of a line, or that there is none
-- Assumes nothing.
use Rattle.std.specs.Prelude.{Bool, true, false, ◌&&◌, List, [], ◌∷◌, ◌++◌, ℕ, zero, suc, ◌+◌, ◌*◌, ◌-◌, ◌/◌, ◌%◌, eqb, leb, ltb, drop, Option, Some, None}

-- the last `count` digits of v, the highest first
unfoldable pub last_digits : (count v : ℕ) → List ℕ
last_digits zero v = []
last_digits (suc count) v = last_digits count (v / 10) ++ ((48 + v % 10) ∷ [])

-- how many digits v has; v is below 100,000
unfoldable pub width : ℕ → ℕ
width v =
    elim (ltb v 10) [
      | true ↦ 1
      | false ↦ elim (ltb v 100) [
        | true ↦ 2
        | false ↦ elim (ltb v 1000) [ true ↦ 3 | false ↦ elim (ltb v 10000) [ true ↦ 4 | false ↦ 5 ] ]
      ]
    ]

unfoldable pub digits : ℕ → List ℕ
digits v = last_digits (width v) v

-- a number with the bytes after it, or no number
pub data Number : Type 0 where
  missing : Number
  number : (value : ℕ) (rest : List ℕ) → Number

unfoldable pub is_digit : ℕ → Bool
is_digit b = leb 48 b && leb b 57

-- the digits go on after those of v; above 65,535 there is no number
unfoldable pub further : ℕ → List ℕ → Number
further v [] = number v []
further v (b ∷ s) =
    elim (is_digit b) [
      | false ↦ number v (b ∷ s)
      | true ↦ elim (leb (v * 10 + (b - 48)) 65535) [ true ↦ further (v * 10 + (b - 48)) s | false ↦ missing ]
    ]

-- a number has a digit. No other follows a leading 0: the number ends there
unfoldable pub number_at : List ℕ → Number
number_at [] = missing
number_at (b ∷ s) =
    elim (is_digit b) [ false ↦ missing | true ↦ elim (eqb b 48) [ true ↦ number 0 s | false ↦ further (b - 48) s ] ]

-- what the code answers about a line: a number's value and the place after it
abbrev pub number_of : List ℕ → Option (ℕ × ℕ) → Number
number_of line (Some taken) = number taken.0 (drop taken.1 line)
number_of line None = missing
