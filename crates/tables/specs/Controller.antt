-- The find that line controllers written in C put to us: tables as bytes, the lowest byte of each number first, and one 32-bit number back.
--     words16, words32    the numbers that bytes spell
--     bytes16, bytes32    the bytes of numbers, which spell these numbers: ByteLaws
--     packed              an answer as one number: 0 for none, 65,536 × (O + 1) + handling, 65,536 × (257 + X), or the refusal's number
--     find_packed         refusal 1 counts bytes; the rest is find on the numbers so spelled
-- Assumes nothing.
use Rattle.std.specs.Prelude.{Bool, true, false, List, [], ◌∷◌, ℕ, ◌+◌, ◌*◌, ◌/◌, ◌%◌, length}
use Rattle.tables.specs.Reply.{Reply, refused, given, Finding}
use Rattle.tables.specs.Tables.{Tables, lent, sized}
use Rattle.tables.specs.Calls.{find}

-- neighbours joined into one number, the first as the lower digit to the base b
unfoldable pub joined : ℕ → List ℕ → List ℕ
joined b [] = []
joined b (x ∷ []) = []
joined b (x ∷ y ∷ s) = (x + b * y) ∷ joined b s

abbrev pub words16 : List ℕ → List ℕ
words16 bytes = joined 256 bytes

abbrev pub words32 : List ℕ → List ℕ
words32 bytes = joined 65536 (words16 bytes)

-- each number as its two digits to the base b, the lower one first
unfoldable pub split : ℕ → List ℕ → List ℕ
split b [] = []
split b (x ∷ s) = (x % b) ∷ (x / b) ∷ split b s

abbrev pub bytes16 : List ℕ → List ℕ
bytes16 numbers = split 256 numbers

abbrev pub bytes32 : List ℕ → List ℕ
bytes32 numbers = split 256 (split 65536 numbers)

-- the tables that five tables of bytes spell
abbrev pub spelled : Tables → Tables
spelled t = lent t.links (words16 t.rules) (words16 t.entries) (words32 t.tally) (words16 t.disputes)

-- n and m are in their ranges, and every table has exactly its bytes
abbrev pub shaped_bytes : ℕ → ℕ → Tables → Bool
shaped_bytes n m t = sized 2 4 n m (length t.links) (length t.rules) (length t.entries) (length t.tally) (length t.disputes)

abbrev pub packed : Reply Finding → ℕ
packed (refused number) = number
packed (given Finding.none) = 0
packed (given (Finding.rule kind handling)) = 65536 * (kind + 1) + handling
packed (given (Finding.dispute kind)) = 65536 * (257 + kind)

unfoldable pub find_packed : (n m : ℕ) → Tables → (kind mark : ℕ) → ℕ
find_packed n m bytes kind mark =
    elim (shaped_bytes n m bytes) [ false ↦ 1 | true ↦ packed (find n m (spelled bytes) kind mark).reply ]
