-- The five tables of a book of n kinds and m marks, as lists, and what they say.
--     Tables            links, rules, entries, tally and dispute counts; lent: the tables that a call is lent
--     sized             n and m are in their ranges, and every table has exactly its length; Lengths: the same as facts
--     shaped            .. of a book's tables: else refusal 1; LengthsOf: the same as facts; Sized: what of it a part of a call asks
--     up_of, own_of     the links and, for one mark, the own rules
--     entries_of        every entry worked out from the links and the rules alone
--     disputes_of       at each mark, the count of its dispute entries
--     links_right       every link byte is 0 or 1, and no kind is above itself
--     sound             sound tables: every link byte is 0 or 1, and `sound_over` the links: no kind is above itself, every entry equals
--                       its lookup, every dispute count is that of its mark's dispute entries
--     differing         at how many places two tables differ
--     tallied           one more accepted edit of a caller
-- Assumes nothing.
use Rattle.std.specs.Prelude.{◌≡◌, Bool, true, false, ◌&&◌, not, List, [], ◌∷◌, ◌++◌, ℕ, zero, suc, ◌+◌, ◌*◌, ◌≤◌, eqb, leb, ltb, length, get_or, set}
use Rattle.inheritance.specs.Above.{above, count}
use Rattle.inheritance.specs.Lookup.{lookup}
use Rattle.tables.specs.Caller.{callers}
use Rattle.inheritance.specs.Entry.{entry_of}

pub record Tables : Type 0 where
  pub links : List ℕ
  pub rules : List ℕ
  pub entries : List ℕ
  pub tally : List ℕ
  pub disputes : List ℕ

-- the tables as a call is lent them
abbrev pub lent : (links rules entries tally disputes : List ℕ) → Tables
lent links rules entries tally disputes = record { links = links; rules = rules; entries = entries; tally = tally; disputes = disputes }

-- n is 1 to 128, m is 1 to 64, and the tables have exactly these lengths, the tally a number for each caller, the dispute counts one for each
-- mark; a number of 16 bits takes `short` elements of its table, and one of 32 bits `long`
unfoldable pub sized : (short long n m links rules entries tally disputes : ℕ) → Bool
sized short long n m links rules entries tally disputes =
    leb 1 n && leb n 128 && leb 1 m && leb m 64
    && eqb links (n * n)
    && eqb rules (short * (n * m))
    && eqb entries (short * (n * m))
    && eqb tally (long * callers)
    && eqb disputes (short * m)

pub record Lengths (short long n m links rules entries tally disputes : ℕ) : Type 0 where
  pub kinds : (1 ≤ n) × (n ≤ 128)
  pub marks : (1 ≤ m) × (m ≤ 64)
  pub links_length : links ≡ n * n
  pub rules_length : rules ≡ short * (n * m)
  pub entries_length : entries ≡ short * (n * m)
  pub tally_length : tally ≡ long * callers
  pub disputes_length : disputes ≡ short * m

abbrev pub shaped : ℕ → ℕ → Tables → Bool
shaped n m t = sized 1 1 n m (length t.links) (length t.rules) (length t.entries) (length t.tally) (length t.disputes)

abbrev pub LengthsOf : ℕ → ℕ → Tables → Type 0
LengthsOf n m t = Lengths 1 1 n m (length t.links) (length t.rules) (length t.entries) (length t.tally) (length t.disputes)

-- what a part of a call asks that has rules and entries, and no other table
pub record Sized (n m : ℕ) (rules entries : List ℕ) : Type 0 where
  pub kinds : n ≤ 128
  pub marks : m ≤ 64
  pub rules_size : length rules ≡ n * m
  pub entries_size : length entries ≡ n * m

-- place child × n + parent holds 1 for a link
abbrev pub up_of : ℕ → List ℕ → ℕ → ℕ → Bool
up_of n links c p = eqb (get_or links (c * n + p) 0) 1

-- place kind × m + mark holds a handling number, or 0 for no own rule
abbrev pub own_of : ℕ → List ℕ → ℕ → ℕ → Bool
own_of m rules j c = not (eqb (get_or rules (c * m + j) 0) 0)

-- the entry of the lookup at kind c for mark j
unfoldable pub entry_at : (n m : ℕ) → (up : ℕ → ℕ → Bool) → (rules : List ℕ) → ℕ → ℕ → ℕ
entry_at n m up rules c j = entry_of (lookup n up (own_of m rules j) c)

-- f 0, f 1, … , f (k - 1)
unfoldable pub listed : (ℕ → ℕ) → ℕ → List ℕ
listed f zero = []
listed f (suc k) = listed f k ++ (f k ∷ [])

-- the rows of k kinds, m marks each
unfoldable pub grid : (ℕ → ℕ → ℕ) → ℕ → ℕ → List ℕ
grid f m zero = []
grid f m (suc k) = grid f m k ++ listed (f k) m

-- place kind × m + mark holds the entry of the lookup at (kind, mark)
unfoldable pub entries_of : (n m : ℕ) → (up : ℕ → ℕ → Bool) → (rules : List ℕ) → List ℕ
entries_of n m up rules = grid (entry_at n m up rules) m n

-- an entry from 257 on is that of a dispute
abbrev pub is_dispute : ℕ → Bool
is_dispute entry = leb 257 entry

-- how many of the kinds below k have a dispute entry for mark j
unfoldable pub disputes_at : (k m : ℕ) → (entries : List ℕ) → ℕ → ℕ
disputes_at k m entries j = count (λ c. is_dispute (get_or entries (c * m + j) 0)) k

-- place mark holds the count of the dispute entries of that mark
unfoldable pub disputes_of : (n m : ℕ) → (entries : List ℕ) → List ℕ
disputes_of n m entries = listed (disputes_at n m entries) m

-- every number below k passes
unfoldable pub all_below : (ℕ → Bool) → ℕ → Bool
all_below f zero = true
all_below f (suc k) = all_below f k && f k

-- the link byte at a place is 0 or 1
abbrev pub byte_right : List ℕ → ℕ → Bool
byte_right links i = leb (get_or links i 0) 1

-- .. every one
unfoldable pub bytes_right : ℕ → List ℕ → Bool
bytes_right n links = all_below (byte_right links) (n * n)

-- a kind is not above itself
abbrev pub kind_free : (n : ℕ) → (up : ℕ → ℕ → Bool) → ℕ → Bool
kind_free n up c = not (above n up c c)

-- .. none is
unfoldable pub well_linked : (n : ℕ) → (up : ℕ → ℕ → Bool) → Bool
well_linked n up = all_below (kind_free n up) n

-- both, of links that are bytes
abbrev pub links_right : ℕ → List ℕ → Bool
links_right n links = bytes_right n links && well_linked n (up_of n links)

-- the entry at a place is its lookup
abbrev pub entry_right : (n m : ℕ) → (up : ℕ → ℕ → Bool) → (rules entries : List ℕ) → ℕ → Bool
entry_right n m up rules entries i = eqb (get_or entries i 0) (get_or (entries_of n m up rules) i 0)

-- the dispute count at a mark is that of its dispute entries
abbrev pub count_right : (n m : ℕ) → (entries disputes : List ℕ) → ℕ → Bool
count_right n m entries disputes j = eqb (get_or disputes j 0) (disputes_at n m entries j)

-- .. every entry, every count, and no kind is above itself
unfoldable pub sound_over : (n m : ℕ) → (up : ℕ → ℕ → Bool) → (rules entries disputes : List ℕ) → Bool
sound_over n m up rules entries disputes =
    well_linked n up && all_below (entry_right n m up rules entries) (n * m) && all_below (count_right n m entries disputes) m

unfoldable pub sound : ℕ → ℕ → Tables → Bool
sound n m t = bytes_right n t.links && sound_over n m (up_of n t.links) t.rules t.entries t.disputes

-- 1 where two numbers differ
abbrev pub differ : ℕ → ℕ → ℕ
differ x y = elim (eqb x y) [ true ↦ 0 | false ↦ 1 ]

unfoldable pub differing : List ℕ → List ℕ → ℕ
differing [] ys = 0
differing (x ∷ xs) [] = 0
differing (x ∷ xs) (y ∷ ys) = differ x y + differing xs ys

-- at 4,294,967,295 it stays
abbrev pub saturated : ℕ → ℕ
saturated x = elim (ltb x 4294967295) [ true ↦ x + 1 | false ↦ x ]

-- the caller's number counts one more
unfoldable pub tallied : (caller : ℕ) → List ℕ → List ℕ
tallied caller tally = set tally caller (saturated (get_or tally caller 0))
