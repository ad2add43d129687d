-- The links of a book as a test: `up c p` says that kind p is a direct parent of kind c. Only kinds below n count.
--     Chain     a chain of one or more links leads from c up to p (p is above c, and c below p)
--     Upto      p is c or above it
--     above     a chain as a test: Warshall's closure, by the largest kind that a chain passes through
--     Acyclic   no kind is above itself
--     count     how many numbers below n pass a test
--     rank      how many kinds are above c
-- Assumes nothing.
use Rattle.std.specs.Prelude.{◌≡◌, Bool, true, false, ◌&&◌, ◌||◌, ◌⊎◌, ℕ, zero, suc, ◌+◌, ◌<◌}

pub data Chain (n : ℕ) (up : ℕ → ℕ → Bool) : ℕ → ℕ → Type 0 where
  link : {c p : ℕ} → p < n → up c p ≡ true → Chain n up c p
  step : {c q p : ℕ} → q < n → up c q ≡ true → Chain n up q p → Chain n up c p

abbrev pub Upto : (n : ℕ) (up : ℕ → ℕ → Bool) → ℕ → ℕ → Type 0
Upto n up c p = (c ≡ p) ⊎ Chain n up c p

-- a chain leads from c up to p, and passes only through kinds below k
unfoldable pub through : (up : ℕ → ℕ → Bool) → ℕ → ℕ → ℕ → Bool
through up zero c p = up c p
through up (suc k) c p = through up k c p || (through up k c k && through up k k p)

unfoldable pub above : ℕ → (ℕ → ℕ → Bool) → ℕ → ℕ → Bool
above n up c p = through up n c p

abbrev pub Acyclic : ℕ → (ℕ → ℕ → Bool) → Type 0
Acyclic n up = (c : ℕ) → c < n → above n up c c ≡ false

abbrev pub one_if : Bool → ℕ
one_if true = 1
one_if false = 0

unfoldable pub count : (ℕ → Bool) → ℕ → ℕ
count f zero = 0
count f (suc n) = count f n + one_if (f n)

unfoldable pub rank : ℕ → (ℕ → ℕ → Bool) → ℕ → ℕ
rank n up c = count (above n up c) n
