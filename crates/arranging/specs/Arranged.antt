-- What `arrange` leaves: the kinds below n in an order in which each stands before its parents, and for each kind the places of those
-- at or above it.
--     Arranged       the order, and the rows of places
--     Arrangement    `arrange` gives one exactly if no kind is above itself
-- While it goes up the links, the kinds have states, read as numbers: 0, not visited; 1, on the way; 2, k of them, have a place, and these
-- are the last k.
--     Joined         row c has the places that `own` says and those that the rows of its parents before p have
--     Placed         the order and the rows of places, of the kinds that have a place
--     Fresh          kind c is not visited yet
--     Climbed        what going up from c does to the other kinds: nothing to those visited before; none is left on the way besides those
--                    that were, if no kind is above itself and each on the way leads to c
-- Assumes nothing.
use Rattle.std.specs.Prelude.{◌≡◌, Bool, true, false, ◌||◌, not, List, ◌⊎◌, ◌≢◌, ℕ, ◌+◌, ◌<◌, ◌≤◌, eqb, get_or, length}
use Rattle.inheritance.specs.Above.{Chain, Acyclic, above, count}
use Rattle.relation.specs.declared.Relation.{Relation}
use Rattle.relation.specs.Bit.{bit}
use Rattle.arranging.specs.declared.State.{State}
use Rattle.arranging.specs.declared.State.TheVariants.{New, Open, Done}

pub record Arranged (n : ℕ) (rows : Relation) (order : List ℕ) (reach : Relation) : Type 0 where
  pub long_order : length order ≡ 128
  pub kinds : (i : ℕ) → i < n → get_or order i 0 < n
  pub once : (i k : ℕ) → i < n → k < n → get_or order i 0 ≡ get_or order k 0 → i ≡ k
  pub each : (c : ℕ) → c < n → (i : ℕ) × (i < n) × (get_or order i 0 ≡ c)
  -- a kind above another has a later place
  pub later : (i k : ℕ) → i < n → k < n → above n (bit rows) (get_or order i 0) (get_or order k 0) ≡ true → i < k
  -- row c of reach has the places of c and of the kinds above it, and nothing at n or after
  pub reaches : (c i : ℕ) → c < n → i < n → bit reach c i ≡ (eqb (get_or order i 0) c || above n (bit rows) c (get_or order i 0))
  pub beyond : (c i : ℕ) → c < n → n ≤ i → i < 128 → bit reach c i ≡ false

pub record Arrangement (n : ℕ) (rows : Relation) (order : List ℕ) (reach : Relation) (found : Bool) : Type 0 where
  pub arranged : found ≡ true → Arranged n rows order reach
  pub free : found ≡ true → Acyclic n (bit rows)
  pub all : Acyclic n (bit rows) → found ≡ true

-- ---- on the way

-- a state as a number
unfoldable pub number_of : State → ℕ
number_of New = 0
number_of Open = 1
number_of Done = 2

abbrev pub state : List State → ℕ → ℕ
state states c = number_of (get_or states c New)

unfoldable pub unvisited : List State → ℕ → Bool
unvisited states c = eqb (state states c) 0

unfoldable pub unplaced : List State → ℕ → Bool
unplaced states c = not (eqb (state states c) 2)

pub record Joined (up : ℕ → ℕ → Bool) (reach : Relation) (c p : ℕ) (own : ℕ → Type 0) : Type 0 where
  pub ours : (q : ℕ) → q < 128 → own q → bit reach c q ≡ true
  pub theirs : (x q : ℕ) → x < p → q < 128 → up c x ≡ true → bit reach x q ≡ true → bit reach c q ≡ true
  pub only : (q : ℕ) → q < 128 → bit reach c q ≡ true → own q ⊎ ((x : ℕ) × (x < p) × (up c x ≡ true) × (bit reach x q ≡ true))

pub record Placed (n : ℕ) (up : ℕ → ℕ → Bool) (k : ℕ) (states : List State) (order : List ℕ) (reach : Relation) : Type 0 where
  pub long_states : length states ≡ 128
  pub long_order : length order ≡ 128
  pub left : count (unplaced states) n + k ≡ n
  pub kinds : (i : ℕ) → i < n → n ≤ i + k → (get_or order i 0 < n) × (state states (get_or order i 0) ≡ 2)
  pub once : (i j : ℕ) → i < n → j < n → n ≤ i + k → n ≤ j + k → get_or order i 0 ≡ get_or order j 0 → i ≡ j
  pub each : (c : ℕ) → c < n → state states c ≡ 2 → (i : ℕ) × (i < n) × (n ≤ i + k) × (get_or order i 0 ≡ c)
  pub later : (i p : ℕ) → i < n → n ≤ i + k → p < n → up (get_or order i 0) p ≡ true → (j : ℕ) × (j < n) × (i < j) × (get_or order j 0 ≡ p)
  pub places : (i : ℕ) → i < n → n ≤ i + k → Joined up reach (get_or order i 0) n (λ q. q ≡ i)
  pub blank : (c q : ℕ) → c < n → q < 128 → state states c ≡ 0 → bit reach c q ≡ false

pub record Fresh (n c : ℕ) (states : List State) : Type 0 where
  pub kind : c < n
  pub new : state states c ≡ 0

-- what was visited has the state and the row that it had
pub record Kept (n : ℕ) (old new : List State) (reach reach' : Relation) : Type 0 where
  pub states : (d : ℕ) → d < n → state old d ≢ 0 → state new d ≡ state old d
  pub rows : (d q : ℕ) → d < n → q < 128 → state old d ≢ 0 → bit reach' d q ≡ bit reach d q

pub record Climbed (n : ℕ) (up : ℕ → ℕ → Bool) (c : ℕ) (old new : List State) (reach reach' : Relation) : Type 0 where
  pub kept : Kept n old new reach reach'
  pub gone : state new c ≢ 0
  pub calm : Acyclic n up → ((g : ℕ) → g < n → state old g ≡ 1 → Chain n up g c) → (d : ℕ) → d < n → state new d ≡ 1 → state old d ≡ 1
