-- What docs/SCOPE.md says of an accepted edit of a caller, or refresh, that led from tables t to tables t' and returned a count. EditLaws has it of them.
--     OnePlace                    a table is changed at its one place
--     Edited                      what holds of every edit, where `Touches` says of the tables before or after which entries it can touch
--     RuleEdited, LinkEdited      what holds of an edit of a rule, and of a link
--     Refreshed                   what holds of refresh
-- Assumes nothing.
use Rattle.std.specs.Prelude.{◌≡◌, ◌≢◌, ◌↔◌, Bool, true, not, List, ℕ, ◌+◌, ◌*◌, ◌<◌, eqb, length, get_or}
use Rattle.inheritance.specs.Above.{Upto, count}
use Rattle.inheritance.specs.Lookup.{Below}
use Rattle.tables.specs.Tables.{Tables, up_of, own_of, sound, saturated}
use Rattle.tables.specs.Touch.{RuleTouches, LinkTouches}

pub record OnePlace (old new : List ℕ) (place value : ℕ) : Type 0 where
  pub size : length new ≡ length old
  pub there : get_or new place 0 ≡ value
  pub elsewhere : (i : ℕ) → i ≢ place → get_or new i 0 ≡ get_or old i 0

-- the numbers at place i are not the same
abbrev pub apart : List ℕ → List ℕ → ℕ → Bool
apart xs ys i = not (eqb (get_or xs i 0) (get_or ys i 0))

pub record Edited (n m caller : ℕ) (Touches : Tables → ℕ → ℕ → Type 0) (t t' : Tables) (returned : ℕ) : Type 0 where
  pub sound_after : sound n m t' ≡ true
  -- only the caller's number moves, by one, and stays at 4,294,967,295
  pub tally_changed : OnePlace t.tally t'.tally caller (saturated (get_or t.tally caller 0))
  -- an entry differs only where the edit can touch it, and that comes out the same before and after
  pub touched : (k j : ℕ) → k < n → j < m → get_or t.entries (k * m + j) 0 ≢ get_or t'.entries (k * m + j) 0 → Touches t k j
  pub same_reading : (k j : ℕ) → k < n → j < m → Touches t k j ↔ Touches t' k j
  -- a dispute count differs only at a mark where the entry of some kind does
  pub recounted : (j : ℕ) → get_or t.disputes j 0 ≢ get_or t'.disputes j 0
      → (k : ℕ) × (k < n) × (get_or t.entries (k * m + j) 0 ≢ get_or t'.entries (k * m + j) 0)
  -- the number of places kind × m + mark whose entry after it is not the entry before
  pub counted : returned ≡ count (apart t.entries t'.entries) (n * m)

pub record RuleEdited (n m caller : ℕ) (kind mark handling : ℕ) (t t' : Tables) (returned : ℕ) : Type 0 where
  pub links_kept : t'.links ≡ t.links
  pub rule_changed : OnePlace t.rules t'.rules (kind * m + mark) handling
  -- which kinds are below the edited one comes out the same before and after, for every mark
  pub below_same : (k j : ℕ) → k < n → j < m
      → Below n (up_of n t.links) (own_of m t.rules j) kind k ↔ Below n (up_of n t'.links) (own_of m t'.rules j) kind k
  pub edited : Edited n m caller (RuleTouches n m kind mark) t t' returned

pub record LinkEdited (n m caller : ℕ) (child parent byte : ℕ) (t t' : Tables) (returned : ℕ) : Type 0 where
  pub rules_kept : t'.rules ≡ t.rules
  pub link_changed : OnePlace t.links t'.links (child * n + parent) byte
  -- which kinds are the child or below it, which have an own rule, and the parent's entry, come out the same before and after, for every mark
  pub below_same : (k : ℕ) → k < n → Upto n (up_of n t.links) k child ↔ Upto n (up_of n t'.links) k child
  pub own_rule_same : (k j : ℕ) → own_of m t.rules j k ≡ own_of m t'.rules j k
  pub parent_entry_same : (j : ℕ) → j < m → get_or t.entries (parent * m + j) 0 ≡ get_or t'.entries (parent * m + j) 0
  pub edited : Edited n m caller (LinkTouches n m child parent) t t' returned

pub record Refreshed (n m : ℕ) (t t' : Tables) (returned : ℕ) : Type 0 where
  pub links_kept : t'.links ≡ t.links
  pub rules_kept : t'.rules ≡ t.rules
  pub tally_kept : t'.tally ≡ t.tally
  pub sound_after : sound n m t' ≡ true
  -- the number of places kind × m + mark whose entry after it is not the entry before
  pub counted : returned ≡ count (apart t.entries t'.entries) (n * m)
