-- What docs/SCOPE.md says of a list of edits, edit by edit. ListStepLaws has it of them.
--     Obeys         what holds of an accepted edit, whichever of the four it is
--     EditMade      the edit of a record was accepted: it led from tables t to tables t' and returned a count
--     Steps         the edits of these records were made in order, each accepted; the sum of their counts
--     StoppedAt     a list stopped at a record: those before it were made, and its edit is refused
--     counted_on    what a list answers where edits were accepted before
--     Small         how large the numbers are that a list answers
-- Assumes nothing.
use Rattle.std.specs.Prelude.{◌≡◌, List, [], ◌∷◌, ◌++◌, ℕ, ◌+◌, ◌*◌, ◌≤◌, length}
use Rattle.tables.specs.declared.Edit.{Edit}
use Rattle.tables.specs.Reply.{Reply, refused, given, Listing, whole, stopped}
use Rattle.tables.specs.Tables.{Tables}
use Rattle.tables.specs.Calls.{leaves}
use Rattle.tables.specs.Edit.{RuleEdited, LinkEdited}
use Rattle.tables.specs.Lists.{Change, add_rule, take_rule, add_link, take_link, edit_outcome, change_in, record_outcome}

abbrev pub Obeys : (n m caller : ℕ) → Change → (t t' : Tables) → (count : ℕ) → Type 0
Obeys n m caller (add_rule kind mark handling) t t' count = RuleEdited n m caller kind mark handling t t' count
Obeys n m caller (take_rule kind mark) t t' count = RuleEdited n m caller kind mark 0 t t' count
Obeys n m caller (add_link child parent) t t' count = LinkEdited n m caller child parent 1 t t' count
Obeys n m caller (take_link child parent) t t' count = LinkEdited n m caller child parent 0 t t' count

pub record EditMade (n m caller : ℕ) (e : Edit) (t : Tables) (count : ℕ) (t' : Tables) : Type 0 where
  pub change : Change
  pub stands_for : change_in e ≡ given change
  pub accepted : edit_outcome n m t caller change ≡ leaves (given count) t'
  pub obeys : Obeys n m caller change t t' count

pub data Steps (n m caller : ℕ) : List Edit → Tables → ℕ → Tables → Type 0 where
  none_left : (t : Tables) → Steps n m caller [] t 0 t
  one_more : (e : Edit) (es : List Edit) (t t' u : Tables) (count changed : ℕ) → EditMade n m caller e t count t' → Steps n m caller es t' changed u
      → Steps n m caller (e ∷ es) t (count + changed) u

pub record StoppedAt (n m caller : ℕ) (es : List Edit) (t : Tables) (accepted changed number : ℕ) (left : Tables) : Type 0 where
  pub before : List Edit
  pub there : Edit
  pub after : List Edit
  pub parts : es ≡ before ++ (there ∷ after)
  pub how_many : length before ≡ accepted
  pub made : Steps n m caller before t changed left
  pub refusal : (record_outcome n m left caller there).reply ≡ refused number

-- what a list answers after so many accepted edits with this sum, where by itself it answers so
abbrev pub counted_on : (accepted changed : ℕ) → Reply Listing → Reply Listing
counted_on accepted changed (given (whole more sum)) = given (whole (accepted + more) (changed + sum))
counted_on accepted changed (given (stopped more sum number)) = given (stopped (accepted + more) (changed + sum) number)
counted_on accepted changed (refused number) = refused number

-- a count is of at most 128 × 64 places, a list of at most 4,096 records
abbrev pub Small : Listing → Type 0
Small (whole accepted changed) = (accepted ≤ 4096) × (changed ≤ accepted * 8192)
Small (stopped accepted changed number) = (accepted ≤ 4096) × (changed ≤ accepted * 8192)
