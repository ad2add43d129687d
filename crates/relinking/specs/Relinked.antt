-- The change of a link in the parts that the code has.
--     linked        the links with one put in or taken out
--     judged        refusals 7 and 9 of an add, and 8 of a take, by whether the link is there and whether it would close a cycle
--     link_edit     the edit from refusal 5 on
--     Relinked      the link is put into the rows or taken out, and all is prepared for the new links if no kind is above itself
-- Assumes nothing.
use Rattle.std.specs.Prelude.{Bool, true, false, ◌||◌, not, List, ℕ, ◌+◌, ◌*◌, eqb, set, Result}
use Rattle.inheritance.specs.Above.{Acyclic, above, one_if}
use Rattle.relation.specs.declared.Relation.{Relation}
use Rattle.relation.specs.Bit.{bit}
use Rattle.ruling.specs.declared.Prepared.{Prepared}
use Rattle.ruling.specs.Ready.{Ready}
use Rattle.resettling.specs.Edits.{Reset}
use Rattle.tables.specs.declared.Refusal.{Refusal}
use Rattle.tables.specs.Calls.{Outcome, check, accepted}
use Rattle.tables.specs.Tables.{Tables, up_of, sound}

abbrev pub linked : (n : ℕ) → List ℕ → (child parent : ℕ) → (adding : Bool) → List ℕ
linked n links child parent adding = set links (child * n + parent) (one_if adding)

abbrev pub judged : (adding linked cycle : Bool) → Result (Unit {0}) Refusal
judged true true cycle = Result.Err Refusal.Linked
judged true false true = Result.Err Refusal.Cycle
judged true false false = Result.Ok tt
judged false true cycle = Result.Ok tt
judged false false cycle = Result.Err Refusal.NotLinked

-- the same as checks
abbrev pub link_checked : (adding linked cycle : Bool) → Tables → Outcome ℕ → Outcome ℕ
link_checked true linked cycle t next = check 7 (not linked) t (check 9 (not cycle) t next)
link_checked false linked cycle t next = check 8 linked t next

unfoldable pub link_edit : (n m : ℕ) → Tables → (caller child parent : ℕ) → (adding : Bool) → Outcome ℕ
link_edit n m t caller child parent adding =
    check 5 (sound n m t) t
    (link_checked adding (up_of n t.links child parent) (eqb parent child || above n (up_of n t.links) parent child) t
    (accepted n m t caller (linked n t.links child parent adding) t.rules))

pub record Relinked (n m c p : ℕ) (adding : Bool) (rules : List ℕ) (old : Relation) (d : Prepared) : Type 0 where
  pub reset : Reset c p adding old d.order.rows
  pub ready : Acyclic n (bit d.order.rows) → Ready n m rules d
