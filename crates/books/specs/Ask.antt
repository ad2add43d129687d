-- The refusals that calls begin with, by the kinds, marks and callers that there are.
--     asked_at        refusals 2 and 3, in this order, of a call on a kind and a mark
--     asked           .. after refusal 1
--     bare            an add whose handling is 0
--     asked_rule      refusal 4 of it, after them
--     asked_link      refusal 2 of a call on a child and a parent
--     asked_caller    refusals 1 and 13, in this order, of an edit
--     checked, checked_caller    the same on a book's tables
--     Within          a kind and a mark of a book whose rules and entries have their lengths
-- Assumes nothing.
use Rattle.std.specs.Prelude.{Bool, true, false, List, ℕ, ◌<◌, eqb, Option, Some, None, Result}
use Rattle.inheritance.specs.declared.Kind.{Kind}
use Rattle.inheritance.specs.declared.Mark.{Mark}
use Rattle.inheritance.specs.Checked.{kind_below, mark_below}
use Rattle.tables.specs.declared.Caller.{Caller}
use Rattle.tables.specs.declared.Refusal.{Refusal}
use Rattle.tables.specs.Caller.{caller_below}
use Rattle.tables.specs.Tables.{Tables, shaped, Sized}

abbrev pub asked_at : Option Kind → Option Mark → Result (Kind × Mark) Refusal
asked_at None j = Result.Err Refusal.Kind
asked_at (Some k) None = Result.Err Refusal.Mark
asked_at (Some k) (Some j) = Result.Ok (k, j)

abbrev pub asked : {A : Type 0} → (shaped : Bool) → Result A Refusal → Result A Refusal
asked false next = Result.Err Refusal.Shape
asked true next = next

-- a handling of 0; an edit without one takes a rule
abbrev pub bare : Option ℕ → Bool
bare None = false
bare (Some handling) = eqb handling 0

abbrev pub asked_rule : Result (Kind × Mark) Refusal → (bare : Bool) → Result (Kind × Mark) Refusal
asked_rule (Result.Err why) bare = Result.Err why
asked_rule (Result.Ok at) true = Result.Err Refusal.Handling
asked_rule (Result.Ok at) false = Result.Ok at

abbrev pub asked_link : (child parent : Option Kind) → Result (Kind × Kind) Refusal
asked_link None p = Result.Err Refusal.Kind
asked_link (Some c) None = Result.Err Refusal.Kind
asked_link (Some c) (Some p) = Result.Ok (c, p)

abbrev pub asked_caller : (shaped : Bool) → Option Caller → Result Caller Refusal
asked_caller false c = Result.Err Refusal.Shape
asked_caller true None = Result.Err Refusal.Caller
asked_caller true (Some c) = Result.Ok c

abbrev pub checked : (n m : ℕ) → Tables → (kind mark : ℕ) → Result (Kind × Mark) Refusal
checked n m t kind mark = asked (shaped n m t) (asked_at (kind_below n kind) (mark_below m mark))

abbrev pub checked_caller : (n m : ℕ) → Tables → (caller : ℕ) → Result Caller Refusal
checked_caller n m t caller = asked_caller (shaped n m t) (caller_below caller)

pub record Within (n m : ℕ) (rules entries : List ℕ) (k : Kind) (j : Mark) : Type 0 where
  pub sizes : Sized n m rules entries
  pub kind_in_range : k.0 < n
  pub mark_in_range : j.0 < m
