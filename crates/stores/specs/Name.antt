-- The names under which states of a book are saved.
--     names          the most names: the store has a flag and a copy of each table for each
--     name           the name with a number
--     name_below     the name with that number, if there is one
--     asked_state    the name that a return is put to, by the one that there is: refusals 14 and 15, in this order
-- Assumes nothing.
use Rattle.std.specs.Prelude.{cond, List, ℕ, eqb, ltb, get_or, Option, Some, None, Result}
use Rattle.tables.specs.declared.Refusal.{Refusal}
use Rattle.stores.specs.declared.Name.{Name}

abbrev pub names : ℕ
names = 8

abbrev pub name : ℕ → Name
name k = record { 0 = k }

abbrev pub name_below : (number : ℕ) → Option Name
name_below number = cond (ltb number names) (Some (name number)) None

abbrev pub asked_state : (flags : List ℕ) → Option Name → Result Name Refusal
asked_state flags None = Result.Err Refusal.Name
asked_state flags (Some k) = cond (eqb (get_or flags k.0 0) 0) (Result.Err Refusal.Unsaved) (Result.Ok k)
