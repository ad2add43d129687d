-- Numbers as kinds and marks.
--     kind, mark                the kind and the mark with a number
--     kind_below, mark_below    the kind below n or the mark below m with that number, if there is one
-- Assumes nothing.
use Rattle.std.specs.Prelude.{cond, ℕ, ltb, Option, Some, None}
use Rattle.inheritance.specs.declared.Kind.{Kind}
use Rattle.inheritance.specs.declared.Mark.{Mark}

abbrev pub kind : ℕ → Kind
kind c = record { 0 = c }

abbrev pub mark : ℕ → Mark
mark j = record { 0 = j }

abbrev pub kind_below : (n number : ℕ) → Option Kind
kind_below n number = cond (ltb number n) (Some (kind number)) None

abbrev pub mark_below : (m number : ℕ) → Option Mark
mark_below m number = cond (ltb number m) (Some (mark number)) None
