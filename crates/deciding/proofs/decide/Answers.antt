-- `deciding::decide` meets its contract: each test picks a case of `deciding`. Assumes nothing.
use Rattle.std.proofs.Common.{refl, sym, ◌∙◌, arith}
use mathlib.Core.Bool.{true, false}
use Rattle.deciding.proofs.DecidingLaws.{deciding_none, deciding_some, places_first, places_covered}
use Rattle.deciding.proofs.decide.Goals as goal

pub returns-in-None : goal.returns-in-None
returns-in-None c ruled j same = deciding_none _ _ ruled _ j (places_first _ ruled _ j _ same c.in-None.ensures) refl

pub returns-then-is_subset : goal.returns-then-is_subset
returns-then-is_subset c ruled j same =
    deciding_some _ _ ruled _ j (places_first _ ruled _ j _ same c.in-Some.ensures.0) (omega (arith, c.in-Some.ensures.1)) true
    (sym c.if-is_subset.true ∙ places_covered _ ruled _ j _ same _ c.row.ensures c.is_subset.ensures)

pub returns-else-is_subset : goal.returns-else-is_subset
returns-else-is_subset c ruled j same =
    deciding_some _ _ ruled _ j (places_first _ ruled _ j _ same c.in-Some.ensures.0) (omega (arith, c.in-Some.ensures.1)) false
    (sym c.if-is_subset.false ∙ places_covered _ ruled _ j _ same _ c.row.ensures c.is_subset.ensures)
