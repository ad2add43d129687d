-- The record of an edit.
--     no_change    a record whose number is none of the four
-- Assumes nothing.
use mathlib.Core.Path.{◌≡◌, refl, sym, ◌∙◌}
use mathlib.Core.Bool.{Bool, true, false, false≢true}
use mathlib.Core.Logic.{◌≢◌}
use borrow.Author.Tests.{ne_eqb}
use Rattle.tables.specs.declared.Edit.{Edit}
use Rattle.tables.specs.Lists.{Change, change_in}
use Rattle.tables.specs.Reply.{Reply, refused}

pub no_change : (e : Edit) → e.what ≢ 1 → e.what ≢ 2 → e.what ≢ 3 → e.what ≢ 4 → refused 19 ≡ change_in e
unfolding change_in
no_change e not-1 not-2 not-3 not-4 =
    sym (skips _ _ _ (ne_eqb e.what 1 not-1) ∙ skips _ _ _ (ne_eqb e.what 2 not-2) ∙ skips _ _ _ (ne_eqb e.what 3 not-3) ∙ skips _ _ _ (ne_eqb e.what 4 not-4))
  where
    skips : (b : Bool) (x y : Reply Change) → b ≡ false → elim b [ true ↦ x | false ↦ y ] ≡ y
    skips true x y e = absurd (false≢true (sym e))
    skips false x y e = refl
