-- One bit of the rows put in or taken out.
--     marked_reset, unmarked_reset     by `insert` and `remove`
-- Assumes nothing.
use mathlib.Core.Path.{◌≡◌, refl, ◌∙◌}
use mathlib.Core.Bool.{Bool, true, false, ◌&&◌, ◌||◌, not}
use Prim.Native.Nat.{ℕ}
use lib.Dec.{eqb}
use Rattle.relation.specs.declared.Relation.{Relation}
use Rattle.relation.specs.Bit.{bit, Added, Removed}
use Rattle.resettling.specs.Edits.{changed, Reset}

pub marked_reset : (c p : ℕ) {old new : Relation} → Added old new (λ d q. eqb d c && eqb q p) → Reset c p true old new
marked_reset c p {old} a = record { bits = λ d q h. a.bits d q h ∙ go (bit old d q) (eqb d c && eqb q p) }
  where
    go : (b t : Bool) → (b || t) ≡ changed true t b
    go true true = refl
    go true false = refl
    go false true = refl
    go false false = refl

pub unmarked_reset : (c p : ℕ) {old new : Relation} → Removed old new (λ d q. eqb d c && eqb q p) → Reset c p false old new
unmarked_reset c p {old} r = record { bits = λ d q h. r.bits d q h ∙ go (bit old d q) (eqb d c && eqb q p) }
  where
    go : (b t : Bool) → (b && not t) ≡ changed false t b
    go true true = refl
    go true false = refl
    go false true = refl
    go false false = refl
