-- The leading parts of the program's tables.
--     whole_kept         the tables with their own parts put in are the same tables
-- Assumes nothing.
use mathlib.Core.Path.{◌≡◌, refl, ap}
use mathlib.Core.List.{List, [], ◌∷◌}
use Prim.Native.Nat.{ℕ, zero, suc, ◌*◌}
use lib.ListN.{take}
use Rattle.tables.specs.Tables.{Tables, lent}
use Rattle.session.specs.Parts.{parts, front, put_in}

-- a part that was not written
kept : (k : ℕ) (whole : List ℕ) → whole ≡ front (take k whole) whole
kept zero whole = refl
kept (suc k) [] = refl
kept (suc k) (x ∷ whole) = ap (λ (s : List ℕ). x ∷ s) (kept k whole)

pub whole_kept : (n m : ℕ) (t : Tables) → lent t.links t.rules t.entries t.tally t.disputes ≡ put_in (parts n m t) t
whole_kept n m t = cc (kept (n * n) t.links, kept (n * m) t.rules, kept (n * m) t.entries, kept m t.disputes)
