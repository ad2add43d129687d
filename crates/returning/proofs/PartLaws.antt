-- The parts of the store's tables under a name.
--     part_copy      such a part is the copy
--     state_parts    together they are the state
-- Assumes nothing.
use mathlib.Core.Path.{◌≡◌, ap, ◌∙◌}
use mathlib.Core.List.{List}
use Prim.Native.Nat.{ℕ, ◌+◌, ◌-◌, ◌*◌}
use native.Mathlib.Omega.{arith}
use lib.ListN.{take, drop}
use Rattle.stores.specs.Store.{Store, copy_at, state_at}
use Rattle.tables.specs.Calls.{Outcome}
use Rattle.tables.specs.Tables.{Tables, lent}
use Rattle.replacing.specs.Replaced.{replaced}

-- the part of a table of copies from a place to the end of the copy there
pub part_copy : (name size : ℕ) (l : List ℕ) → take (name * size + size - name * size) (drop (name * size) l) ≡ copy_at size name l
part_copy name size l =
    let all : name * size + size - name * size ≡ size = omega arith in
    ap (λ (k : ℕ). take k (drop (name * size) l)) all

pub state_parts : (n m : ℕ) (t : Tables) (s : Store) (name : ℕ) (tally : List ℕ) {links rules entries disputes : List ℕ} {o : Outcome ℕ}
    → o ≡ replaced n m t (lent links rules entries tally disputes)
    → links ≡ copy_at (n * n) name s.links → rules ≡ copy_at (n * m) name s.rules → entries ≡ copy_at (n * m) name s.entries → disputes ≡ copy_at m name s.disputes
    → o ≡ replaced n m t (state_at n m s name tally)
unfolding state_at
state_parts n m t s name tally {rules = rules} {entries = entries} {disputes = disputes} is l r e d =
    is
    ∙ ap (λ (x : List ℕ). replaced n m t (lent x rules entries tally disputes)) l
    ∙ ap (λ (x : List ℕ). replaced n m t (lent (copy_at (n * n) name s.links) x entries tally disputes)) r
    ∙ ap (λ (x : List ℕ). replaced n m t (lent (copy_at (n * n) name s.links) (copy_at (n * m) name s.rules) x tally disputes)) e
    ∙ ap (λ (x : List ℕ). replaced n m t (lent (copy_at (n * n) name s.links) (copy_at (n * m) name s.rules) (copy_at (n * m) name s.entries) tally x)) d
