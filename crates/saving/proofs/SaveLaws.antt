-- Saving a book's tables, step by step.
--     placed_at, copied                     a table with another copied to a place; at its place this is the copy under the name
--     BothFit, both_fit                     the lengths that refusal 1 has tested
--     saving_done                           all four, and the flag
--     name_refused, save_done               refusal 14, and a save that is made
-- Assumes nothing.
use mathlib.Core.Path.{◌≡◌, refl, sym, ap, ◌∙◌}
use mathlib.Core.Bool.{true, ◌&&◌}
use mathlib.Core.List.{List, ◌++◌}
use Prim.Native.Nat.{ℕ, ◌+◌, ◌*◌}
use native.Mathlib.Omega.{arith}
use lib.ListN.{length, set, take, drop}
use Rattle.stores.specs.declared.Name.{Name}
use Rattle.std.specs.Prelude.{Some, None}
use Rattle.stores.specs.Name.{name_below}
use Rattle.stores.specs.Store.{Store, lent_store, stored, with_copy, saving, save}
use Rattle.stores.proofs.NameLaws.{named, unnamed}
use Rattle.stores.proofs.StoreLaws.{StoreLengths, stored_facts, save_name, save_accepted}
use Rattle.tables.specs.Calls.{leaves}
use Rattle.tables.specs.Reply.{refused, given}
use Rattle.tables.specs.Tables.{Tables, shaped, Sized}
use Rattle.tables.proofs.ShapeLaws.{and_iff, sized_facts, shape_sized}

-- ---- one table

abbrev pub placed_at : ℕ → (copy copies : List ℕ) → List ℕ
placed_at at copy copies = take at copies ++ copy ++ drop (at + length copy) copies

pub copied : (size number : ℕ) (copy copies : List ℕ) → length copy ≡ size → placed_at (number * size) copy copies ≡ with_copy size number copy copies
copied size number copy copies is = ap (λ (k : ℕ). take (number * size) copies ++ copy ++ drop (number * size + k) copies) is

-- ---- all of them

-- what the first test of a save says of the book's tables, and of the store's
pub record BothFit (n m : ℕ) (t : Tables) (s : Store) : Type 0 where
  pub sizes : Sized n m t.rules t.entries
  pub links_size : length t.links ≡ n * n
  pub disputes_size : length t.disputes ≡ m
  pub store : StoreLengths n m s

pub both_fit : (n m : ℕ) (t : Tables) (s : Store) → (shaped n m t && stored n m s) ≡ true → BothFit n m t s
both_fit n m t s fits =
    let (book, store) = (and_iff (shaped n m t) (stored n m s)).0 fits in
    let l = sized_facts 1 1 n m _ _ _ _ _ book in
    record { sizes = shape_sized n m t l; links_size = l.links_length; disputes_size = omega (arith, l.disputes_length); store = stored_facts n m s store }

module _ (n m : ℕ) (t : Tables) (s : Store) (number : ℕ) where
  pub saving_done : {flags links rules entries disputes : List ℕ} → BothFit n m t s
      → flags ≡ set s.flags number 1 → links ≡ placed_at (number * (n * n)) t.links s.links
      → rules ≡ placed_at (number * (n * m)) t.rules s.rules → entries ≡ placed_at (number * (n * m)) t.entries s.entries
      → disputes ≡ placed_at (number * m) t.disputes s.disputes
      → lent_store flags links rules entries disputes ≡ saving n m t s number
  unfolding saving
  saving_done fit f l r e d = rw (
    f,
    l ∙ copied (n * n) number t.links s.links fit.links_size,
    r ∙ copied (n * m) number t.rules s.rules fit.sizes.rules_size,
    e ∙ copied (n * m) number t.entries s.entries fit.sizes.entries_size,
    d ∙ copied m number t.disputes s.disputes fit.disputes_size,
  ) refl

  -- no such name, and a save that is made
  module _ (fits : (shaped n m t && stored n m s) ≡ true) where
    pub name_refused : name_below number ≡ None → leaves (refused 14) s ≡ save n m t s number
    name_refused is =
        let (book, store) = (and_iff (shaped n m t) (stored n m s)).0 fits in
        sym (save_name n m t s book store number (unnamed number is))

    pub save_done : {k : Name} {s' : Store} → name_below number ≡ Some k → s' ≡ saving n m t s k.0 → leaves (given tt) s' ≡ save n m t s number
    save_done {k} is made =
        let (book, store) = (and_iff (shaped n m t) (stored n m s)).0 fits in
        let (the_name, low) = named number is in
        ap (λ (x : Store). leaves (given tt) x) (made ∙ ap (λ (x : Name). saving n m t s x.0) the_name) ∙ sym (save_accepted n m t s book store number low)
