-- An edit of a link, step by step.
--     first_refused                refusals 1 and 13
--     link_refused, link_passed    refusal 2, and what comes after it
--     added_link, taken_link       the two calls are the two cases of `link_call`
--     link_unsound                 refusal 5
-- Assumes nothing.
use mathlib.Core.Path.{◌≡◌, refl, sym, ◌∙◌}
use mathlib.Core.Bool.{Bool, true, false}
use Prim.Native.Nat.{ℕ, ◌<◌}
use Rattle.std.specs.Prelude.{Result}
use Rattle.inheritance.specs.declared.Kind.{Kind}
use Rattle.inheritance.specs.Checked.{kind_below}
use Rattle.books.specs.Ask.{asked_link, checked_caller}
use Rattle.books.proofs.AskLaws.{asked_between, link_passes, link_refuses, by_passes, caller_refuses}
use Rattle.tables.specs.declared.Refusal.{Refusal}
use Rattle.tables.specs.Caller.{callers}
use Rattle.tables.specs.Calls.{leaves, check, add_link, take_link}
use Rattle.tables.specs.Reply.{refused, refusal_number}
use Rattle.tables.specs.Tables.{Tables, shaped, sound}
use Rattle.relinking.specs.Relinked.{link_edit}
use Rattle.link_edits.specs.LinkEdit.{link_call}

-- ---- refusals 1, 13 and 2

module _ (n m : ℕ) (t : Tables) (by c p : ℕ) where
  module _ (adding : Bool) where
    pub first_refused : {why : Refusal} → checked_caller n m t by ≡ Result.Err why → leaves (refused (refusal_number why)) t ≡ link_call n m t by c p adding
    unfolding link_call
    first_refused e = sym (caller_refuses n m t by _ e)

    module _ (fits : shaped n m t ≡ true) (low : by < callers) where
      pub link_refused : {why : Refusal} → asked_link (kind_below n c) (kind_below n p) ≡ Result.Err why
          → leaves (refused (refusal_number why)) t ≡ link_call n m t by c p adding
      unfolding link_call
      link_refused e = sym (by_passes n m t by _ fits low ∙ link_refuses n c p t _ e)

      pub link_passed : {j k : Kind} → asked_link (kind_below n c) (kind_below n p) ≡ Result.Ok (j, k)
          → link_edit n m t by j.0 k.0 adding ≡ link_call n m t by c p adding
      unfolding link_call
      link_passed e =
          let a = asked_between n c p e in
          rw (a.the_child, a.the_parent) (sym (by_passes n m t by _ fits low ∙ link_passes n c p t _ e))

  pub added_link : link_call n m t by c p true ≡ add_link n m t by c p
  unfolding link_call link_edit add_link
  added_link = refl

  pub taken_link : link_call n m t by c p false ≡ take_link n m t by c p
  unfolding link_call link_edit take_link
  taken_link = refl

-- ---- refusal 5

pub link_unsound : (n m : ℕ) (t : Tables) (by c p : ℕ) (adding : Bool) → sound n m t ≡ false → leaves (refused 5) t ≡ link_edit n m t by c p adding
unfolding link_edit check
link_unsound n m t by c p adding e = rw e refl
