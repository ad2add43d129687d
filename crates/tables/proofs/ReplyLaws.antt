-- What a call replies and leaves where it is refused.
--     passed_on, passed_on_as    a `?` returns the refusal that it found
--     kept_at_err                what a refused call leaves, where its definition leaves that
-- Assumes nothing.
use mathlib.Core.Path.{◌≡◌, refl, sym, ap, ◌∙◌}
use Prim.Native.Nat.{ℕ}
use Rattle.std.specs.Prelude.{Result}
use Rattle.std.specs.Result.{IsErrAnd, OnErr}
use Rattle.std.proofs.lemmas.Result.{err_from_is_err_and}
use Rattle.tables.specs.declared.Refusal.{Refusal}
use Rattle.tables.specs.Calls.{OutcomeOn, leaves}
use Rattle.tables.specs.Reply.{refused, refusal_number, replied, replied_as}

module _ {A : Type 0} (r : Result A Refusal) (why : Refusal) (is : IsErrAnd r (λ (y : Refusal). y ≡ why)) where
  pub passed_on : replied r ≡ refused (refusal_number why)
  passed_on = let (y, is-err, same) = err_from_is_err_and r is in rw (is-err, same) refl

  pub passed_on_as : {B : Type 0} (of : A → B) → replied_as of r ≡ refused (refusal_number why)
  passed_on_as of = let (y, is-err, same) = err_from_is_err_and r is in rw (is-err, same) refl

pub kept_at_err : {T A : Type 0} (r : Result A Refusal) (t t' : T) (o : OutcomeOn T A) → leaves (replied r) t' ≡ o
    → ((number : ℕ) → o.reply ≡ refused number → o.tables ≡ t) → OnErr r (t' ≡ t)
kept_at_err (Result.Ok a) t t' o left kept = tt
kept_at_err {T} {A} (Result.Err why) t t' o left kept =
    ap (λ (x : OutcomeOn T A). x.tables) left ∙ kept (refusal_number why) (sym (ap (λ (x : OutcomeOn T A). x.reply) left))
