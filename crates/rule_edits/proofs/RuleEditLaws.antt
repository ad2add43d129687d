-- An edit of a rule, step by step.
--     first_refused                refusals 1 and 13
--     rule_refused, rule_passed    refusals 2 and 3 and that of an add without a handling, 4, and what comes after them
--     added_rule, taken_rule       the two calls are the two cases of `rule_call`
--     rule_unsound                 refusal 5
-- Assumes nothing.
use mathlib.Core.Path.{◌≡◌, refl, sym, ◌∙◌, ap}
use mathlib.Core.Bool.{Bool, true, false, ◌&&◌, not}
use Prim.Native.Nat.{ℕ, ◌<◌}
use lib.Dec.{eqb, ltb}
use Rattle.std.specs.Prelude.{Option, Some, None, Result, unwrap_or}
use Rattle.inheritance.specs.declared.Kind.{Kind}
use Rattle.inheritance.specs.declared.Mark.{Mark}
use Rattle.inheritance.specs.Checked.{kind_below, mark_below}
use Rattle.books.specs.Ask.{asked_at, bare, asked_rule, checked_caller}
use Rattle.books.proofs.AskLaws.{asked_at_place, rule_at, rule_passes, rule_refuses, by_passes, caller_refuses}
use Rattle.tables.specs.declared.Refusal.{Refusal}
use Rattle.tables.specs.Caller.{callers}
use Rattle.tables.specs.Calls.{Outcome, leaves, check, by_caller, add_rule, take_rule}
use Rattle.tables.specs.Reply.{refused, refusal_number}
use Rattle.tables.specs.Tables.{Tables, shaped, sound}
use Rattle.reruling.specs.Reruled.{rule_edit}
use Rattle.rule_edits.specs.RuleEdit.{rule_call}

-- ---- refusals 1 to 4, and 13

module _ (n m : ℕ) (t : Tables) (by c i : ℕ) where
  module _ (handling : Option ℕ) where
    pub first_refused : {why : Refusal} → checked_caller n m t by ≡ Result.Err why
        → leaves (refused (refusal_number why)) t ≡ rule_call n m t by c i handling
    unfolding rule_call
    first_refused e = sym (caller_refuses n m t by _ e)

    module _ (fits : shaped n m t ≡ true) (low : by < callers) where
      pub rule_refused : {why : Refusal} → asked_rule (asked_at (kind_below n c) (mark_below m i)) (bare handling) ≡ Result.Err why
          → leaves (refused (refusal_number why)) t ≡ rule_call n m t by c i handling
      unfolding rule_call
      rule_refused e = sym (by_passes n m t by _ fits low ∙ rule_refuses n m c i _ t _ e)

      pub rule_passed : {k : Kind} {j : Mark} → asked_rule (asked_at (kind_below n c) (mark_below m i)) (bare handling) ≡ Result.Ok (k, j)
          → rule_edit n m t by k.0 j.0 (unwrap_or handling 0) ≡ rule_call n m t by c i handling
      unfolding rule_call
      rule_passed e =
          let p = asked_at_place n m c i (rule_at _ _ e).0 in
          rw (p.the_kind, p.the_mark) (sym (by_passes n m t by _ fits low ∙ rule_passes n m c i _ t _ e))

  pub added_rule : (handling : ℕ) → rule_call n m t by c i (Some handling) ≡ add_rule n m t by c i handling
  unfolding rule_call rule_edit add_rule check
  added_rule handling = ap (λ (o : Outcome ℕ). by_caller n m t by (check 2 (ltb c n) t (check 3 (ltb i m) t o))) (go (eqb handling 0) _ _)
    where
      go : (none absent : Bool) (next : Outcome ℕ) → check 4 (not none) t (check 5 (sound n m t) t (check 6 (not (none && absent)) t next))
          ≡ check 4 (not none) t (check 5 (sound n m t) t next)
      go true absent next = refl
      go false absent next = refl

  pub taken_rule : rule_call n m t by c i None ≡ take_rule n m t by c i
  unfolding rule_call rule_edit take_rule check
  taken_rule = refl

-- ---- refusal 5

pub rule_unsound : (n m : ℕ) (t : Tables) (by kind mark handling : ℕ) → sound n m t ≡ false → leaves (refused 5) t ≡ rule_edit n m t by kind mark handling
unfolding rule_edit check
rule_unsound n m t by kind mark handling e = rw e refl
