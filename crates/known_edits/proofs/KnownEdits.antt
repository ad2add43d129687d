-- A change on tables that are known to be sound, step by step.
--     change_refused             refusals 2, 3 and 4
--     change_rule, change_link   what comes after them, and what is then known of the kinds and the mark
--     made_known                 the edit's outcome, and that all is known of the tables that it leaves
-- Assumes nothing.
use mathlib.Core.Path.{◌≡◌, refl, sym, ◌∙◌, ap, subst}
use mathlib.Core.Bool.{Bool, true, false}
use Prim.Native.Nat.{ℕ, ◌<◌}
use native.Mathlib.Omega.{arith}
use Rattle.std.specs.Prelude.{Option, Some, None, Result, unwrap_or}
use Rattle.inheritance.specs.declared.Kind.{Kind}
use Rattle.inheritance.specs.declared.Mark.{Mark}
use Rattle.inheritance.specs.Checked.{kind_below, mark_below}
use Rattle.books.specs.Ask.{asked_at, bare, asked_rule, asked_link}
use Rattle.books.proofs.AskLaws.{asked_at_place, rule_at, asked_between}
use Rattle.ruling.specs.declared.Prepared.{Prepared}
use Rattle.link_edits.proofs.LinkEditLaws.{link_refused, link_passed, added_link, taken_link}
use Rattle.link_edits.specs.LinkEdit.{link_call}
use Rattle.relinking.specs.Relinked.{link_edit}
use Rattle.reruling.specs.Reruled.{rule_edit}
use Rattle.resettling.specs.Known.{Tracked, Known}
use Rattle.resettling.proofs.KnownLaws.{has}
use Rattle.rule_edits.specs.RuleEdit.{rule_call}
use Rattle.rule_edits.proofs.RuleEditLaws.{rule_refused, rule_passed, added_rule, taken_rule}
use Rattle.tables.specs.declared.Change.{Change as CodeChange}
use Rattle.tables.specs.declared.Refusal.{Refusal}
use Rattle.tables.specs.Caller.{callers}
use Rattle.tables.specs.Calls.{Outcome, leaves}
use Rattle.tables.specs.Lists.{Change, add_rule, take_rule, add_link, take_link, change_of, edit_outcome}
use Rattle.tables.specs.Reply.{Reply, refused, refusal_number}
use Rattle.tables.specs.Tables.{Tables, shaped}
use Rattle.tables.proofs.BookLaws.{Consistent, consistent_shaped, consistent_sound, edit_consistent}
use Rattle.known_edits.specs.declared.Assignment.{Assignment}
use Rattle.known_edits.specs.ChangeAsked.{rule_asked, link_asked, asked_change}

-- ---- what was asked, by the answer

rule_not : (a : Result (Kind × Mark) Refusal) (h : ℕ) {why : Refusal} → rule_asked a h ≡ Result.Err why → a ≡ Result.Err why
rule_not (Result.Ok (k, j)) h e = let z : ◌≡◌ {A = ℕ} 0 1 = cc in absurd (omega arith)
rule_not (Result.Err w) h {why} e = let same : w ≡ why = cc in rw same refl

link_not : (a : Result (Kind × Kind) Refusal) (adding : Bool) {why : Refusal} → link_asked a adding ≡ Result.Err why → a ≡ Result.Err why
link_not (Result.Ok (c, p)) adding e = let z : ◌≡◌ {A = ℕ} 0 1 = cc in absurd (omega arith)
link_not (Result.Err w) adding {why} e = let same : w ≡ why = cc in rw same refl

rule_yes : (a : Result (Kind × Mark) Refusal) (h : ℕ) {k : Kind} {j : Mark} {h' : ℕ} → rule_asked a h ≡ Result.Ok (Assignment.Rule k j h') → (a ≡ Result.Ok (k, j)) × (h ≡ h')
rule_yes (Result.Err w) h e = let z : ◌≡◌ {A = ℕ} 0 1 = cc in absurd (omega arith)
rule_yes (Result.Ok (k', j')) h {k} {j} e = let same_kind : k' ≡ k = cc in let same-mark : j' ≡ j = cc in (rw (same_kind, same-mark) refl, cc)

rule_no_link : (a : Result (Kind × Mark) Refusal) (h : ℕ) {c p : Kind} {adding : Bool} → rule_asked a h ≡ Result.Ok (Assignment.Link c p adding) → ⊥
rule_no_link (Result.Err w) h e = let z : ◌≡◌ {A = ℕ} 0 1 = cc in omega arith
rule_no_link (Result.Ok (k, j)) h e = let z : ◌≡◌ {A = ℕ} 0 1 = cc in omega arith

link_yes : (a : Result (Kind × Kind) Refusal) (b : Bool) {c p : Kind} {b' : Bool} → link_asked a b ≡ Result.Ok (Assignment.Link c p b') → (a ≡ Result.Ok (c, p)) × (b ≡ b')
link_yes (Result.Err w) b e = let z : ◌≡◌ {A = ℕ} 0 1 = cc in absurd (omega arith)
link_yes (Result.Ok (c', p')) b {c} {p} e = let same-child : c' ≡ c = cc in let same-parent : p' ≡ p = cc in (rw (same-child, same-parent) refl, cc)

link_no_rule : (a : Result (Kind × Kind) Refusal) (b : Bool) {k : Kind} {j : Mark} {h : ℕ} → link_asked a b ≡ Result.Ok (Assignment.Rule k j h) → ⊥
link_no_rule (Result.Err w) b e = let z : ◌≡◌ {A = ℕ} 0 1 = cc in omega arith
link_no_rule (Result.Ok (c, p)) b e = let z : ◌≡◌ {A = ℕ} 0 1 = cc in omega arith

-- ---- what comes after

module _ (n m : ℕ) (t : Tables) (by : ℕ) (fits : shaped n m t ≡ true) (low : by < callers) where
  pub change_refused : (c : CodeChange) {why : Refusal} → asked_change n m c ≡ Result.Err why → leaves (refused (refusal_number why)) t ≡ edit_outcome n m t by (change_of c)
  unfolding edit_outcome
  change_refused (CodeChange.AddRule k j h) e = rule_refused n m t by k.0 j.0 (Some h) fits low (rule_not _ h e) ∙ added_rule n m t by k.0 j.0 h
  change_refused (CodeChange.TakeRule k j) e = rule_refused n m t by k.0 j.0 None fits low (rule_not _ 0 e) ∙ taken_rule n m t by k.0 j.0
  change_refused (CodeChange.AddLink c p) e = link_refused n m t by c.0 p.0 true fits low (link_not _ true e) ∙ added_link n m t by c.0 p.0
  change_refused (CodeChange.TakeLink c p) e = link_refused n m t by c.0 p.0 false fits low (link_not _ false e) ∙ taken_link n m t by c.0 p.0

  -- the rule of a kind of the book for a mark of it is set
  abbrev pub SetsRule : Change → Kind → Mark → ℕ → Type 0
  SetsRule c k j h = (rule_edit n m t by k.0 j.0 h ≡ edit_outcome n m t by c) × (k.0 < n) × (j.0 < m)

  sets_rule : (c : Change) (kind mark : ℕ) (handling : Option ℕ) → rule_call n m t by kind mark handling ≡ edit_outcome n m t by c → {k : Kind} {j : Mark} {h : ℕ}
      → rule_asked (asked_rule (asked_at (kind_below n kind) (mark_below m mark)) (bare handling)) (unwrap_or handling 0) ≡ Result.Ok (Assignment.Rule k j h) → SetsRule c k j h
  sets_rule c kind mark handling whole e =
      let (a, same) = rule_yes _ (unwrap_or handling 0) e in
      let p = asked_at_place n m kind mark (rule_at _ _ a).0 in
      (rw (← same) (rule_passed n m t by kind mark handling fits low a ∙ whole), rw p.the_kind p.kind_in_range, rw p.the_mark p.mark_in_range)

  pub change_rule : (c : CodeChange) {k : Kind} {j : Mark} {h : ℕ} → asked_change n m c ≡ Result.Ok (Assignment.Rule k j h) → SetsRule (change_of c) k j h
  unfolding edit_outcome
  change_rule (CodeChange.AddRule k j h) e = sets_rule (add_rule k.0 j.0 h) k.0 j.0 (Some h) (added_rule n m t by k.0 j.0 h) e
  change_rule (CodeChange.TakeRule k j) e = sets_rule (take_rule k.0 j.0) k.0 j.0 None (taken_rule n m t by k.0 j.0) e
  change_rule (CodeChange.AddLink c p) e = absurd (link_no_rule (asked_link (kind_below n c.0) (kind_below n p.0)) true e)
  change_rule (CodeChange.TakeLink c p) e = absurd (link_no_rule (asked_link (kind_below n c.0) (kind_below n p.0)) false e)

  -- the link between two kinds of the book is added or taken
  abbrev pub SetsLink : Change → Kind → Kind → Bool → Type 0
  SetsLink c j k adding = (link_edit n m t by j.0 k.0 adding ≡ edit_outcome n m t by c) × (j.0 < n) × (k.0 < n)

  sets_link : (c : Change) (child parent : ℕ) (b : Bool) → link_call n m t by child parent b ≡ edit_outcome n m t by c → {j k : Kind} {adding : Bool}
      → link_asked (asked_link (kind_below n child) (kind_below n parent)) b ≡ Result.Ok (Assignment.Link j k adding) → SetsLink c j k adding
  sets_link c child parent b whole e =
      let (a, same) = link_yes _ b e in
      let p = asked_between n child parent a in
      (rw (← same) (link_passed n m t by child parent b fits low a ∙ whole), rw p.the_child p.child_below, rw p.the_parent p.parent_below)

  pub change_link : (c : CodeChange) {j k : Kind} {adding : Bool} → asked_change n m c ≡ Result.Ok (Assignment.Link j k adding) → SetsLink (change_of c) j k adding
  unfolding edit_outcome
  change_link (CodeChange.AddRule k j h) e = absurd (rule_no_link (asked_rule (asked_at (kind_below n k.0) (mark_below m j.0)) (bare (Some h))) h e)
  change_link (CodeChange.TakeRule k j) e = absurd (rule_no_link (asked_rule (asked_at (kind_below n k.0) (mark_below m j.0)) (bare None)) 0 e)
  change_link (CodeChange.AddLink c p) e = sets_link (add_link c.0 p.0) c.0 p.0 true (added_link n m t by c.0 p.0) e
  change_link (CodeChange.TakeLink c p) e = sets_link (take_link c.0 p.0) c.0 p.0 false (taken_link n m t by c.0 p.0) e

-- ---- what is then known

module _ {n m : ℕ} {t : Tables} {d : Prepared} (k : Known n m t d) (by : ℕ) (c : Change) where
  pub made_known : {reply : Reply ℕ} {t' : Tables} {d' : Prepared} → leaves reply t' ≡ edit_outcome n m t by c → Tracked n m t' d' → Known n m t' d'
  made_known {reply} {t'} is tracked = record { fits = consistent_shaped after; is_sound = consistent_sound after; tracked = tracked }
    where
      after : Consistent n m t'
      after = subst (Consistent n m) (sym (ap (λ (o : Outcome ℕ). o.tables) is)) (edit_consistent n m t (record { lengths = (has k).lengths; right = (has k).before }) n m by c)
