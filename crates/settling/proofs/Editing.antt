-- One edit at kind e. Before it every entry is its lookup. After it the entries of the kinds that it cannot touch still are, so that once the
-- visited kinds are settled the entries and the count are those of an accepted edit.
--     Accepted                       what an accepted edit leaves and answers: every entry is its lookup, and how many differ from before
--     all_settled                    every mark is settled, whatever the entries were: they and the count are as of an accepted edit
--     rule_awaiting, rule_settled    the own rule of e for a mark is set: what `settle` asks at that mark, and what it then leaves
--     link_awaiting                  the link from e to q is changed: what `settle` asks at every mark
-- Assumes nothing.
use mathlib.Core.Path.{◌≡◌, sym, ◌∙◌, ap, subst, fun_ext}
use mathlib.Core.Logic.{◌⊎◌, inl, inr, ⊎_elim}
use mathlib.Core.Bool.{Bool, false}
use mathlib.Core.List.{List}
use Prim.Native.Nat.{ℕ, ◌+◌, ◌*◌, ◌<◌, ◌≤◌}
use native.Mathlib.Omega.{arith}
use lib.ListN.{length, get_or, set}
use Rattle.inheritance.specs.Above.{Acyclic}
use Rattle.inheritance.specs.Lookup.{lookup, Below}
use Rattle.inheritance.proofs.AboveLaws.{SameBut}
use Rattle.inheritance.proofs.TouchLaws.{below_upto, rule_keeps, link_keeps}
use Rattle.inheritance.specs.Entry.{entry_of}
use Rattle.tables.specs.Tables.{own_of, entry_at, entries_of, differing}
use Rattle.tables.proofs.SoundLaws.{Looked, entries_looked, looked_entries}
use Rattle.relation.specs.declared.KindSet.{KindSet}
use Rattle.propagation.specs.Spread.{Visited}
use Rattle.settling.specs.Settled.{Awaiting, Settled}
use Rattle.settling.proofs.Order.{settled_looked}
use Rattle.deciding.proofs.Preparing.{own_kept}

abbrev pub Accepted : (n m : ℕ) (up : ℕ → ℕ → Bool) (rules old new : List ℕ) (count : ℕ) → Type 0
Accepted n m up rules old new count = (new ≡ entries_of n m up rules) × (count ≡ differing old (entries_of n m up rules))

-- the kinds that are not visited keep their lookups
awaiting : (n m : ℕ) (up up' : ℕ → ℕ → Bool) (rules rules' entries : List ℕ) (visited : KindSet) {lo hi : ℕ} → hi ≤ m
    → ((c j : ℕ) → c < n → lo ≤ j → j < hi → (Visited visited c → ⊥) → lookup n up (own_of m rules j) c ≡ lookup n up' (own_of m rules' j) c)
    → Looked n m up rules entries → Awaiting n m lo hi up' rules' visited entries
unfolding entry_at
awaiting n m up up' rules rules' entries visited high kept before c j hc a b fresh = before c j hc (omega arith) ∙ ap entry_of (kept c j hc a b fresh)

module _ (n m : ℕ) (up : ℕ → ℕ → Bool) (rules old new : List ℕ) (size : length old ≡ n * m) where
  accepted : {lo hi count : ℕ} → Settled n m lo hi up rules old new count
      → ((c j : ℕ) → c < n → j < m → (j < lo) ⊎ (hi ≤ j) → get_or old (c * m + j) 0 ≡ entry_at n m up rules c j) → Accepted n m up rules old new count
  accepted s others =
      let looked : new ≡ entries_of n m up rules = looked_entries n m up rules new (s.size ∙ size) (settled_looked s others) in
      (looked, s.counted ∙ ap (differing old) looked)

  pub all_settled : {count : ℕ} → Settled n m 0 m up rules old new count → Accepted n m up rules old new count
  all_settled s = accepted s (λ c j hc hj out. absurd (⊎_elim (λ less. omega arith) (λ more. omega arith) out))

module _ (n m : ℕ) (up : ℕ → ℕ → Bool) (rules entries : List ℕ) (size : length entries ≡ n * m) (acyclic : Acyclic n up) (before : entries ≡ entries_of n m up rules) where
  looked_before : Looked n m up rules entries
  looked_before = entries_looked n m up rules entries before

  module _ (e mark handling : ℕ) (mark-in : mark < m) where
    abbrev rules' : List ℕ
    rules' = set rules (e * m + mark) handling

    pub rule_awaiting : (visited : KindSet) → ((k : ℕ) → k < n → Below n up (own_of m rules' mark) e k → Visited visited k)
        → Awaiting n m mark (mark + 1) up rules' visited entries
    rule_awaiting visited reached =
        awaiting n m up up rules rules' entries visited (omega arith)
        (λ c j hc a b fresh. let same : j ≡ mark = omega arith in
        sym (rule_keeps n up acyclic (own_of m rules' j) (own_of m rules j) e (λ d _ ne. sym (own_kept m rules e mark handling mark-in j d (omega arith) (inl ne))) c hc
        (λ below. fresh (reached c hc (subst (λ (x : ℕ). Below n up (own_of m rules' x) e c) same below)))))
        looked_before

    pub rule_settled : {new : List ℕ} {count : ℕ} → Settled n m mark (mark + 1) up rules' entries new count → Accepted n m up rules' entries new count
    unfolding entry_at
    rule_settled {new} s = accepted n m up rules' entries new size s others
      where
        others : (c j : ℕ) → c < n → j < m → (j < mark) ⊎ (mark + 1 ≤ j) → get_or entries (c * m + j) 0 ≡ entry_at n m up rules' c j
        others c j hc hj out =
            looked_before c j hc hj
            ∙ ap (λ (own : ℕ → Bool). entry_of (lookup n up own c))
            (fun_ext (λ d. own_kept m rules e mark handling mark-in j d hj (inr (λ same. ⊎_elim (λ less. omega arith) (λ more. omega arith) out))))

  module _ (up' : ℕ → ℕ → Bool) (e q : ℕ) (same_but : SameBut n up' up e q) (acyclic' : Acyclic n up') where
    pub link_awaiting : (visited : KindSet) → ((k : ℕ) → k < n → Below n up' (λ _. false) e k → Visited visited k)
        → Awaiting n m 0 m up' rules visited entries
    link_awaiting visited reached =
        awaiting n m up up' rules rules entries visited (omega arith)
        (λ c j hc a b fresh. sym (link_keeps n up' up (own_of m rules j) acyclic' acyclic e q same_but c hc
        (λ up-to. fresh (reached c hc ((below_upto n up' (λ _. false) e c).1 up-to)))))
        looked_before
