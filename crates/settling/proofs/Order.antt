-- Kinds worked out in their order backwards.
--     settling_none                     no kind is worked out
--     settling_kind, settling_skip      the kind at one place more is worked out from its parents; it is not visited
--     settling_few                      the count is at most the number of entries
--     settled                           all kinds are worked out
--     settled_looked                    then every entry is its lookup, where those of the other marks were
-- Assumes nothing.
use mathlib.Core.Path.{◌≡◌, refl, sym, ◌∙◌, ap, subst}
use mathlib.Core.Logic.{◌≢◌, ◌⊎◌, inl, inr, ⊎_elim, by_cases}
use mathlib.Core.Bool.{Bool, true}
use mathlib.Core.List.{List, [], ◌∷◌}
use Prim.Native.Nat.{ℕ, ◌+◌, ◌*◌, ◌<◌, ◌≤◌, zero-le}
use native.Mathlib.Nat.{lt_of_lt_of_le}
use native.Mathlib.Decide.{ℕ_discrete, dec_lt}
use native.Mathlib.Omega.{arith}
use lib.ListN.{length, get_or}
use Rattle.inheritance.specs.Above.{above}
use Rattle.inheritance.proofs.AboveLaws.{link_above}
use Rattle.arranging.specs.Arranged.{Arranged}
use Rattle.relation.specs.declared.KindSet.{KindSet}
use Rattle.relation.specs.declared.Relation.{Relation}
use Rattle.relation.specs.Bit.{bit}
use Rattle.tables.specs.Step.{stepped}
use Rattle.tables.specs.Tables.{entry_at, differing}
use Rattle.tables.proofs.SoundLaws.{Looked, step_looked}
use Rattle.tables.proofs.TableLaws.{differ_le, differing_self, place_split}
use Rattle.propagation.specs.Spread.{Visited}
use Rattle.writing.specs.Written.{Written}
use Rattle.settling.specs.Settled.{Settling, Awaiting, Settled}
use Rattle.deciding.proofs.DecidingLaws.{arranged_acyclic}

differing_le : (xs ys : List ℕ) → differing xs ys ≤ length xs
unfolding differing
differing_le [] ys = zero-le
differing_le (x ∷ xs) [] = zero-le
differing_le (x ∷ xs) (y ∷ ys) = omega (arith, differ_le x y, differing_le xs ys)

module _ (n m lo hi : ℕ) (rows : Relation) (rules : List ℕ) (visited : KindSet) (order : List ℕ) (reach : Relation) (kinds : n ≤ 128) (a : Arranged n rows order reach) where
  abbrev up : ℕ → ℕ → Bool
  up = bit rows

  abbrev at : ℕ → ℕ
  at i = get_or order i 0

  abbrev St : ℕ → List ℕ → List ℕ → ℕ → Type 0
  St t start new count = Settling n m lo hi (bit rows) rules visited order t start new count

  pub settling_none : (entries : List ℕ) → Awaiting n m lo hi (bit rows) rules visited entries → St 0 entries entries 0
  settling_none entries awaiting = record {
    size = refl;
    done = λ i j h l l' early. awaiting (at i) j (a.kinds i h) l l' (λ v. let e = early v in omega arith);
    left = λ i j h l l' late. refl;
    kept = λ c j h l out. refl;
    counted = sym (differing_self entries);
  }

  -- no more entries can differ than there are
  pub settling_few : {t : ℕ} {start new : List ℕ} {count : ℕ} → St t start new count → count ≤ length start
  settling_few {start = start} {new = new} s = omega (arith, s.counted, differing_le start new)

  -- the kind at place i is next
  module _ (t i : ℕ) (next : i + t + 1 ≡ n) {start old : List ℕ} {before : ℕ} (s : St t start old before) where
    i<n : i < n
    i<n = omega arith

    -- its parents are worked out, and so it is worked out from them
    stepped_right : (j : ℕ) → lo ≤ j → j < hi → stepped n m up rules old (at i) j ≡ entry_at n m up rules (at i) j
    stepped_right j l l' = step_looked n m up rules old (omega arith) (arranged_acyclic n rows order reach a) (at i) j (a.kinds i i<n) parents
      where
        parents : (p : ℕ) → p < n → up (at i) p ≡ true → get_or old (p * m + j) 0 ≡ entry_at n m up rules p j
        parents p h u =
            let (k, b, e) = a.each p h in
            let later = a.later i k i<n b (ap (above n up (at i)) e ∙ link_above n up (at i) p u) in
            subst (λ (x : ℕ). get_or old (x * m + j) 0 ≡ entry_at n m up rules x j) e (s.done k j b l l' (λ _. omega arith))

    -- the entries of the kind k are written, and those of another kind stand elsewhere
    elsewhere : (c k j x : ℕ) → hi ≤ m → x < m → (c ≢ k) ⊎ ((x < lo) ⊎ (hi ≤ x)) → lo ≤ j → j < hi → c * m + x ≢ k * m + j
    elsewhere c k j x h l apart b b' e =
        let (same_kind, same-mark) = place_split {k = c} {k' = k} l (lt_of_lt_of_le b' h) e in
        ⊎_elim (λ ne. ne same_kind) (λ out. ⊎_elim (λ less. omega arith) (λ more. omega arith) out) apart

    pub settling_kind : {new : List ℕ} {count : ℕ} → hi ≤ m → Written m lo hi (at i) (stepped n m (bit rows) rules old (at i)) old new count → St (t + 1) start new (before + count)
    settling_kind {new} {count} high w = record {
      size = w.size ∙ s.size;
      done = λ k j h l l' early. by_cases (ℕ_discrete k i)
          (λ (same : k ≡ i). subst (λ (x : ℕ). get_or new (at x * m + j) 0 ≡ entry_at n m up rules (at x) j) (sym same) (w.at j l l' ∙ stepped_right j l l'))
          (λ ne. other (at k) j (omega arith) (inl (apart k h ne)) ∙ s.done k j h l l' (λ v. let e = early v in omega arith));
      left = λ k j h l l' late.
          other (at k) j (omega arith) (inl (apart k h (λ q. omega arith))) ∙ s.left k j h l l' (omega arith);
      kept = λ c j h l out. other c j l (inr out) ∙ s.kept c j h l out;
      counted =
          ap (λ (x : ℕ). x + count) s.counted
          ∙ sym (w.counted start (sym s.size) (λ j l l'. sym (s.left i j i<n l l' (omega arith))));
    }
      where
        apart : (k : ℕ) → k < n → k ≢ i → at k ≢ at i
        apart k h ne e = ne (a.once k i h i<n e)

        other : (c j : ℕ) → j < m → (c ≢ at i) ⊎ ((j < lo) ⊎ (hi ≤ j)) → get_or new (c * m + j) 0 ≡ get_or old (c * m + j) 0
        other c j l out = w.kept (c * m + j) (λ x b b'. elsewhere c (at i) x j high l out b b')

    pub settling_skip : (Visited visited (at i) → ⊥) → St (t + 1) start old before
    settling_skip off = record {
      size = s.size;
      done = λ k j h l l' early. s.done k j h l l' (λ v. let e = early v in
          by_cases (ℕ_discrete k i) (λ (same : k ≡ i). absurd (off (subst (λ (x : ℕ). Visited visited (at x)) same v))) (λ ne. omega arith));
      left = λ k j h l l' late. s.left k j h l l' (omega arith);
      kept = s.kept;
      counted = s.counted;
    }

  pub settled : {old new : List ℕ} {count : ℕ} → St n old new count → Settled n m lo hi (bit rows) rules old new count
  settled {new = new} s = record {
    size = s.size;
    right = λ c j h l l'. let (i, b, e) = a.each c h in
        subst (λ (x : ℕ). get_or new (x * m + j) 0 ≡ entry_at n m up rules x j) e (s.done i j b l l' (λ _. omega arith));
    kept = s.kept;
    counted = s.counted;
  }

-- where the entries of the other marks were their lookups, all are
pub settled_looked : {n m lo hi : ℕ} {up : ℕ → ℕ → Bool} {rules old new : List ℕ} {count : ℕ} → Settled n m lo hi up rules old new count
    → ((c j : ℕ) → c < n → j < m → (j < lo) ⊎ (hi ≤ j) → get_or old (c * m + j) 0 ≡ entry_at n m up rules c j) → Looked n m up rules new
settled_looked {n} {m} {lo} {hi} {up} {rules} {new = new} s others c j hc hj = by_cases (dec_lt j lo)
    (λ low. outside (inl low))
    (λ high. by_cases (dec_lt j hi) (λ inside. s.right c j hc (omega arith) inside) (λ past. outside (inr (omega arith))))
  where
    outside : (j < lo) ⊎ (hi ≤ j) → get_or new (c * m + j) 0 ≡ entry_at n m up rules c j
    outside out = s.kept c j hc hj out ∙ others c j hc hj out
