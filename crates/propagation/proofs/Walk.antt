-- The walk: what grows, step by step. A child of k is a kind that the walk goes on to from k.
--     visited_or_not                       a kind is visited or not
--     now_visited, still                   k is put into the set; the other kinds are in it as they were
--     may_walk                             a child that the test lets through is not visited, and is no stop
--     no_walk                              a child that the code's test leaves out is visited already or is a stop
--     below_trans                          what is below a kind below k is below k
--     grown_none, grown_more               with no step nothing grew; a walk from a kind below k carries on what grew below k
--     Passing                              the walk from k has passed the children of k that are below i: the invariant of its loop
--     pass_none                            k is visited, and no child is passed
--     pass_child, pass_other, pass_next    child i is walked from, or is not to be; there is no child before the next
--     ready, fewer_passing                 in the loop: a walk from child i may start, and fewer kinds are unvisited
--     walked                               every child is passed, so k is walked from
--     touched                              a walk from e that starts with no kind visited visits the kinds below e and no other
-- Assumes nothing.
use mathlib.Core.Path.{◌≡◌, refl, sym, ap, ◌∙◌}
use mathlib.Core.Bool.{Bool, true, false, ◌&&◌, not, or-false, or-true, false≢true}
use mathlib.Core.Logic.{◌≢◌, ◌⊎◌, inl, inr, by_cases, ⊎_elim}
use Prim.Native.Nat.{ℕ, ◌+◌, ◌<◌, ◌≤◌}
use native.Mathlib.Decide.{dec_lt, ℕ_discrete}
use native.Mathlib.Omega.{arith}
use borrow.Author.Count.{below_none, below_more}
use borrow.Author.Tests.{eq-eqb, ne_eqb}
use lib.Dec.{eqb}
use Rattle.inheritance.specs.Lookup.{Below, start, down}
use Rattle.inheritance.proofs.AboveLaws.{count_lt}
use Rattle.relation.specs.declared.KindSet.{KindSet}
use Rattle.relation.specs.Bit.{holds, Gains}
use Rattle.relation.specs.First.{First}
use Rattle.propagation.specs.Spread.{Visited, Unvisited, unvisited, Ready, Grown, Walked, Touched}

true_or_false : (b : Bool) → (b ≡ true) ⊎ (b ≡ false)
true_or_false true = inl refl
true_or_false false = inr refl

pub visited_or_not : (v : KindSet) (j : ℕ) → Visited v j ⊎ Unvisited v j
visited_or_not v j = true_or_false (holds v j)

module _ {k : ℕ} {v u : KindSet} (g : Gains v u (λ q. eqb q k)) where
  pub now_visited : k < 128 → Visited u k
  now_visited h = g.each k h ∙ rw (eq-eqb k k refl) (or-true (holds v k))

  pub still : (j : ℕ) → j < 128 → j ≢ k → holds u j ≡ holds v j
  still j h ne = g.each j h ∙ rw (ne_eqb j k ne) (or-false (holds v j))

pub may_walk : (visited stop : Bool) → (not visited && not stop) ≡ true → (visited ≡ false) × (stop ≡ false)
may_walk true stop e = absurd (false≢true e)
may_walk false true e = absurd (false≢true e)
may_walk false false e = (refl, refl)

pub no_walk : (visited stop : Bool) → (not visited && not stop) ≡ false → stop ≡ false → visited ≡ false → ⊥
no_walk visited stop off free new = false≢true (sym off ∙ rw (new, free) refl)

module _ {n : ℕ} where
  pub ready : {k i : ℕ} {v w : KindSet} → Ready n k v → i < n → Unvisited w i → Ready n i w
  ready r lt new = record { kind_in = lt; room = r.room; fresh = new }

  module _ {k : ℕ} {v u : KindSet} (g : Gains v u (λ q. eqb q k)) (r : Ready n k v) where
    in_set : Visited u k
    in_set = now_visited g (omega (arith, r.kind_in, r.room))

    -- a kind is k, or is in the set as it was before
    after : (j : ℕ) → j < 128 → (j ≡ k) ⊎ (holds u j ≡ holds v j)
    after j lt = by_place (ℕ_discrete j k)
      where
        by_place : Dec (j ≡ k) → (j ≡ k) ⊎ (holds u j ≡ holds v j)
        by_place (yes e) = inl e
        by_place (no ne) = inr (still g j lt ne)

-- v where the loop began, w now
pub record Passing (n : ℕ) (up : ℕ → ℕ → Bool) (own : ℕ → Bool) (k : ℕ) (v w : KindSet) (i : ℕ) : Type 0 where
  pub within : i ≤ n
  pub grown : Grown n up own k v w
  pub passed : (c : ℕ) → c < i → up c k ≡ true → own c ≡ false → Visited w c

module _ {n : ℕ} {up : ℕ → ℕ → Bool} {own : ℕ → Bool} where
  pub below_trans : {k c j : ℕ} → Below n up own k c → Below n up own c j → Below n up own k j
  below_trans b start = b
  below_trans b (down d lt link free) = down (below_trans b d) lt link free

  pub grown_none : {k : ℕ} (v : KindSet) → Grown n up own k v v
  grown_none v = record {
    kept = λ j lt vis. vis;
    below = λ j lt vis new. absurd (false≢true (sym new ∙ vis));
    closed = λ p c pn cn vis new link free. absurd (false≢true (sym new ∙ vis));
  }

  pub grown_more : {k c : ℕ} {u v w : KindSet} → n ≤ 128 → Below n up own k c → Grown n up own k u v → Grown n up own c v w → Grown n up own k u w
  grown_more {v = v} room b g h = record {
    kept = λ j lt vis. h.kept j lt (g.kept j lt vis);
    below = λ j lt vis new. ⊎_elim (λ mid. g.below j lt mid new) (λ mid. below_trans b (h.below j lt vis mid)) (visited_or_not v j);
    closed = λ p c pn cn vis new link free.
        ⊎_elim (λ mid. h.kept c (omega (arith, room)) (g.closed p c pn cn mid new link free)) (λ mid. h.closed p c pn cn vis mid link free) (visited_or_not v p);
  }

  pub pass_none : {k : ℕ} (u : KindSet) → Passing n up own k u u 0
  pass_none {k} u = record {
    within = omega arith;
    grown = grown_none u;
    passed = below_none (λ (c : ℕ). up c k ≡ true → own c ≡ false → Visited u c);
  }

  pass : {k i : ℕ} {v w : KindSet} → Passing n up own k v w i → i < n → (up i k ≡ true → own i ≡ false → Visited w i) → Passing n up own k v w (i + 1)
  pass {k} {i} {w = w} s lt here = record {
    within = omega arith;
    grown = s.grown;
    passed = below_more (λ (c : ℕ). up c k ≡ true → own c ≡ false → Visited w c) i s.passed here;
  }

  pub pass_other : {k i : ℕ} {v w : KindSet} → Passing n up own k v w i → i < n → (own i ≡ false → Unvisited w i → ⊥) → Passing n up own k v w (i + 1)
  pass_other {i = i} {w = w} s lt old = pass s lt (λ link free. ⊎_elim (λ vis. vis) (λ new. absurd (old free new)) (visited_or_not w i))

  pub pass_child : {k i : ℕ} {v u w : KindSet} → n ≤ 128 → k < n → Passing n up own k v u i → i < n → up i k ≡ true → own i ≡ false
      → Walked n up own i u w → Passing n up own k v w (i + 1)
  pass_child {k} {i} {v} {u} {w} room kn s lt link free a = pass on lt (λ _ _. a.first)
    where
      on : Passing n up own k v w i
      on = record {
        within = s.within;
        grown = grown_more room (down start kn link free) s.grown a.grown;
        passed = λ c before l f. a.grown.kept c (omega (arith, room)) (s.passed c before l f);
      }

  pub pass_next : {k i j : ℕ} {v w : KindSet} → First (λ c. up c k) i n j → Passing n up own k v w i → Passing n up own k v w j
  pass_next {k} {i} {j} {w = w} f s = record {
    within = f.high;
    grown = s.grown;
    passed = λ c lt link free. by_cases (dec_lt c i)
        (λ before. s.passed c before link free)
        (λ after. absurd (false≢true (sym (f.none c (omega arith) lt) ∙ link)));
  }

  module _ {k : ℕ} {v u : KindSet} (g : Gains v u (λ q. eqb q k)) (r : Ready n k v) where
    -- k is visited, and the set only grows
    pub fewer_passing : {w : KindSet} {i : ℕ} → Passing n up own k u w i → unvisited n w < unvisited n v
    fewer_passing {w} s =
        count_lt (λ j. not (holds w j)) (λ j. not (holds v j)) n before k r.kind_in
        (rw (s.grown.kept k (omega (arith, r.kind_in, r.room)) (in_set g r)) refl) (rw r.fresh refl)
      where
        before : (j : ℕ) → j < n → not (holds w j) ≡ true → not (holds v j) ≡ true
        before j lt new = ⊎_elim
            (λ (vis : holds v j ≡ true). absurd (false≢true (sym (ap not (s.grown.kept j (omega (arith, r.room)) (was vis (after g r j (omega (arith, r.room)))))) ∙ new)))
            (λ un. rw un refl)
            (visited_or_not v j)
          where
            was : Visited v j → (j ≡ k) ⊎ (holds u j ≡ holds v j) → Visited u j
            was vis (inl e) = rw e (in_set g r)
            was vis (inr e) = e ∙ vis

    pub walked : {w : KindSet} → Passing n up own k u w n → Walked n up own k v w
    walked {w} s = let gr = s.grown in record {
      grown = record {
        kept = λ j lt vis. gr.kept j lt (⊎_elim (λ (e : j ≡ k). rw e (in_set g r)) (λ e. e ∙ vis) (after g r j lt));
        below = λ j lt vis new. ⊎_elim (λ (e : j ≡ k). rw e start) (λ e. gr.below j lt vis (e ∙ new)) (after g r j (omega (arith, r.room)));
        closed = λ p c pn cn vis new link free.
            ⊎_elim (λ (e : p ≡ k). s.passed c cn (rw e at link) free) (λ e. gr.closed p c pn cn vis (e ∙ new) link free) (after g r p (omega (arith, r.room)));
      };
      first = gr.kept k (omega (arith, r.kind_in, r.room)) (in_set g r);
    }

  pub touched : {e : ℕ} {v w : KindSet} → ((j : ℕ) → Unvisited v j) → Walked n up own e v w → Touched n up own e w
  touched {e} {v} {w} none a = record {
    sound = λ j lt vis. a.grown.below j lt vis (none j);
    complete = λ j lt b. reached lt b;
  }
    where
      reached : {j : ℕ} → j < n → Below n up own e j → Visited w j
      reached lt start = a.first
      reached {j} lt (down {p = p} b pn link free) = a.grown.closed p j pn lt (reached pn b) (none p) link free
